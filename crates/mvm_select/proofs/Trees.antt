-- What stands above a class: chains of steps, sizes, the line and the visit.
use Rattle.std.proofs.Common.{◌≡◌, ℕ, ◌+◌, ◌<◌, ◌≤◌, true, false, Bool, List, [], ◌∷◌, ◌++◌, refl, sym, ap, subst, ◌∙◌, ◌⊎◌, inl, inr, arith}
use Rattle.std.proofs.lemmas.List.{append-nil}
use Rattle.mvm_layout.specs.declared.parts.Parts.{Parts}
use Rattle.mvm_set.specs.Family.{Family, family, Families, none, more, Among, first, later, over_first, across_first, Inherits, from_class, from_interface, line, lines, visited, all_visited}
use Rattle.mvm_select.specs.Families.{Stands, class_above, IsOneAtMost}
use Rattle.mvm_select.proofs.Lists.{In, in_left, in_right, in_cases}

abbrev is_more : Families → Bool
is_more none = false
is_more (more one others) = true

among_more : {x : Family} {ones : Families} → Among x ones → is_more ones ≡ true
among_more first = refl
among_more (later a) = refl
among_more (over_first a) = refl
among_more (across_first a) = refl

pub not_among : {x : Family} → Among x none → ⊥
not_among a = let k = among_more a in cc

-- ---- steps

among_trans : {x y : Family} {ones : Families} → Inherits x y → Among x ones → Among y ones
among_trans (from_class a) first = over_first a
among_trans (from_interface a) first = across_first a
among_trans i (later b) = later (among_trans i b)
among_trans i (over_first b) = over_first (among_trans i b)
among_trans i (across_first b) = across_first (among_trans i b)

pub inherits_trans : {x y z : Family} → Inherits x y → Inherits y z → Inherits x z
inherits_trans (from_class a) j = from_class (among_trans j a)
inherits_trans (from_interface a) j = from_interface (among_trans j a)

pub inherits_stands : {x y : Family} → Inherits x y → Stands x y
inherits_stands (from_class a) = over_first a
inherits_stands (from_interface a) = across_first a

pub stands_cases : {x y : Family} → Stands x y → (x ≡ y) ⊎ Inherits x y
stands_cases first = inl refl
stands_cases (later a) = absurd (not_among a)
stands_cases (over_first a) = inr (from_class a)
stands_cases (across_first a) = inr (from_interface a)

pub stands_inherits : {x y z : Family} → Stands x y → Inherits y z → Inherits x z
stands_inherits {x = x} {y = y} {z = z} s i = elim (stands_cases s) [ inl e ↦ subst (λ (w : Family). Inherits w z) (sym e) i | inr j ↦ inherits_trans j i ]

pub inherits_then : {x y z : Family} → Inherits x y → Stands y z → Inherits x z
inherits_then {x = x} {y = y} {z = z} i s = elim (stands_cases s) [ inl e ↦ subst (λ (w : Family). Inherits x w) e i | inr j ↦ inherits_trans i j ]

pub stands_trans : {x y z : Family} → Stands x y → Stands y z → Stands x z
stands_trans {x = x} {y = y} {z = z} s t = elim (stands_cases s) [ inl e ↦ subst (λ (w : Family). Stands w z) (sym e) t | inr i ↦ inherits_stands (inherits_then i t) ]

-- ---- sizes

abbrev mutual
  size : Family → ℕ
  size (family p u c) = 1 + (sizes u + sizes c)

  sizes : Families → ℕ
  sizes none = 0
  sizes (more one others) = size one + sizes others

among_size : {y : Family} {ones : Families} → Among y ones → size y ≤ sizes ones
among_size (first {one = one} {others = others}) = omega arith
among_size (later {other = other} {others = others} a) = let h = among_size a in omega (arith, h)
among_size (over_first {parts = p} {above = u} {across = c} {others = others} a) = let h = among_size a in omega (arith, h)
among_size (across_first {parts = p} {above = u} {across = c} {others = others} a) = let h = among_size a in omega (arith, h)

inherits_size : {x y : Family} → Inherits x y → size y < size x
inherits_size (from_class {parts = p} {above = u} {across = c} a) = let h = among_size a in omega (arith, h)
inherits_size (from_interface {parts = p} {above = u} {across = c} a) = let h = among_size a in omega (arith, h)

-- no class inherits from itself
pub no_circle : {x : Family} → Inherits x x → ⊥
no_circle {x = x} i = let h = inherits_size i in omega (arith, h)

-- ---- the visit

pub in_here : (one : Family) → In (visited one) one
unfolding visited
in_here (family p u c) = inl refl

pub among_in : {y : Family} {ones : Families} → Among y ones → In (all_visited ones) y
unfolding visited
among_in (first {one = one} {others = others}) = in_left (visited one) (all_visited others) one (in_here one)
among_in {y = y} (later {other = other} {others = others} a) = in_right (visited other) (all_visited others) y (among_in a)
among_in {y = y} (over_first {parts = p} {above = u} {across = c} {others = others} a) =
    in_left (visited (family p u c)) (all_visited others) y (inr (in_right (all_visited c) (all_visited u) y (among_in a)))
among_in {y = y} (across_first {parts = p} {above = u} {across = c} {others = others} a) =
    in_left (visited (family p u c)) (all_visited others) y (inr (in_left (all_visited c) (all_visited u) y (among_in a)))

mutual
  unfolding visited

  in_among : (ones : Families) (y : Family) → In (all_visited ones) y → Among y ones
  in_among none y h = absurd h
  in_among (more one others) y h = elim (in_cases (visited one) (all_visited others) y h) [ inl a ↦ in_first one others y a | inr b ↦ later (in_among others y b) ]

  in_first : (one : Family) (others : Families) (y : Family) → In (visited one) y → Among y (more one others)
  in_first (family p u c) others y (inl e) = subst (λ (z : Family). Among z (more (family p u c) others)) e first
  in_first (family p u c) others y (inr h) =
      elim (in_cases (all_visited c) (all_visited u) y h) [ inl a ↦ across_first (in_among c y a) | inr b ↦ over_first (in_among u y b) ]

pub in_stands : (x y : Family) → In (visited x) y → Stands x y
in_stands x y h = in_first x none y h

pub stands_in : (x y : Family) → Stands x y → In (visited x) y
unfolding visited
stands_in x y s = elim (in_cases (visited x) [] y (among_in s)) [ inl a ↦ a | inr b ↦ absurd b ]

-- those behind the first of the visit are those from which the class inherits
pub rest_inherits : (p : Parts) (u c : Families) (y : Family) → In (all_visited c ++ all_visited u) y → Inherits (family p u c) y
rest_inherits p u c y h = elim (in_cases (all_visited c) (all_visited u) y h) [ inl a ↦ from_interface (in_among c y a) | inr b ↦ from_class (in_among u y b) ]

-- ---- the line

mutual
  unfolding line

  line_first : (one : Family) (others : Families) (y : Family) → In (line one) y → Among y (more one others)
  line_first (family p u c) others y (inl e) = subst (λ (z : Family). Among z (more (family p u c) others)) e first
  line_first (family p u c) others y (inr h) = over_first (lines_among u y h)

  lines_among : (ones : Families) (y : Family) → In (lines ones) y → Among y ones
  lines_among none y h = absurd h
  lines_among (more one others) y h = elim (in_cases (line one) (lines others) y h) [ inl a ↦ line_first one others y a | inr b ↦ later (lines_among others y b) ]

pub line_stands : (x y : Family) → In (line x) y → Stands x y
line_stands x y h = line_first x none y h

abbrev pub Single : Family → Type 0
Single class = (one : Family) → Stands class one → IsOneAtMost (class_above one)

mutual
  unfolding line

  -- a class inherits from those behind it in a line
  pub behind_inherits : (class : Family) → Single class → (before behind : List Family) (x y : Family) → line class ≡ before ++ x ∷ behind → In behind y → Inherits x y
  behind_inherits (family p u c) s [] behind x y e h =
      let head : family p u c ≡ x = cc in
      let tail : lines u ≡ behind = cc in
      subst (λ (w : Family). Inherits w y) head (from_class (lines_among u y (subst (λ (zs : List Family). In zs y) (sym tail) h)))
  behind_inherits (family p u c) s (b ∷ before) behind x y e h = let tail : lines u ≡ before ++ x ∷ behind = cc in lines_inherit u (s (family p u c) first) (λ one t. s one (over_first t)) before behind x y tail h

  lines_inherit : (u : Families) → IsOneAtMost u → ((one : Family) → Among one u → IsOneAtMost (class_above one)) → (before behind : List Family) (x y : Family) → lines u ≡ before ++ x ∷ behind → In behind y → Inherits x y
  lines_inherit none o s [] behind x y e h = absurd cc
  lines_inherit none o s (b ∷ before) behind x y e h = absurd cc
  lines_inherit (more one others) o s before behind x y e h =
      behind_inherits one (λ z t. s z (subst (λ (zs : Families). Among z (more one zs)) (sym o) t)) before behind x y
      (sym (append-nil (line one)) ∙ ap (λ (zs : Families). line one ++ lines zs) (sym o) ∙ e) h
