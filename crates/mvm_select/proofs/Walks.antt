-- A class's walk has each class from which it inherits, once.
use Rattle.std.proofs.Common.{◌≡◌, ℕ, Bool, true, false, List, [], ◌∷◌, ◌++◌, Option, Some, None, refl, sym, ap, subst, ◌∙◌, inl, inr}
use Rattle.std.specs.Prelude.{not}
use Rattle.std.proofs.lemmas.Slice.Eq.{bytes_eq-Decides}
use Rattle.mvm_layout.specs.declared.parts.Parts.{Parts}
use Rattle.mvm_shape.specs.Members.{same_text}
use Rattle.mvm_set.specs.ClassOf.{own_walk}
use Rattle.mvm_set.specs.Family.{Family, family, Families, file, name, Inherits, visited, all_visited, walk}
use Rattle.mvm_set.specs.Names.{own_name, is_same}
use Rattle.mvm_set.specs.Once.{once}
use Rattle.mvm_select.specs.Families.{Stands, IsWhole}
use Rattle.mvm_select.specs.MostSpecific.{supers}
use Rattle.mvm_select.specs.Names.{has_class}
use Rattle.mvm_select.proofs.Lists.{In, in_filter, filter_in, any_in, in_any}
use Rattle.mvm_select.proofs.Trees.{in_stands, stands_in, rest_inherits, inherits_stands, no_circle}

-- ---- names

pub same_names : (one other : Option (List ℕ)) → same_text one other ≡ true → one ≡ other
same_names (Some a) (Some b) e = ap Some ((bytes_eq-Decides a b).0 e)
same_names (Some a) None e = absurd cc
same_names None other e = absurd cc

-- a class of the same name passes the same tests
pub same_by : (one other : Family) (base : Parts) → name one ≡ name other → is_same (file other) base ≡ true → is_same (file one) base ≡ true
same_by one other base n e = ap (λ (m : Option (List ℕ)). same_text m (own_name base)) n ∙ e

-- two of the base's name are of one name
pub same_of : (one other : Family) (base : Parts) → is_same (file one) base ≡ true → is_same (file other) base ≡ true → is_same (file one) (file other) ≡ true
same_of one other base e f = by (sym (same_names (own_name (file other)) (own_name base) f)) e
  where
    by : own_name base ≡ own_name (file other) → same_text (own_name (file one)) (own_name base) ≡ true → same_text (own_name (file one)) (own_name (file other)) ≡ true
    by n e = ap (same_text (own_name (file one))) (sym n) ∙ e

-- ---- each name once

once_in : {A : Type 0} (name : A → Option (List ℕ)) (xs : List A) (x : A) → In (once name xs) x → In xs x
once_in name [] x h = h
once_in name (y ∷ ys) x (inl e) = inl e
once_in name (y ∷ ys) x (inr h) = inr (once_in name ys x (in_filter (λ other. not (same_text (name other) (name y))) (once name ys) x h))

-- one of this name stands there
pub record Kept {A : Type 0} (name : A → Option (List ℕ)) (xs : List A) (x : A) : Type 0 where
  pub item : A
  pub is_in : In (once name xs) item
  pub same : name item ≡ name x

in_once : {A : Type 0} (name : A → Option (List ℕ)) (xs : List A) (x : A) → In xs x → Kept name xs x
in_once name [] x h = absurd h
in_once name (y ∷ ys) x (inl e) = record { item = y; is_in = inl refl; same = ap name e }
in_once name (y ∷ ys) x (inr h) = let k = in_once name ys x h in by k (same_text (name k.item) (name y)) refl
  where
    by : (k : Kept name ys x) (b : Bool) → same_text (name k.item) (name y) ≡ b → Kept name (y ∷ ys) x
    by k true e = record { item = y; is_in = inl refl; same = sym (same_names (name k.item) (name y) e) ∙ k.same }
    by k false e = record {
      item = k.item;
      is_in = inr (filter_in (λ other. not (same_text (name other) (name y))) (once name ys) k.item k.is_in (ap not e));
      same = k.same;
    }

-- ---- walks

pub walk_stands : (x y : Family) → In (walk x) y → Stands x y
unfolding walk
walk_stands x y h = in_stands x y (once_in name (visited x) y h)

kept_in_walk : (x y : Family) → Stands x y → Kept name (visited x) y
kept_in_walk x y s = in_once name (visited x) y (stands_in x y s)

-- a class's own walk has the base where the base stands above it
pub own_has : (x : Family) (base : Parts) → has_class (own_walk x).walk base ≡ true → (y : Family) × Stands x y × (is_same (file y) base ≡ true)
unfolding has_class own_walk
own_has x base e = let p = in_any (λ (other : Parts). is_same other base) file (walk x) e in (p.item, walk_stands x p.item p.is_in, p.passes)

pub has_own : (x y : Family) (base : Parts) → Stands x y → is_same (file y) base ≡ true → has_class (own_walk x).walk base ≡ true
unfolding has_class own_walk walk
has_own x y base s e = let k = kept_in_walk x y s in any_in (λ (other : Parts). is_same other base) file (walk x) k.item k.is_in (same_by k.item y base k.same e)

-- ---- the walk of a class whose names are apart

pub in_walk : (class : Family) → IsWhole class → (y : Family) → Stands class y → In (walk class) y
unfolding walk
in_walk class whole y s =
    let k = kept_in_walk class y s in
    let t = walk_stands class k.item k.is_in in
    subst (In (walk class)) (whole.alike k.item y t s (same_by k.item y (file y) k.same (whole.named y s))) k.is_in

pub supers_inherit : (p : Parts) (u c : Families) (y : Family) → In (supers (walk (family p u c))) y → Inherits (family p u c) y
unfolding walk visited
supers_inherit p u c y h =
    rest_inherits p u c y (once_in name (all_visited c ++ all_visited u) y
    (in_filter (λ other. not (same_text (name other) (name (family p u c)))) (once name (all_visited c ++ all_visited u)) y h))

pub inherits_supers : (p : Parts) (u c : Families) → IsWhole (family p u c) → (y : Family) → Inherits (family p u c) y → In (supers (walk (family p u c))) y
unfolding walk visited
inherits_supers p u c whole y i =
    elim (in_walk (family p u c) whole y (inherits_stands i)) [
      | inl e ↦ absurd (no_circle (subst (λ (z : Family). Inherits z y) e i))
      | inr h ↦ h
    ]
