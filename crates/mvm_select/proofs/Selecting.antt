-- What is found along a class's line is the nearest that is looked for.
use Rattle.std.proofs.Common.{◌≡◌, ℕ, Bool, true, false, cond, List, ◌∷◌, ◌++◌, Option, Some, None, refl, sym, ap, subst, ◌∙◌, ◌⊎◌, inl, inr, append_assoc}
use Rattle.std.specs.Prelude.{◌&&◌, ◌||◌, map}
use Rattle.std.specs.List.{find}
use Rattle.std.proofs.lemmas.Bool.{and_parts, or_cases}
use Rattle.mvm_layout.specs.declared.parts.Parts.{Parts}
use Rattle.mvm_set.specs.ClassOf.{own_walk, class_of}
use Rattle.mvm_set.specs.Family.{Family, file, first, Inherits, line, walk}
use Rattle.mvm_set.specs.declared.own.OwnWalk.{OwnWalk}
use Rattle.mvm_select.specs.Families.{Stands, IsWhole, IsKnown, IsFirst, IsNone}
use Rattle.mvm_select.specs.Meaning.{IsOverriding}
use Rattle.mvm_select.specs.Methods.{Methods, is_instance, is_not_private, is_public_or_protected}
use Rattle.mvm_select.specs.Names.{has_class}
use Rattle.mvm_set.specs.Names.{is_same}
use Rattle.mvm_select.specs.Overriding.{may_override, Overrides, same, direct, through, OverridesThat, overrides_directly, overrides_through, overrides}
use Rattle.mvm_select.specs.Selection.{if_through, if_below, or_direct, nearest_not_private, nearest_that_may, nearest_through, nearest_direct, nearest_overriding}
use Rattle.mvm_select.proofs.Lists.{In, in_left, in_middle, in_cases, standing, any_in, in_any, all_from, Split, split_in, find_split, find_none, some_option}
use Rattle.mvm_select.proofs.Trees.{inherits_stands, inherits_then, stands_cases, stands_inherits, stands_trans, line_stands, behind_inherits, no_circle}
use Rattle.mvm_select.proofs.Walks.{own_has, has_own, in_walk, walk_stands, same_of}
use Rattle.mvm_select.proofs.Chains.{both, or_left, or_right, may_parts, may_wide, Above, above_then, Between, Short, at, near, over, short_of}

-- what is found is the first of the classes that is wanted
pub data Nearest (Wanted : Family → Type 0) (classes : List Family) (found : Option OwnWalk) : Type 0 where
  found_one : (x : Family) → IsFirst Wanted classes x → found ≡ Some (own_walk x) → Nearest Wanted classes found
  found_none : IsNone Wanted classes → found ≡ None → Nearest Wanted classes found

-- ---- by a test of each class for itself

pub nearest_by : (test : OwnWalk → Bool) (classes : List Family) → Nearest (λ x. test (own_walk x) ≡ true) classes (find test (map own_walk classes))
nearest_by test classes = elim (some_option (find test (map own_walk classes))) [
  | inl o ↦ (let s = find_split test own_walk classes o.0 o.1 in
      found_one s.item
      (record { before = s.before; behind = s.behind; splits = s.splits; is_wanted = s.passes; none_before = all_from (λ y. test (own_walk y) ≡ true → ⊥) s.before (λ y h. s.none_before y h) })
      (o.1 ∙ ap (λ (own : OwnWalk). Some own) (sym s.is)))
  | inr n ↦ found_none (all_from (λ y. test (own_walk y) ≡ true → ⊥) classes (λ y h. find_none test own_walk classes n y h)) n
]

-- ---- by overriding

module _ (flags : Methods) (base : Parts) (class : Family) (whole : IsWhole class) (known : IsKnown base class) where
  abbrev owns : List OwnWalk
  owns = map own_walk (walk class)

  abbrev is_open : OwnWalk → Bool
  is_open own = is_instance (flags own.file) && is_not_private (flags own.file)

  abbrev is_candidate : OwnWalk → Bool
  is_candidate own = is_instance (flags own.file) && (is_same own.file base || may_override flags own.file base)

  abbrev Wanted : Family → Type 0
  Wanted = IsOverriding flags base

  known_above : (x : Family) → Stands class x → IsKnown base x
  known_above x s y t e = known y (stands_trans s t) e

  -- a method between
  record Third (x : Family) : Type 0 where
    third : Family
    stands : Stands x third
    may_third : may_override flags (file x) (file third) ≡ true
    may_base : may_override flags (file third) base ≡ true
    above : Above base third

  abbrev serves : Family → OwnWalk → Bool
  serves x third = (may_override flags third.file base && has_class third.walk base) && (may_override flags (file x) third.file && has_class (own_walk x).walk third.file)

  through_third : (x : Family) → Stands class x → overrides_through flags owns (own_walk x) base ≡ true → Third x
  unfolding overrides_through own_walk
  through_third x s e =
      let p = in_any (serves x) own_walk (walk class) e in
      let t = walk_stands class p.item p.is_in in
      let h = and_parts (may_override flags (file p.item) base && has_class (own_walk p.item).walk base) (may_override flags (file x) (file p.item) && has_class (own_walk x).walk (file p.item)) p.passes in
      let f = and_parts (may_override flags (file p.item) base) (has_class (own_walk p.item).walk base) h.0 in
      let g = and_parts (may_override flags (file x) (file p.item)) (has_class (own_walk x).walk (file p.item)) h.1 in
      let a = own_has p.item base f.1 in
      let b = own_has x (file p.item) g.1 in
      record {
        third = p.item;
        stands = subst (Stands x) (whole.alike b.0 p.item (stands_trans s b.1) t b.2) b.1;
        may_third = g.0;
        may_base = f.0;
        above = record { last = a.0; stands = a.1; is_base = a.2 };
      }

  third_through : (x : Family) → Stands class x → Third x → overrides_through flags owns (own_walk x) base ≡ true
  unfolding overrides_through own_walk
  third_through x s h =
      let t = stands_trans s h.stands in
      any_in (serves x) own_walk (walk class) h.third (in_walk class whole h.third t)
      (both (may_override flags (file h.third) base && has_class (own_walk h.third).walk base) (may_override flags (file x) (file h.third) && has_class (own_walk x).walk (file h.third))
      (both (may_override flags (file h.third) base) (has_class (own_walk h.third).walk base) h.may_base (has_own h.third h.above.last base h.above.stands h.above.is_base))
      (both (may_override flags (file x) (file h.third)) (has_class (own_walk x).walk (file h.third)) h.may_third (has_own x h.third (file h.third) h.stands (whole.named h.third t))))

  -- ---- what overrides

  step_to : (x y : Family) → Stands x y → may_override flags (file x) (file y) ≡ true → Overrides flags x y
  step_to x y s m = elim (stands_cases s) [ inl e ↦ subst (Overrides flags x) e (same x) | inr i ↦ direct i m ]

  near_overrides : (x : Family) → Stands class x → may_override flags (file x) base ≡ true → Above base x → OverridesThat flags base x
  near_overrides x s m a =
      let q = known a.last (stands_trans s a.stands) a.is_base in
      record { last = a.last; is_base = a.is_base; overridden = step_to x a.last a.stands (subst (λ (z : Parts). may_override flags (file x) z ≡ true) (sym q) m) }

  third_overrides : (x : Family) → Stands class x → Third x → OverridesThat flags base x
  third_overrides x s h =
      let o = near_overrides h.third (stands_trans s h.stands) h.may_base h.above in
      record { last = o.last; is_base = o.is_base; overridden = through (step_to x h.third h.stands h.may_third) o.overridden }

  same_overrides : (x : Family) → is_same (file x) base ≡ true → OverridesThat flags base x
  same_overrides x e = record { last = x; is_base = e; overridden = same x }

  -- ---- the two finds

  -- no class of the line is only reached through a third
  abbrev Direct : Type 0
  Direct = (x : Family) → In (line class) x → is_instance (flags (file x)) ≡ true → Between flags base x → ⊥

  candidate : (x : Family) → In (line class) x → Direct → Wanted x → (is_same (file x) base ≡ true) ⊎ ((may_override flags (file x) base ≡ true) × Above base x)
  candidate x h d w = by (short_of flags base x (known_above x (line_stands class x h)) w.overrides)
    where
      by : Short flags base x → (is_same (file x) base ≡ true) ⊎ ((may_override flags (file x) base ≡ true) × Above base x)
      by (at e) = inl e
      by (near m a) = inr (m, a)
      by (over b) = absurd (d x h w.is_instance b)

  passes : (x : Family) → In (line class) x → Direct → Wanted x → is_candidate (own_walk x) ≡ true
  unfolding own_walk
  passes x h d w =
      both (is_instance (flags (file x))) (is_same (file x) base || may_override flags (file x) base) w.is_instance
      (elim (candidate x h d w) [ inl e ↦ or_left (is_same (file x) base) _ e | inr m ↦ or_right (is_same (file x) base) _ m.0 ])

  is_below : (x : Family) → In (line class) x → Direct → Wanted x → Above base x
  is_below x h d w = elim (candidate x h d w) [ inl e ↦ record { last = x; stands = first; is_base = e } | inr m ↦ m.1 ]

  -- those before the one that was found, it, and those behind it
  from_split : {test : OwnWalk → Bool} {o : OwnWalk} → (s : Split test own_walk (line class) o) → (x : Family) → In (line class) x → In s.before x ⊎ Stands s.item x
  from_split s x h =
      elim (in_cases s.before (s.item ∷ s.behind) x (subst (λ (zs : List Family). In zs x) s.splits h)) [
        | inl b ↦ inl b
        | inr k ↦ inr (elim k [
          | inl e ↦ subst (Stands s.item) e first
          | inr j ↦ inherits_stands (behind_inherits class whole.single s.before s.behind s.item x s.splits j)
        ])
      ]

  direct_nearest : Direct → Nearest Wanted (line class) (if_below base (find is_candidate (map own_walk (line class))))
  unfolding own_walk
  direct_nearest d = elim (some_option (find is_candidate (map own_walk (line class)))) [
    | inl o ↦ (let s = find_split is_candidate own_walk (line class) o.0 o.1 in
        by s (has_class (own_walk s.item).walk base) refl (o.1 ∙ ap (λ (own : OwnWalk). Some own) (sym s.is)))
    | inr n ↦ found_none (all_from (λ y. Wanted y → ⊥) (line class) (λ y h w. find_none is_candidate own_walk (line class) n y h (passes y h d w))) (ap (if_below base) n)
  ]
    where
      before : {o : OwnWalk} → (s : Split is_candidate own_walk (line class) o) → (y : Family) → In s.before y → Wanted y → ⊥
      before s y h w =
          let k : In (line class) y = subst (λ (zs : List Family). In zs y) (sym s.splits) (in_left s.before (s.item ∷ s.behind) y h) in
          s.none_before y h (passes y k d w)

      by : {o : OwnWalk} → (s : Split is_candidate own_walk (line class) o) (b : Bool) → has_class (own_walk s.item).walk base ≡ b
          → find is_candidate (map own_walk (line class)) ≡ Some (own_walk s.item) → Nearest Wanted (line class) (if_below base (find is_candidate (map own_walk (line class))))
      by s true e q =
          let stands = line_stands class s.item (split_in s) in
          let c = and_parts (is_instance (flags (file s.item))) (is_same (file s.item) base || may_override flags (file s.item) base) s.passes in
          let a = own_has s.item base e in
          found_one s.item (record {
            before = s.before;
            behind = s.behind;
            splits = s.splits;
            is_wanted = record {
              is_instance = c.0;
              overrides = elim (or_cases (is_same (file s.item) base) (may_override flags (file s.item) base) c.1) [
                | inl k ↦ same_overrides s.item k
                | inr m ↦ near_overrides s.item stands m (record { last = a.0; stands = a.1; is_base = a.2 })
              ];
            };
            none_before = all_from (λ y. Wanted y → ⊥) s.before (before s);
          }) (ap (if_below base) q ∙ ap (λ (b : Bool). cond b (Some (own_walk s.item)) None) e)
      by s false e q =
          found_none (all_from (λ y. Wanted y → ⊥) (line class) (λ y h w. elim (from_split s y h) [
            | inl b ↦ before s y b w
            | inr t ↦ (let a = above_then base s.item y t (is_below y h d w) in let k = has_own s.item a.last base a.stands a.is_base in cc)
          ])) (ap (if_below base) q ∙ ap (λ (b : Bool). cond b (Some (own_walk s.item)) None) e)

  open_of : (x : Family) → is_instance (flags (file x)) ≡ true → is_not_private (flags (file x)) ≡ true → is_open (own_walk x) ≡ true
  unfolding own_walk
  open_of x i n = both (is_instance (flags (file x))) (is_not_private (flags (file x))) i n

  open_between : (x : Family) → is_instance (flags (file x)) ≡ true → Between flags base x → is_open (own_walk x) ≡ true
  open_between x i b = open_of x i (may_parts flags (file x) (file b.third) b.may_third).own

  -- one before the nearest that may override, and that does so through a third
  nearer : {o : OwnWalk} → (s : Split is_open own_walk (line class) o) → Third s.item → (y : Family) → In s.before y → Wanted y → ⊥
  nearer s h y k w =
      let d = standing s.before y k in
      let splits : line class ≡ d.before ++ y ∷ (d.behind ++ s.item ∷ s.behind) =
      s.splits ∙ ap (λ (zs : List Family). zs ++ s.item ∷ s.behind) d.splits ∙ append_assoc d.before (y ∷ d.behind) (s.item ∷ s.behind) in
      let stands = line_stands class y (subst (λ (zs : List Family). In zs y) (sym splits) (in_middle d.before (d.behind ++ s.item ∷ s.behind) y)) in
      let i = behind_inherits class whole.single d.before (d.behind ++ s.item ∷ s.behind) y s.item splits (in_middle d.behind s.behind s.item) in
      by stands i (short_of flags base y (known_above y stands) w.overrides)
    where
      by : Stands class y → Inherits y s.item → Short flags base y → ⊥
      by t i (at e) =
          let to_last = inherits_then i (stands_trans h.stands h.above.stands) in
          let same_class = whole.alike h.above.last y (stands_trans t (inherits_stands to_last)) t (same_of h.above.last y base h.above.is_base e) in
          no_circle (subst (Inherits y) same_class to_last)
      by t i (near m a) = s.none_before y k (open_of y w.is_instance (may_parts flags (file y) base m).own)
      by t i (over b) = s.none_before y k (open_of y w.is_instance (may_parts flags (file y) (file b.third) b.may_third).own)

  abbrev either : Option OwnWalk → Option OwnWalk
  either found = or_direct (if_through flags owns base found) (if_below base (find is_candidate (map own_walk (line class))))

  -- the nearest method that may override at all does so through a third, or none does
  both_nearest : Nearest Wanted (line class) (either (find is_open (map own_walk (line class))))
  unfolding own_walk
  both_nearest = elim (some_option (find is_open (map own_walk (line class)))) [
    | inl o ↦ (let s = find_split is_open own_walk (line class) o.0 o.1 in
        by s (overrides_through flags owns (own_walk s.item) base) refl (o.1 ∙ ap (λ (own : OwnWalk). Some own) (sym s.is)))
    | inr n ↦ subst (Nearest Wanted (line class)) (sym (ap either n)) (direct_nearest (λ x h i b. find_none is_open own_walk (line class) n x h (open_between x i b)))
  ]
    where
      by : {o : OwnWalk} → (s : Split is_open own_walk (line class) o) (b : Bool) → overrides_through flags owns (own_walk s.item) base ≡ b
          → find is_open (map own_walk (line class)) ≡ Some (own_walk s.item) → Nearest Wanted (line class) (either (find is_open (map own_walk (line class))))
      by s true e q =
          let stands = line_stands class s.item (split_in s) in
          let h = through_third s.item stands e in
          let i = and_parts (is_instance (flags (file s.item))) (is_not_private (flags (file s.item))) s.passes in
          found_one s.item (record {
            before = s.before;
            behind = s.behind;
            splits = s.splits;
            is_wanted = record { is_instance = i.0; overrides = third_overrides s.item stands h };
            none_before = all_from (λ y. Wanted y → ⊥) s.before (λ y k w. nearer s h y k w);
          }) (ap either q ∙ ap (λ (b : Bool). or_direct (cond b (Some (own_walk s.item)) None) (if_below base (find is_candidate (map own_walk (line class))))) e)
      by s false e q =
          subst (Nearest Wanted (line class)) (sym (ap either q ∙ ap (λ (b : Bool). or_direct (cond b (Some (own_walk s.item)) None) (if_below base (find is_candidate (map own_walk (line class))))) e))
          (direct_nearest (λ x h i b. elim (from_split s x h) [
            | inl k ↦ s.none_before x k (open_between x i b)
            | inr t ↦ (let n = and_parts (is_instance (flags (file s.item))) (is_not_private (flags (file s.item))) s.passes in
                let k = third_through s.item (line_stands class s.item (split_in s)) (record {
                  third = b.third;
                  stands = inherits_stands (stands_inherits t b.inherits);
                  may_third = may_wide flags (file s.item) (file b.third) n.1 b.is_wide;
                  may_base = b.may_base;
                  above = b.above;
                }) in cc)
          ]))

pub virtual_nearest : (flags : Methods) (base : Parts) (set : ℕ) (class : Family) → IsWhole class → IsKnown base class
    → Nearest (IsOverriding flags base) (line class) (nearest_overriding flags base (class_of set class))
unfolding nearest_overriding nearest_through nearest_direct class_of own_walk
virtual_nearest flags base set class whole known = by (is_public_or_protected (flags base)) refl
  where
    by : (b : Bool) → is_public_or_protected (flags base) ≡ b
        → Nearest (IsOverriding flags base) (line class) (or_direct (cond b None (if_through flags (map own_walk (walk class)) base (nearest_not_private flags (map own_walk (line class)))))
        (if_below base (nearest_that_may flags base (map own_walk (line class)))))
    by true w = direct_nearest flags base class whole known (λ x h i b. let n = b.is_narrow in cc)
    by false w = both_nearest flags base class whole known

pub overriding_only : (flags : Methods) (base : Parts) (class x : Family) → IsWhole class → IsKnown base class → Stands class x
    → overrides flags (map own_walk (walk class)) (own_walk x) base ≡ true → OverridesThat flags base x
unfolding overrides own_walk
overriding_only flags base class x whole known s e =
    elim (or_cases (is_same (file x) base) (overrides_directly flags (own_walk x) base || overrides_through flags (map own_walk (walk class)) (own_walk x) base) e) [
      | inl k ↦ same_overrides flags base class whole known x k
      | inr r ↦ elim (or_cases (overrides_directly flags (own_walk x) base) (overrides_through flags (map own_walk (walk class)) (own_walk x) base) r) [
        | inl d ↦ (let h = and_parts (may_override flags (file x) base) (has_class (own_walk x).walk base) d in
            let a = own_has x base h.1 in
            near_overrides flags base class whole known x s h.0 (record { last = a.0; stands = a.1; is_base = a.2 }))
        | inr t ↦ third_overrides flags base class whole known x s (through_third flags base class whole known x s t)
      ]
    ]

pub overriding_all : (flags : Methods) (base : Parts) (class x : Family) → IsWhole class → IsKnown base class → Stands class x
    → OverridesThat flags base x → overrides flags (map own_walk (walk class)) (own_walk x) base ≡ true
unfolding overrides own_walk
overriding_all flags base class x whole known s o = by (short_of flags base x (λ y t e. known y (stands_trans s t) e) o)
  where
    by : Short flags base x → (is_same (file x) base || (overrides_directly flags (own_walk x) base || overrides_through flags (map own_walk (walk class)) (own_walk x) base)) ≡ true
    by (at e) = or_left (is_same (file x) base) _ e
    by (near m a) =
        or_right (is_same (file x) base) _ (or_left (overrides_directly flags (own_walk x) base) _
        (both (may_override flags (file x) base) (has_class (own_walk x).walk base) m (has_own x a.last base a.stands a.is_base)))
    by (over b) =
        or_right (is_same (file x) base) _ (or_right (overrides_directly flags (own_walk x) base) _
        (third_through flags base class whole known x s (record { third = b.third; stands = inherits_stands b.inherits; may_third = b.may_third; may_base = b.may_base; above = b.above })))
