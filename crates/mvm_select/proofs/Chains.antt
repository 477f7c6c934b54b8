-- Whatever chain of methods leads from one to another that it overrides, one method between is enough.
use Rattle.std.proofs.Common.{◌≡◌, ℕ, Bool, true, false, List, Option, Some, None, refl, subst, ◌∙◌, ◌⊎◌, inl, inr}
use Rattle.std.specs.Prelude.{◌&&◌, ◌||◌}
use Rattle.std.proofs.lemmas.Bool.{and_parts, or_cases}
use Rattle.std.proofs.lemmas.Slice.Eq.{bytes_eq-Decides}
use Rattle.mvm_layout.specs.declared.parts.Parts.{Parts}
use Rattle.mvm_set.specs.Family.{Family, file, first, Inherits}
use Rattle.mvm_set.specs.Names.{own_name, package_of, is_same}
use Rattle.mvm_select.specs.Families.{Stands, IsKnown}
use Rattle.mvm_select.specs.Methods.{Methods, is_public_or_protected, is_not_private}
use Rattle.mvm_select.specs.Names.{of_one_package, share_package}
use Rattle.mvm_select.specs.Overriding.{may_override, Overrides, same, direct, through, OverridesThat}
use Rattle.mvm_select.proofs.Trees.{inherits_trans, inherits_stands, stands_trans}

pub both : (a b : Bool) → a ≡ true → b ≡ true → (a && b) ≡ true
both a b e f = rw (e, f) refl

pub or_left : (a b : Bool) → a ≡ true → (a || b) ≡ true
or_left a b e = rw e refl

pub or_right : (a b : Bool) → b ≡ true → (a || b) ≡ true
or_right true b e = refl
or_right false b e = e

pub bool_cases : (a : Bool) → (a ≡ true) ⊎ (a ≡ false)
bool_cases true = inl refl
bool_cases false = inr refl

-- ---- flags and packages

pub share_trans : (a b c : Parts) → share_package a b ≡ true → share_package b c ≡ true → share_package a c ≡ true
unfolding share_package
share_trans a b c e f = by (own_name a) (own_name b) (own_name c) e f
  where
    by : (n m k : Option (List ℕ)) → of_one_package n m ≡ true → of_one_package m k ≡ true → of_one_package n k ≡ true
    by (Some n) (Some m) (Some k) e f =
        (bytes_eq-Decides (package_of n) (package_of k)).1 ((bytes_eq-Decides (package_of n) (package_of m)).0 e ∙ (bytes_eq-Decides (package_of m) (package_of k)).0 f)
    by (Some n) (Some m) None e f = absurd cc
    by (Some n) None k e f = absurd cc
    by None m k e f = absurd cc

-- what it takes to override
pub record May (flags : Methods) (class base : Parts) : Type 0 where
  pub own : is_not_private (flags class) ≡ true
  pub opens : (is_public_or_protected (flags base) ≡ true) ⊎ ((is_not_private (flags base) ≡ true) × (share_package class base ≡ true))

pub may_parts : (flags : Methods) (class base : Parts) → may_override flags class base ≡ true → May flags class base
unfolding may_override
may_parts flags class base e =
    let h = and_parts (is_not_private (flags class)) (is_public_or_protected (flags base) || (is_not_private (flags base) && share_package class base)) e in
    record {
      own = h.0;
      opens = elim (or_cases (is_public_or_protected (flags base)) (is_not_private (flags base) && share_package class base) h.1) [
        | inl w ↦ inl w
        | inr n ↦ inr (and_parts (is_not_private (flags base)) (share_package class base) n)
      ];
    }

pub may_wide : (flags : Methods) (class base : Parts) → is_not_private (flags class) ≡ true → is_public_or_protected (flags base) ≡ true → may_override flags class base ≡ true
unfolding may_override
may_wide flags class base n w = both (is_not_private (flags class)) _ n (or_left (is_public_or_protected (flags base)) _ w)

pub may_near : (flags : Methods) (class base : Parts) → is_not_private (flags class) ≡ true → is_not_private (flags base) ≡ true → share_package class base ≡ true → may_override flags class base ≡ true
unfolding may_override
may_near flags class base n m s =
    both (is_not_private (flags class)) _ n (or_right (is_public_or_protected (flags base)) _ (both (is_not_private (flags base)) (share_package class base) m s))

-- ---- chains

-- steps, one after the other
pub data Chain (flags : Methods) : Family → Family → Type 0 where
  here : (one : Family) → Chain flags one one
  step : {one next base : Family} → Inherits one next → may_override flags (file one) (file next) ≡ true → Chain flags next base → Chain flags one base

joined_chain : {flags : Methods} {one third base : Family} → Chain flags one third → Chain flags third base → Chain flags one base
joined_chain (here one) c = c
joined_chain (step i m d) c = step i m (joined_chain d c)

chain_of : {flags : Methods} {one base : Family} → Overrides flags one base → Chain flags one base
chain_of (same one) = here one
chain_of (direct i m) = step i m (here _)
chain_of (through a b) = joined_chain (chain_of a) (chain_of b)

-- the base stands at or above a class
pub record Above (base : Parts) (x : Family) : Type 0 where
  pub last : Family
  pub stands : Stands x last
  pub is_base : is_same (file last) base ≡ true

pub above_then : (base : Parts) (x y : Family) → Stands x y → Above base y → Above base x
above_then base x y s a = record { last = a.last; stands = stands_trans s a.stands; is_base = a.is_base }

-- a public or protected method between, where that of the base is neither
pub record Between (flags : Methods) (base : Parts) (x : Family) : Type 0 where
  pub third : Family
  pub inherits : Inherits x third
  pub may_third : may_override flags (file x) (file third) ≡ true
  pub is_wide : is_public_or_protected (flags (file third)) ≡ true
  pub may_base : may_override flags (file third) base ≡ true
  pub above : Above base third
  pub is_narrow : is_public_or_protected (flags base) ≡ false

-- the class is the base, or its method overrides that of the base directly, or with one method between
pub data Short (flags : Methods) (base : Parts) (x : Family) : Type 0 where
  at : is_same (file x) base ≡ true → Short flags base x
  near : may_override flags (file x) base ≡ true → Above base x → Short flags base x
  over : Between flags base x → Short flags base x

-- one step more
longer : (flags : Methods) (base : Parts) (x next : Family) → Inherits x next → may_override flags (file x) (file next) ≡ true → IsKnown base next → Short flags base next → Short flags base x
longer flags base x next i m known (at e) =
    near (subst (λ (z : Parts). may_override flags (file x) z ≡ true) (known next first e) m) (record { last = next; stands = inherits_stands i; is_base = e })
longer flags base x next i m known (near n a) =
    let p = may_parts flags (file x) (file next) m in
    let q = may_parts flags (file next) base n in
    elim p.opens [
      | inl w ↦ elim (bool_cases (is_public_or_protected (flags base))) [
        | inl v ↦ near (may_wide flags (file x) base p.own v) (above_then base x next (inherits_stands i) a)
        | inr v ↦ over (record { third = next; inherits = i; may_third = m; is_wide = w; may_base = n; above = a; is_narrow = v })
      ]
      | inr s ↦ near (elim q.opens [
        | inl w ↦ may_wide flags (file x) base p.own w
        | inr t ↦ may_near flags (file x) base p.own t.0 (share_trans (file x) (file next) base s.1 t.1)
      ]) (above_then base x next (inherits_stands i) a)
    ]
longer flags base x next i m known (over b) =
    let p = may_parts flags (file x) (file next) m in
    over (record {
      third = b.third;
      inherits = inherits_trans i b.inherits;
      may_third = may_wide flags (file x) (file b.third) p.own b.is_wide;
      is_wide = b.is_wide;
      may_base = b.may_base;
      above = b.above;
      is_narrow = b.is_narrow;
    })

chain_short : (flags : Methods) (base : Parts) {x last : Family} → IsKnown base x → Chain flags x last → is_same (file last) base ≡ true → Short flags base x
chain_short flags base known (here x) e = at e
chain_short flags base known (step {one = x} {next = next} i m d) e =
    let rest : IsKnown base next = λ one s. known one (stands_trans (inherits_stands i) s) in
    longer flags base x next i m rest (chain_short flags base rest d e)

pub short_of : (flags : Methods) (base : Parts) (x : Family) → IsKnown base x → OverridesThat flags base x → Short flags base x
short_of flags base x known o = chain_short flags base known (chain_of o.overridden) o.is_base
