-- Fields are counted by sort, one after the other.
use Rattle.std.proofs.Common.{◌≡◌, ℕ, ◌+◌, zero, suc, Bool, true, false, cond, List, [], ◌∷◌, ◌++◌, take, length, Option, Some, None, refl, sym, ap, ◌∙◌, arith}
use Rattle.std.specs.Prelude.{not, slice_get}
use Rattle.std.specs.List.{filter}
use Rattle.mvm_layout.specs.Flags.{is_static}
use Rattle.mvm_layout.specs.declared.parts.Member.{Member}
use Rattle.mvm_set.specs.FieldPlaces.{is_of, count_of, count_like, fields_before}

-- the counts of fields, from how many static and how many other fields stand before them
abbrev pub counts : ℕ → ℕ → List Member → List ℕ
counts statics instance [] = []
counts statics instance (field ∷ fields) =
    cond (is_static field.flags) (statics ∷ counts (statics + 1) instance fields) (instance ∷ counts statics (instance + 1) fields)

abbrev so_far : ℕ → ℕ → Bool → ℕ
so_far statics instance true = statics
so_far statics instance false = instance

abbrev counted_on : ℕ → ℕ → List Member → Option Member → Option ℕ
counted_on statics instance fields (Some field) = Some (so_far statics instance (is_static field.flags) + count_of (is_static field.flags) fields)
counted_on statics instance fields None = None

after_static : (statics instance : ℕ) (field : Member) (fields : List Member) (found : Option Member) → is_static field.flags ≡ true
    → counted_on (statics + 1) instance fields found ≡ counted_on statics instance (field ∷ fields) found
after_static statics instance field fields None e = refl
after_static statics instance field fields (Some other) e = by (is_static other.flags)
  where
    by : (b : Bool) → Some (so_far (statics + 1) instance b + count_of b fields) ≡ Some (so_far statics instance b + count_of b (field ∷ fields))
    by true = let n : count_of true (field ∷ fields) ≡ suc (count_of true fields) = rw e refl in ap Some (omega (arith, n))
    by false = rw e refl

after_other : (statics instance : ℕ) (field : Member) (fields : List Member) (found : Option Member) → is_static field.flags ≡ false
    → counted_on statics (instance + 1) fields found ≡ counted_on statics instance (field ∷ fields) found
after_other statics instance field fields None e = refl
after_other statics instance field fields (Some other) e = by (is_static other.flags)
  where
    by : (b : Bool) → Some (so_far statics (instance + 1) b + count_of b fields) ≡ Some (so_far statics instance b + count_of b (field ∷ fields))
    by true = rw e refl
    by false = let n : count_of false (field ∷ fields) ≡ suc (count_of false fields) = rw e refl in ap Some (omega (arith, n))

counts_on : (statics instance : ℕ) (fields : List Member) (index : ℕ) → slice_get (counts statics instance fields) index ≡ counted_on statics instance (take index fields) (slice_get fields index)
counts_on statics instance [] zero = refl
counts_on statics instance [] (suc index) = refl
counts_on statics instance (field ∷ fields) zero = by (is_static field.flags)
  where
    by : (b : Bool) → slice_get (cond b (statics ∷ counts (statics + 1) instance fields) (instance ∷ counts statics (instance + 1) fields)) 0 ≡ Some (so_far statics instance b + count_of b [])
    by true = ap Some (omega arith)
    by false = ap Some (omega arith)
counts_on statics instance (field ∷ fields) (suc index) = by (is_static field.flags) refl (counts_on (statics + 1) instance fields index) (counts_on statics (instance + 1) fields index)
  where
    by : (b : Bool) → is_static field.flags ≡ b
        → slice_get (counts (statics + 1) instance fields) index ≡ counted_on (statics + 1) instance (take index fields) (slice_get fields index)
        → slice_get (counts statics (instance + 1) fields) index ≡ counted_on statics (instance + 1) (take index fields) (slice_get fields index)
        → slice_get (cond b (statics ∷ counts (statics + 1) instance fields) (instance ∷ counts statics (instance + 1) fields)) (suc index) ≡ counted_on statics instance (field ∷ take index fields) (slice_get fields index)
    by true e one other = one ∙ after_static statics instance field (take index fields) (slice_get fields index) e
    by false e one other = other ∙ after_other statics instance field (take index fields) (slice_get fields index) e

-- from none before
pub counts_all : (fields : List Member) (before : List ℕ) (index : ℕ) → before ≡ counts 0 0 fields → slice_get before index ≡ fields_before fields index
unfolding fields_before
counts_all fields before index e = ap (λ (ns : List ℕ). slice_get ns index) e ∙ counts_on 0 0 fields index ∙ by (slice_get fields index)
  where
    by : (found : Option Member) → counted_on 0 0 (take index fields) found ≡ count_like (take index fields) found
    by None = refl
    by (Some field) = none (is_static field.flags)
      where
        none : (b : Bool) → Some (so_far 0 0 b + count_of b (take index fields)) ≡ Some (count_of b (take index fields))
        none true = ap Some (omega arith)
        none false = ap Some (omega arith)
