-- How many fields stand before a place, as a file has them counted.
use Rattle.std.proofs.Common.{◌≡◌, ℕ, zero, suc, false, List, [], ◌∷◌, take, Option, Some, None, refl, ap}
use Rattle.std.specs.Prelude.{slice_get}
use Rattle.mvm_layout.specs.declared.parts.Member.{Member}
use Rattle.mvm_set.specs.FieldPlaces.{count_of, count_like, fields_before}
use Rattle.mvm_table.specs.Slots.{is_static_field}

all_taken : (fields : List Member) (index : ℕ) → slice_get fields index ≡ None → take index fields ≡ fields
all_taken [] zero e = refl
all_taken [] (suc index) e = refl
all_taken (field ∷ fields) zero e = absurd cc
all_taken (field ∷ fields) (suc index) e = ap (λ (rest : List Member). field ∷ rest) (all_taken fields index e)

pub before_place : (fields : List Member) (index before : ℕ) → fields_before fields index ≡ Some before → count_of (is_static_field (slice_get fields index)) (take index fields) ≡ before
unfolding fields_before
before_place fields index before e = by (slice_get fields index) e
  where
    by : (found : Option Member) → count_like (take index fields) found ≡ Some before → count_of (is_static_field found) (take index fields) ≡ before
    by (Some field) e = cc
    by None e = absurd cc

pub behind_all : (fields : List Member) (index : ℕ) → fields_before fields index ≡ None → count_of (is_static_field (slice_get fields index)) (take index fields) ≡ count_of false fields
unfolding fields_before
behind_all fields index e = by (slice_get fields index) refl e
  where
    by : (found : Option Member) → slice_get fields index ≡ found → count_like (take index fields) found ≡ None → count_of (is_static_field found) (take index fields) ≡ count_of false fields
    by (Some field) here e = absurd cc
    by None here e = ap (count_of false) (all_taken fields index here)
