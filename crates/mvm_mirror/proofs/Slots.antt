-- The slot of a static field is how many static fields stand before it.
use Rattle.std.proofs.Common.{◌≡◌, ℕ, zero, suc, ◌+◌, ◌<◌, ◌≤◌, List, [], ◌∷◌, length, take, Bool, true, false, cond, Some, refl, sym, ap, ◌∙◌, arith}
use Rattle.std.specs.Prelude.{slice_get}
use Rattle.std.specs.List.{filter}
use Rattle.std.specs.Option.{option_map}
use Rattle.mvm_layout.specs.Flags.{is_static}
use Rattle.mvm_layout.specs.declared.parts.Item.{Item}
use Rattle.mvm_layout.specs.declared.parts.Member.{Member}
use Rattle.mvm_layout.specs.declared.parts.Parts.{Parts}
use Rattle.mvm_set.specs.FieldPlaces.{is_of, count_of, count_like, fields_before}
use Rattle.mvm_set.specs.Members.{is_member, member_from, field_at}
use Rattle.mvm_mirror.specs.Statics.{place_in, slot_of, statics_in, statics_of}
use Rattle.mvm_mirror.proofs.Places.{place_below}

-- a place is not before that from which it is counted
from_there : (at : ℕ) (pool : List Item) (name desc : List ℕ) (ms : List Member) (i : ℕ) → member_from at pool name desc ms ≡ Some i → at ≤ i
from_there at pool name desc [] i e = absurd cc
from_there at pool name desc (m ∷ ms) i e = by (is_member pool name desc m) e (λ h. from_there (at + 1) pool name desc ms i h)
  where
    by : (b : Bool) → cond b (Some at) (member_from (at + 1) pool name desc ms) ≡ Some i → (member_from (at + 1) pool name desc ms ≡ Some i → at + 1 ≤ i) → at ≤ i
    by true e after = let h : at ≡ i = cc in omega (arith, h)
    by false e after = omega (arith, after e)

module _ (pool : List Item) (name desc : List ℕ) where
  -- the member at the place itself
  here : (at : ℕ) (m : Member) (ms : List Member) (b : Bool) → cond b (Some at) (member_from (at + 1) pool name desc ms) ≡ Some (at + 0) → b ≡ true
  here at m ms true e = refl
  here at m ms false e = absurd (omega (arith, from_there (at + 1) pool name desc ms (at + 0) e))

  -- one before it
  later : (at k : ℕ) (m : Member) (ms : List Member) (b : Bool) → cond b (Some at) (member_from (at + 1) pool name desc ms) ≡ Some (at + suc k) → (b ≡ false) × (member_from (at + 1) pool name desc ms ≡ Some (at + 1 + k))
  later at k m ms true e = absurd (let h : at ≡ at + suc k = cc in omega (arith, h))
  later at k m ms false e = (refl, e ∙ ap (λ (i : ℕ). Some i) (omega arith))

  counted : (at k : ℕ) (ms : List Member) (field : Member) → member_from at pool name desc ms ≡ Some (at + k) → slice_get ms k ≡ Some field → is_static field.flags ≡ true
      → place_in pool name desc (statics_in ms) ≡ Some (count_of true (take k ms))
  counted at k [] field e g s = absurd cc
  counted at zero (m ∷ ms) field e g s =
      let is : m ≡ field = cc in
      let static : is_static m.flags ≡ true = ap (λ (f : Member). is_static f.flags) is ∙ s in
      let named : is_member pool name desc m ≡ true = here at m ms (is_member pool name desc m) e in
      ap (λ (b : Bool). place_in pool name desc (cond b (m ∷ statics_in ms) (statics_in ms))) static
      ∙ ap (λ (b : Bool). cond b (Some zero) (option_map suc (place_in pool name desc (statics_in ms)))) named
  counted at (suc k) (m ∷ ms) field e g s =
      let after = later at k m ms (is_member pool name desc m) e in
      let rest : place_in pool name desc (statics_in ms) ≡ Some (count_of true (take k ms)) = counted (at + 1) k ms field after.1 g s in
      by (is_static m.flags) after.0 rest
    where
      by : (b : Bool) → is_member pool name desc m ≡ false → place_in pool name desc (statics_in ms) ≡ Some (count_of true (take k ms))
          → place_in pool name desc (cond b (m ∷ statics_in ms) (statics_in ms)) ≡ Some (length (cond b (m ∷ filter (is_of true) (take k ms)) (filter (is_of true) (take k ms))))
      by true n r =
          ap (λ (c : Bool). cond c (Some zero) (option_map suc (place_in pool name desc (statics_in ms)))) n
          ∙ ap (option_map suc) r
      by false n r = r

pub slot_is_count : (name desc : List ℕ) (file : Parts) (index : ℕ) (field : Member) → field_at name desc file ≡ Some index → slice_get file.fields index ≡ Some field → is_static field.flags ≡ true
    → slot_of name desc file ≡ Some (count_of true (take index file.fields))
unfolding field_at slot_of
slot_is_count name desc file index field e g s =
    let from_the_first : index ≡ 0 + index = omega arith in
    counted file.pool name desc 0 index file.fields field (e ∙ ap (λ (i : ℕ). Some i) from_the_first) g s

pub slot_is_before : (name desc : List ℕ) (file : Parts) (index slot : ℕ) (field : Member) → field_at name desc file ≡ Some index → slice_get file.fields index ≡ Some field → is_static field.flags ≡ true
    → fields_before file.fields index ≡ Some slot → slot_of name desc file ≡ Some slot
unfolding fields_before
slot_is_before name desc file index slot field e g s b =
    slot_is_count name desc file index field e g s
    ∙ sym (ap (count_like (take index file.fields)) g ∙ ap (λ (sort : Bool). Some (count_of sort (take index file.fields))) s)
    ∙ b

pub slot_below : (name desc : List ℕ) (file : Parts) (slot : ℕ) → slot_of name desc file ≡ Some slot → slot < length (statics_of file)
unfolding slot_of
slot_below name desc file slot e = place_below file.pool name desc (statics_of file) slot e
