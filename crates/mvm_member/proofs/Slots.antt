-- The slot of a static field, found by the place of the first field of its name and descriptor.
use Rattle.std.proofs.Common.{◌≡◌, ℕ, zero, suc, List, [], ◌∷◌, take, Bool, true, false, cond, Option, Some, None, refl, sym, ap, ◌∙◌}
use Rattle.std.specs.Prelude.{slice_get}
use Rattle.std.specs.Option.{option_map}
use Rattle.mvm_classfile.specs.Kept.{AreApart}
use Rattle.mvm_layout.specs.Flags.{is_static}
use Rattle.mvm_layout.specs.declared.parts.Item.{Item}
use Rattle.mvm_layout.specs.declared.parts.Member.{Member}
use Rattle.mvm_layout.specs.declared.parts.Parts.{Parts}
use Rattle.mvm_mirror.specs.Statics.{place_in, slot_of, statics_in}
use Rattle.mvm_mirror.proofs.Slots.{slot_is_count}
use Rattle.mvm_set.specs.FieldPlaces.{count_of}
use Rattle.mvm_set.specs.Members.{is_member, field_at}
use Rattle.mvm_member.specs.Slots.{slot_behind, slot_found}
use Rattle.mvm_member.proofs.Apart.{first_here}

-- a static field of a name and descriptor
record IsThere (pool : List Item) (name desc : List ℕ) (fields : List Member) : Type 0 where
  index : ℕ
  field : Member
  stands : slice_get fields index ≡ Some field
  is : is_member pool name desc field ≡ true
  static : is_static field.flags ≡ true

module _ (pool : List Item) (name desc : List ℕ) where
  behind : (m : Member) (ms : List Member) → IsThere pool name desc ms → IsThere pool name desc (m ∷ ms)
  behind m ms there = record { index = suc there.index; field = there.field; stands = there.stands; is = there.is; static = there.static }

  -- where there is a slot, there is such a field
  field_of_slot : (ms : List Member) (slot : ℕ) → place_in pool name desc (statics_in ms) ≡ Some slot → IsThere pool name desc ms
  field_of_slot [] slot e = absurd cc
  field_of_slot (m ∷ ms) slot e = by (is_static m.flags) refl e (λ k h. field_of_slot ms k h)
    where
      Later : Type 0
      Later = (k : ℕ) → place_in pool name desc (statics_in ms) ≡ Some k → IsThere pool name desc ms

      rest : (found : Option ℕ) → place_in pool name desc (statics_in ms) ≡ found → option_map suc found ≡ Some slot → Later → IsThere pool name desc (m ∷ ms)
      rest (Some k) f h later = behind m ms (later k f)
      rest None f h later = absurd cc

      front : (b : Bool) → is_static m.flags ≡ true → is_member pool name desc m ≡ b → cond b (Some zero) (option_map suc (place_in pool name desc (statics_in ms))) ≡ Some slot → Later → IsThere pool name desc (m ∷ ms)
      front true s is h later = record { index = 0; field = m; stands = refl; is = is; static = s }
      front false s is h later = rest (place_in pool name desc (statics_in ms)) refl h later

      by : (b : Bool) → is_static m.flags ≡ b → place_in pool name desc (cond b (m ∷ statics_in ms) (statics_in ms)) ≡ Some slot → Later → IsThere pool name desc (m ∷ ms)
      by true s h later = front (is_member pool name desc m) s refl h later
      by false s h later = behind m ms (later slot h)

field_of : (name desc : List ℕ) (file : Parts) (slot : ℕ) → slot_of name desc file ≡ Some slot → IsThere file.pool name desc file.fields
unfolding slot_of
field_of name desc file slot e = field_of_slot file.pool name desc file.fields slot e

place_of_field : (name desc : List ℕ) (file : Parts) (there : IsThere file.pool name desc file.fields) → AreApart file.pool file.fields → field_at name desc file ≡ Some there.index
unfolding field_at
place_of_field name desc file there apart = first_here file.pool name desc file.fields there.index there.field apart there.stands there.is

pub slot_is : (name desc : List ℕ) (file : Parts) → AreApart file.pool file.fields → slot_found file.fields (field_at name desc file) ≡ slot_of name desc file
slot_is name desc file apart = by (slot_of name desc file) refl
  where
    fields : List Member
    fields = file.fields

    by : (slot : Option ℕ) → slot_of name desc file ≡ slot → slot_found fields (field_at name desc file) ≡ slot
    by (Some slot) e =
        let there = field_of name desc file slot e in
        let at : field_at name desc file ≡ Some there.index = place_of_field name desc file there apart in
        let counted : slot_of name desc file ≡ Some (count_of true (take there.index fields)) = slot_is_count name desc file there.index there.field at there.stands there.static in
        ap (slot_found fields) at
        ∙ ap (slot_behind (take there.index fields)) there.stands
        ∙ ap (λ (b : Bool). cond b (Some (count_of true (take there.index fields))) None) there.static
        ∙ sym counted ∙ e
    by None e = none (field_at name desc file) refl
      where
        static : (index : ℕ) (field : Member) (b : Bool) → is_static field.flags ≡ b → field_at name desc file ≡ Some index → slice_get fields index ≡ Some field → cond b (Some (count_of true (take index fields))) None ≡ None
        static index field true s f g = let counted = slot_is_count name desc file index field f g s in absurd cc
        static index field false s f g = refl

        held : (index : ℕ) (found : Option Member) → field_at name desc file ≡ Some index → slice_get fields index ≡ found → slot_behind (take index fields) found ≡ None
        held index (Some field) f g = static index field (is_static field.flags) refl f g
        held index None f g = refl

        none : (index : Option ℕ) → field_at name desc file ≡ index → slot_found fields index ≡ None
        none (Some index) f = held index (slice_get fields index) f refl
        none None f = refl
