-- The fields of a file by their sort: static fields, and instance fields (JVM Specification 4.5).
use Rattle.std.specs.Prelude.{◌≡◌, ℕ, List, take, length, Bool, true, false, not, Option, Some, None, slice_get}
use Rattle.std.specs.List.{filter}
use Rattle.mvm_layout.specs.Flags.{is_static}
use Rattle.mvm_layout.specs.declared.parts.Member.{Member}
use Rattle.mvm_set.specs.declared.field_places.FieldPlaces.{FieldPlaces}

-- a field is static, or is not
abbrev pub is_of : Bool → Member → Bool
is_of true field = is_static field.flags
is_of false field = not (is_static field.flags)

-- how many fields are static, or are not
abbrev pub count_of : Bool → List Member → ℕ
count_of statics fields = length (filter (is_of statics) fields)

-- how many of these are of the sort of a field, if there is one
abbrev pub count_like : List Member → Option Member → Option ℕ
count_like fields (Some field) = Some (count_of (is_static field.flags) fields)
count_like fields None = None

-- How many fields of its own sort stand before the field of a place, if there is a field of that place.
unfoldable pub fields_before : List Member → ℕ → Option ℕ
fields_before fields index = count_like (take index fields) (slice_get fields index)

-- the fields of a file are counted
pub record ArePlaces (fields : List Member) (places : FieldPlaces) : Type 0 where
  pub before : (index : ℕ) → slice_get places.before.items index ≡ fields_before fields index
  pub instance : places.instance ≡ count_of false fields
