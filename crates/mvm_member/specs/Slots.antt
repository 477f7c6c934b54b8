-- How this crate finds the slot of a static field: by the place of the field in its file. Of private functions alone.
use Rattle.std.specs.Prelude.{ℕ, List, take, true, if◌then◌else◌, Option, Some, None, slice_get}
use Rattle.mvm_layout.specs.Flags.{is_static}
use Rattle.mvm_layout.specs.declared.parts.Member.{Member}
use Rattle.mvm_set.specs.FieldPlaces.{count_of}

-- how many static fields stand before a field, if it is static
abbrev pub slot_behind : List Member → Option Member → Option ℕ
slot_behind fields (Some field) = if is_static field.flags then Some (count_of true fields) else None
slot_behind fields None = None

abbrev pub slot_at : List Member → ℕ → Option ℕ
slot_at fields index = slot_behind (take index fields) (slice_get fields index)

abbrev pub slot_found : List Member → Option ℕ → Option ℕ
slot_found fields (Some index) = slot_at fields index
slot_found fields None = None
