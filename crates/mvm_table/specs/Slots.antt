-- The slot of a field: where its value stands, among those of its class or of an object.
use Rattle.std.specs.Prelude.{ℕ, ◌+◌, List, [], ◌∷◌, take, sum_by, Bool, true, false, if◌then◌else◌, Option, Some, None, slice_get}
use Rattle.mvm_layout.specs.Flags.{is_static}
use Rattle.mvm_layout.specs.declared.parts.Member.{Member}
use Rattle.mvm_layout.specs.declared.parts.Parts.{Parts}
use Rattle.mvm_set.specs.FieldPlaces.{count_of}
use Rattle.mvm_set.specs.Names.{is_same}
use Rattle.mvm_set.specs.declared.class.Lineage.{Lineage}
use Rattle.mvm_set.specs.declared.own.OwnWalk.{OwnWalk}

-- how many instance fields these classes declare
abbrev pub instance_fields : List OwnWalk → ℕ
instance_fields owns = sum_by (λ own. count_of false own.file.fields) owns

-- the superclasses of the class of a file, in a line where it stands
abbrev pub above : Parts → List OwnWalk → List OwnWalk
above file [] = []
above file (own ∷ owns) = if is_same own.file file then owns else above file owns

-- how many fields stand before a field in the list where its slot is its place
abbrev pub before : Lineage → OwnWalk → ℕ → Bool → ℕ
before class holder index true = count_of true (take index holder.file.fields)
before class holder index false = instance_fields (above holder.file class.line) + count_of false (take index holder.file.fields)

abbrev pub is_static_field : Option Member → Bool
is_static_field (Some field) = is_static field.flags
is_static_field None = false

-- The slot of a field of a holder above a class: of a static field its place among the static fields of its holder; of another its place
-- in the list of the instance fields of its holder's superclasses, farthest first, and then of its holder.
unfoldable pub slot_of : Lineage → OwnWalk → ℕ → ℕ
slot_of class holder index = before class holder index (is_static_field (slice_get holder.file.fields index))
