use Rattle.std.proofs.Common.{◌≡◌, take}
use Rattle.std.specs.Prelude.{map}
use Rattle.mvm_shape.specs.Members.{field_part}
use Rattle.mvm_shape.proofs.kept_parts.field_parts.Given as goal

abbrev pub invariant-loop-field : goal.invariant-loop-field
invariant-loop-field l = l.parts ≡ map (field_part l.pool) (take l.field-index l.fields)
