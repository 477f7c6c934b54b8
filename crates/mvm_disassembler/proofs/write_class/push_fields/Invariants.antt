use Rattle.std.proofs.Common.{◌≡◌, ◌++◌, drop}
use Rattle.std.specs.Prelude.{flat_map}
use Rattle.mvm_disassembler.specs.Steps.{field_text}
use Rattle.mvm_disassembler.proofs.write_class.push_fields.Given as goal

-- with the fields that are left all are written
abbrev pub invariant-loop-field : goal.invariant-loop-field
invariant-loop-field l = l.out ++ flat_map (field_text l.pool) (drop l.field-index l.fields) ≡ l.initial.out ++ flat_map (field_text l.pool) l.fields
