use Rattle.std.proofs.Common.{◌≡◌, ◌++◌, length, take}
use Rattle.std.specs.List.{flat_map}
use Rattle.mvm_classfile.specs.Writing.{u2, written_row}
use Rattle.mvm_classfile.proofs.members.push_rows.Given as goal

abbrev pub invariant-loop-row : goal.invariant-loop-row
invariant-loop-row l = l.bytes.items ≡ l.fn.bytes.items ++ (u2 (length l.rows) ++ flat_map written_row (take l.row-index l.rows))
