use Rattle.std.proofs.Common.{◌≡◌, ◌++◌, drop}
use Rattle.std.specs.Prelude.{flat_map}
use Rattle.mvm_disassembler.specs.Steps.{row_text}
use Rattle.mvm_disassembler.proofs.write_code.push_rows.Given as goal

-- with the rows that are left all are written
abbrev pub invariant-loop-row : goal.invariant-loop-row
invariant-loop-row l = l.out ++ flat_map (row_text l.pool l.begins) (drop l.row-index l.rows) ≡ l.initial.out ++ flat_map (row_text l.pool l.begins) l.rows
