use Rattle.std.proofs.Common.{◌≡◌, ◌++◌, drop}
use Rattle.std.specs.List.{flat_map}
use Rattle.mvm_statement.specs.Tokens.{behind_blank}
use Rattle.mvm_statement.specs.Lines.{spelled_rows}
use Rattle.mvm_statement.proofs.write_operands.write_rows.Given as goal

-- what is written, with the rows that are left, is all of them
abbrev pub invariant-loop-row : goal.invariant-loop-row
invariant-loop-row l = l.out ++ flat_map behind_blank (spelled_rows (drop l.row-index l.rows)) ≡ l.initial.out ++ flat_map behind_blank (spelled_rows l.rows)
