use Rattle.std.proofs.Common.{◌≡◌, ◌++◌, length}
use Rattle.std.specs.Prelude.{option_map}
use Rattle.mvm_statement.specs.Lines.{rows_in}
use Rattle.mvm_statement.proofs.read_lines.key_rows.Given as goal

-- what is done, and the rows of what is left, are the rows
abbrev pub invariant-loop-rest : goal.invariant-loop-rest
invariant-loop-rest l = rows_in l.operands ≡ option_map (λ rows. l.all ++ rows) (rows_in l.rest)

abbrev pub decreases-loop-rest : goal.decreases-loop-rest
decreases-loop-rest l = length l.rest
