use Rattle.std.proofs.Common.{◌≡◌, drop}
use Rattle.mvm_check.specs.Instructions.{targets_of_rows}
use Rattle.mvm_check.specs.Starts.{begins}
use Rattle.std.specs.List.{list_all}
use Rattle.mvm_check.proofs.instruction.rows_begin.Given as goal

abbrev pub invariant-loop-i : goal.invariant-loop-i
invariant-loop-i l = list_all (begins l.starts) (targets_of_rows (drop l.i l.choice.rows)) ≡ list_all (begins l.starts) (targets_of_rows l.choice.rows)
