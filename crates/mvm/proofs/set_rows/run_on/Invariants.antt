use Rattle.std.proofs.Common.{◌≡◌}
use Rattle.mvm.proofs.set_rows.run_on.Given as goal

abbrev pub invariant-loop : goal.invariant-loop
invariant-loop g l = record { files : l.task.isolate.files ≡ l.table.files }
