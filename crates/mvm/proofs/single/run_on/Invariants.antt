-- So many attempts were made, and before each of them one could be made.
use Rattle.std.proofs.Common.{◌≡◌}
use Rattle.mvm_interp.specs.Names.{names}
use Rattle.mvm.proofs.Attempts.{left_of, IsWithin, Made}
use Rattle.mvm.proofs.single.run_on.Given as goal

abbrev pub invariant-attempts : goal.invariant-attempts
invariant-attempts g l = record {
  files : l.task.isolate.files ≡ l.table.files;
  made : Made l.table.files (names l.initial.task) (names l.task);
  within : IsWithin (names l.task);
}

abbrev pub decreases-attempts : goal.decreases-attempts
decreases-attempts g l = left_of (names l.task)
