-- The table has the files that it had at first.
use Rattle.std.proofs.Common.{◌≡◌}
use Rattle.mvm_classes.proofs.measure.ask_times.Given as goal

abbrev pub invariant-loop-word : goal.invariant-loop-word
invariant-loop-word g l = l.table.files ≡ l.initial.table.files
