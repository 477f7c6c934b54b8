use Rattle.std.proofs.Common.{drop}
use Rattle.mvm_starting.proofs.Supers.{Doing}
use Rattle.mvm_starting.proofs.initialising.superinterfaces_first.Given as goal

abbrev pub invariant-loop-i : goal.invariant-loop-i
invariant-loop-i g l = Doing l.fn.isolate l.isolate l.fn.stack l.stack l.thread l.owns (drop l.i l.owns)
