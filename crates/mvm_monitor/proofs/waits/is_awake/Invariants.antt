use Rattle.std.proofs.Common.{◌≡◌, drop}
use Rattle.mvm_monitor.specs.Waits.{is_awake}
use Rattle.mvm_monitor.proofs.waits.is_awake.Given as goal

abbrev pub invariant-loop-waiter : goal.invariant-loop-waiter
invariant-loop-waiter l = is_awake l.thread (drop l.waiter-index l.waiters) ≡ is_awake l.thread l.waiters
