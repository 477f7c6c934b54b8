use Rattle.mvm_monitor.proofs.Once.{kept_none}
use Rattle.mvm_monitor.proofs.waits.WaitList.new.Goals as goal

pub invariant_of-result : goal.invariant_of-result
invariant_of-result c = kept_none _ _ _ c.in_ok-waiters.ensures.items c.in_ok-waiters.ensures.capacity
