use Rattle.mvm_monitor.proofs.Once.{kept_woken}
use Rattle.mvm_monitor.proofs.waits.WaitList.notify.Goals as goal

pub invariant_of-self : goal.invariant_of-self
invariant_of-self c =
    rw (c.remove-waiter.ensures.items, c.remove-waiter.ensures.capacity, ← c.deref.ensures.value, c.in_ok-place.ensures.found.1)
    (rw c.deref.ensures.value (kept_woken _ c.args.object _ _ c.self.invariant))
