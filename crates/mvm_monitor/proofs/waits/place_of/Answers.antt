use Rattle.std.proofs.Common.{◌∙◌, sym, arith, below_more}
use Rattle.mvm_monitor.proofs.Once.{first_woken, first_longest, none_woken, object_at}
use Rattle.mvm_monitor.proofs.waits.place_of.Goals as goal

pub returns-then-waiter-object-clause-found : goal.returns-then-waiter-object-clause-found
returns-then-waiter-object-clause-found c =
    (c.loop-place-test.true, first_woken _ _ _ c.loop-place-test.true (object_at _ _ _ c.loop-place-test.true ∙ c.if-waiter-object.true) c.loop-place.invariant)

pub returns-then-waiter-object-clause-thread : goal.returns-then-waiter-object-clause-thread
returns-then-waiter-object-clause-thread c =
    λ d. first_longest _ _ _ d c.loop-place-test.true (object_at _ _ _ c.loop-place-test.true ∙ c.if-waiter-object.true) c.loop-place.invariant

pub loop-place-preserved : goal.loop-place-preserved
loop-place-preserved c = below_more _ _ c.loop-place.invariant (λ e. c.if-waiter-object.false (sym (object_at _ _ _ c.loop-place-test.true) ∙ e))

pub returns-clause-none : goal.returns-clause-none
returns-clause-none c = none_woken _ _ (λ k h. c.loop-place.invariant k (omega (arith, h)))
