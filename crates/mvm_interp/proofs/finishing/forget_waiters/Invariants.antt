use Rattle.std.proofs.Common.{◌≡◌}
use Rattle.std.specs.Prelude.{length}
use Rattle.mvm_isolate.specs.Numbered.{named}
use Rattle.mvm_isolate.specs.Sound.{Grows}
use Rattle.mvm_interp.specs.Finishing.{others, with_waiting}
use Rattle.mvm_interp.proofs.finishing.forget_waiters.Given as goal

abbrev pub invariant-waiters : goal.invariant-waiters
invariant-waiters l = record {
  rest : with_waiting (others l.object (named l.isolate).waits.waiters) (named l.isolate) ≡ with_waiting (others l.object (named l.initial.isolate).waits.waiters) (named l.initial.isolate);
  links : l.isolate.env.links ≡ l.initial.isolate.env.links;
  grows : Grows l.initial.isolate l.isolate;
}

abbrev pub decreases-waiters : goal.decreases-waiters
decreases-waiters l = length (named l.isolate).waits.waiters
