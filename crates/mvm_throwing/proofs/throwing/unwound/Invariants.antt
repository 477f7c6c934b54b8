use Rattle.std.proofs.Common.{◌≡◌, length}
use Rattle.mvm_history.specs.declared.limits.Limits.{Limits}
use Rattle.mvm_current.specs.Keys.{frames_named, AreKeys, IsStackOf}
use Rattle.mvm_isolate.specs.Numbered.{look_of, named}
use Rattle.mvm_isolate.specs.Sound.{Grows}
use Rattle.mvm_throwing.specs.Throwing.{unwound}
use Rattle.mvm_throwing.proofs.throwing.unwound.Given as goal

abbrev pub decreases-loop-key : goal.decreases-loop-key
decreases-loop-key l = length (frames_named l.isolate l.stack)

abbrev pub invariant-loop-key : goal.invariant-loop-key
invariant-loop-key l = record {
  same : unwound (look_of l.isolate) l.thread (frames_named l.isolate l.stack) (l.passing, named l.isolate) ≡ unwound (look_of l.fn.isolate) l.thread (frames_named l.fn.isolate l.fn.stack) (l.object, named l.fn.isolate);
  keys : AreKeys l.isolate l.stack;
  limits : (limits : Limits) → IsStackOf limits l.fn.stack → IsStackOf limits l.stack;
  links : l.isolate.env.links ≡ l.fn.isolate.env.links;
  grows : Grows l.fn.isolate l.isolate;
}
