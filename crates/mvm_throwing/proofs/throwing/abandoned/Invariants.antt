use Rattle.std.proofs.Common.{◌≡◌, length}
use Rattle.mvm_history.specs.declared.limits.Limits.{Limits}
use Rattle.mvm_current.specs.Keys.{frames_named, AreKeys, IsStackOf}
use Rattle.mvm_throwing.proofs.throwing.abandoned.Given as goal

abbrev pub decreases-loop-key : goal.decreases-loop-key
decreases-loop-key l = length (frames_named l._isolate l.stack)

abbrev pub invariant-loop-key : goal.invariant-loop-key
invariant-loop-key l = record {
  keys : AreKeys l._isolate l.stack;
  limits : (limits : Limits) → IsStackOf limits l.fn.stack → IsStackOf limits l.stack;
}
