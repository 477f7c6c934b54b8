use Rattle.std.proofs.Common.{◌≡◌, ℕ, ◌<◌, get_or}
use Rattle.mvm_monitor.specs.Waits.{objects_of}
use Rattle.mvm_monitor.proofs.waits.place_of.Given as goal

abbrev pub invariant-loop-place : goal.invariant-loop-place
invariant-loop-place l = (k : ℕ) → k < l.place → get_or (objects_of l.waiters) k 0 ≡ l.object → ⊥
