use Rattle.std.proofs.Common.{◌≡◌, ◌<◌, ℕ, get_or}
use Rattle.mvm_native.specs.Texts.{units_at}
use Rattle.mvm_native.proofs.string.same_units.Given as goal

abbrev pub invariant-loop-place : goal.invariant-loop-place
invariant-loop-place l = (k : ℕ) → k < l.place → get_or (units_at l.heap.state.objects l.string) k 0 ≡ get_or (units_at l.heap.state.objects l.other) k 0
