use Rattle.std.proofs.Common.{◌≡◌, ◌<◌, ℕ, get_or}
use Rattle.mvm_heap.specs.Heap.{object_at}
use Rattle.mvm_heap.proofs.index.has_units.Given as goal

abbrev pub invariant-loop-place : goal.invariant-loop-place
invariant-loop-place l = (k : ℕ) → k < l.place → get_or (object_at l.store.objects l.text).contents k 0 ≡ get_or l.units k 0
