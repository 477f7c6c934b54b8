use Rattle.std.proofs.Common.{◌≡◌, ◌-◌, take, drop}
use Rattle.mvm_heap.specs.Heap.{object_at}
use Rattle.mvm_native.proofs.string.units_of.Given as goal

abbrev pub invariant-loop-place : goal.invariant-loop-place
invariant-loop-place l = l.units.items ≡ take (l.place - l.start) (drop l.start (object_at l.heap.state.objects l.string).contents)
