use Rattle.std.proofs.Common.{◌≡◌, map, take}
use Rattle.mvm_heap.specs.Heap.{object_at}
use Rattle.mvm_native.specs.Links.{int_in}
use Rattle.mvm_native.proofs.link.ints.Given as goal

abbrev pub invariant-loop-place : goal.invariant-loop-place
invariant-loop-place l = l.items.items ≡ map int_in (take l.place (object_at l.heap.state.objects l.array).contents)
