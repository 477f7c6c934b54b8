use Rattle.std.proofs.Common.{◌≡◌, take}
use Rattle.mvm_heap.specs.Heap.{object_at}
use Rattle.mvm_native.proofs.string_builder.chars_of.Given as goal

abbrev pub invariant-loop-place : goal.invariant-loop-place
invariant-loop-place l = l.units.items ≡ take l.place (object_at l.heap.state.objects l.array).contents
