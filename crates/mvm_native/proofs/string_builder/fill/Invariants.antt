use Rattle.std.proofs.Common.{◌≡◌, ◌++◌, take}
use Rattle.mvm_heap.specs.Heap.{object_at}
use Rattle.mvm_native.specs.Builders.{begun}
use Rattle.mvm_native.proofs.string_builder.fill.Given as goal

abbrev pub invariant-loop-i : goal.invariant-loop-i
invariant-loop-i l = l.heap.state ≡ record l.fn.heap.state { objects = begun l.fn.heap.state.objects l.array (take l.from (object_at l.fn.heap.state.objects l.array).contents ++ take l.i l.units) }
