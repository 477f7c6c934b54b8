use Rattle.std.proofs.Common.{◌≡◌, take}
use Rattle.mvm_heap.specs.Heap.{object_at}
use Rattle.mvm_native.specs.Strings.{hashed}
use Rattle.mvm_native.proofs.string.hashed.Given as goal

abbrev pub invariant-loop-place : goal.invariant-loop-place
invariant-loop-place l = l.hash ≡ hashed (take l.place (object_at l.heap.state.objects l.string).contents)
