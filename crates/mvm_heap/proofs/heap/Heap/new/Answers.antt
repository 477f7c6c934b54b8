use Rattle.std.proofs.Common.{refl}
use Rattle.mvm_heap.specs.Index.{numbers}
use Rattle.mvm_heap.proofs.heap.Heap.new.Goals as goal

pub returns : goal.returns
unfolding numbers
returns c = rw (c.new-2.ensures.items, c.in_ok-store.ensures) refl
