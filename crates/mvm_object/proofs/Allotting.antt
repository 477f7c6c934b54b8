-- The heap answers that its words are missing, never that the machine's own memory is.
use Rattle.std.proofs.Common.{◌≡◌, ℕ, refl}
use Rattle.std.specs.Prelude.{◌≢◌, Result, Ok, Err}
use Rattle.mvm_base.specs.declared.descriptor.FieldShape.{FieldShape}
use Rattle.mvm_heap.specs.Heap.{placed, zeros}
use Rattle.mvm_heap.specs.Objects.{State}
use Rattle.mvm_heap.specs.declared.kind.AllocFault.{AllocFault}
use Rattle.mvm_heap.specs.declared.kind.ObjectKind.TheVariants as sort
use Rattle.mvm_isolate.specs.Isolate.{Isolate, allocated, new_array}
use Rattle.mvm_isolate.specs.Types.{ReferenceType, of_array, items_of}
use Rattle.mvm_isolate.specs.declared.stop.Stop.{Stop}
use Rattle.mvm_isolate.specs.declared.stop.Stop.TheVariants.{OutOfMemory}

allocated_not_memory : (type : ReferenceType) (s : Isolate) (made : Result (ℕ × State) AllocFault) → allocated type s made ≢ Err OutOfMemory
allocated_not_memory type s (Ok x) e = absurd (let k : allocated type s (Ok x) ≡ Err OutOfMemory = e in cc)
allocated_not_memory type s (Err fault) e = absurd (let k : allocated type s (Err fault) ≡ Err OutOfMemory = e in cc)

pub array_not_memory : (shape : FieldShape) (count : ℕ) (s : Isolate) → new_array shape count s ≢ Err OutOfMemory
unfolding new_array
array_not_memory shape count s = allocated_not_memory (of_array shape) s (placed (zeros (sort.Array (items_of shape)) 0 count) s.heap)
