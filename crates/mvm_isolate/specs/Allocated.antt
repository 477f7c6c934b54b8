-- What an attempt comes to where the heap made an object, or did not.
use Rattle.std.specs.Prelude.{ℕ, Result, Ok, Err}
use Rattle.mvm_heap.specs.declared.kind.AllocFault.{AllocFault}
use Rattle.mvm_heap.specs.declared.kind.AllocFault.TheVariants as fault
use Rattle.mvm_native.specs.declared.out.Thrown.TheVariants.{OutOfMemoryError}
use Rattle.mvm_isolate.specs.declared.stop.Stop.{Stop}
use Rattle.mvm_isolate.specs.declared.stop.Stop.TheVariants.{Throw, OutOfMemory}

abbrev pub stopped_alloc : AllocFault → Stop
stopped_alloc fault.Full = Throw OutOfMemoryError
stopped_alloc fault.OutOfMemory = OutOfMemory

abbrev pub made_or : Result ℕ AllocFault → Result ℕ Stop
made_or (Ok object) = Ok object
made_or (Err refused) = Err (stopped_alloc refused)
