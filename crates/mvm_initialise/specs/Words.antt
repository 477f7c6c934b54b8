-- Whether the words of all that a call makes are there, which is asked before it makes anything.
use Rattle.std.specs.Prelude.{ℕ, ◌+◌, nat_lt, if◌then◌else◌, Result, Ok}
use Rattle.mvm_heap.specs.Heap.{words}
use Rattle.mvm_native.specs.declared.out.Thrown.TheVariants.{OutOfMemoryError}
use Rattle.mvm_isolate.specs.Isolate.{Isolate, stopped}
use Rattle.mvm_isolate.specs.declared.stop.Stop.{Stop}

-- so many words more are within the heap, or that they are missing is thrown
unfoldable pub has_words : ℕ → Isolate → Result (Unit {0}) Stop
has_words wanted s = if nat_lt s.heap.size (words s.heap.objects + wanted) then stopped OutOfMemoryError else Ok tt
