-- What the methods of Thread do (Java SE 8 API, java.lang.Thread). The Runnable is its first field; the second holds its number
-- and 1, or 0 before it was started.
use Rattle.std.specs.Prelude.{ℕ, zero, suc, ◌≤◌, List, None}
use Rattle.mvm_base.specs.declared.value.Word.{Word}
use Rattle.mvm_heap.specs.Heap.{number_at, written}
use Rattle.mvm_heap.specs.Objects.{Object}
use Rattle.mvm_heap.specs.Sorts.{bits_of}
use Rattle.mvm_history.specs.declared.limits.TheConstants.{MOST_THREADS}
use Rattle.mvm_native.specs.declared.out.Out.{Out}
use Rattle.mvm_native.specs.declared.out.Out.TheVariants.{Value, Throw, Start, Join}
use Rattle.mvm_native.specs.declared.out.Thrown.TheVariants.{IllegalThreadStateException}
use Rattle.mvm_native.specs.Machine.{Machine}
use Rattle.mvm_native.specs.Throwables.{HasTwo}

-- the constructors: what it is to run, which may be null
unfoldable pub init_thread : ℕ → Word → Machine → Out × Machine
init_thread n target m = (Value None, record m { heap = record m.heap { objects = written m.heap.objects n 0 (bits_of target) } })

abbrev pub started_or_start : ℕ → ℕ → Out
started_or_start n zero = Start n
started_or_start n (suc thread) = Throw IllegalThreadStateException

-- start
unfoldable pub start : ℕ → Machine → Out
start n m = started_or_start n (number_at m.heap.objects n 1)

abbrev pub returned_or_join : ℕ → Out
returned_or_join zero = Value None
returned_or_join (suc thread) = Join thread

-- join: of a thread that was not started it returns at once
unfoldable pub join : ℕ → Machine → Out
join n m = returned_or_join (number_at m.heap.objects n 1)

pub record IsThread (os : List Object) (n : ℕ) : Type 0 where
  pub object : HasTwo os n
  pub number : number_at os n 1 ≤ MOST_THREADS
