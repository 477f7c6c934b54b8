-- What native methods work on, and what they answer.
use Rattle.std.specs.Prelude.{◌≡◌, ℕ, pos, Bool, true, false, List, Some, Result, Ok, Err}
use Rattle.mvm_base.specs.declared.memory.OutOfMemory.{OutOfMemory}
use Rattle.mvm_base.specs.declared.value.Word.{Word}
use Rattle.mvm_base.specs.declared.value.Word.TheVariants.{Int, Ref}
use Rattle.mvm_heap.specs.Objects.{State}
use Rattle.mvm_heap.specs.declared.kind.AllocFault.{AllocFault}
use Rattle.mvm_history.specs.declared.launch.Launch.{Launch}
use Rattle.mvm_monitor.specs.Waits.{Waits}
use Rattle.mvm_native.specs.declared.env.Env.{Env}
use Rattle.mvm_native.specs.declared.env.LinkUse.{LinkUse}
use Rattle.mvm_native.specs.declared.out.Out.{Out}
use Rattle.mvm_native.specs.declared.out.Out.TheVariants.{Value, Throw}
use Rattle.mvm_native.specs.declared.out.Thrown.TheVariants.{OutOfMemoryError}

-- an isolate, and which of its threads calls
pub record Machine : Type 0 where
  pub heap : State
  pub output : List ℕ
  pub waits : Waits
  pub launch : Launch
  pub thread : ℕ
  pub links : List LinkUse

-- what an Env is to a native method: all of it but the room that was reserved
abbrev pub machine_of : Env → Machine
machine_of env = record { heap = env.heap.state; output = env.output; waits = env.waits; launch = env.launch; thread = env.thread; links = env.links }

-- ---- what a call answered

-- The answer and what is left are those of the definition. Refused for memory, all is as before.
abbrev pub Called : Result Out OutOfMemory → Out × Machine → Machine → Machine → Type 0
Called (Ok out) definition old new = definition ≡ (out, new)
Called (Err refused) definition old new = new ≡ old

-- ---- answers

abbrev pub gives : Word → Out
gives word = Value (Some word)

abbrev pub gives_number : ℕ → Out
gives_number n = gives (Int (pos n))

-- a boolean, which is an int (JVM Specification 2.3.4)
abbrev pub gives_truth : Bool → Out
gives_truth true = gives_number 1
gives_truth false = gives_number 0

-- the new object, unless its words are missing
abbrev pub made : Result (ℕ × State) AllocFault → Machine → Out × Machine
made (Ok x) m = (gives (Ref x.0), record m { heap = x.1 })
made (Err fault) m = (Throw OutOfMemoryError, m)
