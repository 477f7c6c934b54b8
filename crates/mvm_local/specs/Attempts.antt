-- One attempt of an instruction in one frame (JVM Specification 2.11 and 6.5).
use Rattle.std.specs.Prelude.{ℕ, ℤ, List, Some, Result, Ok, Err}
use Rattle.mvm_base.specs.Answers.{◌>>=◌}
use Rattle.mvm_insn.specs.Insns.{insn}
use Rattle.mvm_insn.specs.declared.insn.At.{At}
use Rattle.mvm_insn.specs.declared.insn.Insn.{Insn}
use Rattle.mvm_insn.specs.declared.insn.Insn.TheVariants as of
use Rattle.mvm_local.specs.declared.action.Action.{Action}
use Rattle.mvm_local.specs.declared.action.Action.TheVariants.{Operate, Load, LoadFrom, Store, StoreTo, Branch, LongGoto, Beyond as Further}
use Rattle.mvm_local.specs.declared.action.Test.TheVariants.{Always}
use Rattle.mvm_local.specs.declared.beyond.Beyond.{Beyond}
use Rattle.mvm_local.specs.declared.beyond.Beyond.TheVariants.{Plain, Pool, Interface, NewArray, Multi}
use Rattle.mvm_local.specs.declared.fault.Fault.{Fault}
use Rattle.mvm_local.specs.declared.fault.Fault.TheVariants.{Verify}
use Rattle.mvm_local.specs.Rows.{action_of}
use Rattle.mvm_local.specs.Body.{Body, verified}
use Rattle.mvm_local.specs.Groups.{Attempted, operated, number, load, store, increment, branch, switch}

-- nothing is done of an instruction that reaches beyond its frame
abbrev pub beyond : Beyond → ℕ → Body → Attempted
beyond x next b = Ok (Some (record { insn = x; next = next }), b)

-- an instruction with nothing behind its opcode
unfoldable pub plain : Action → ℕ → ℕ → Body → Attempted
plain (Operate x) op next b = operated x op next b
plain (LoadFrom k n) op next b = load k n next b
plain (StoreTo k n) op next b = store k n next b
plain Further op next b = beyond (Plain op) next b
plain _ op next b = Err Verify

-- an instruction that names a local variable
unfoldable pub with_local : Action → ℕ → ℕ → Body → Attempted
with_local (Load k) n next b = load k n next b
with_local (Store k) n next b = store k n next b
with_local _ n next b = Err Verify

-- an instruction that names a place in the code
unfoldable pub jump : Action → ℤ → ℕ → Body → Attempted
jump (Branch test) target next b = branch test target next b
jump LongGoto target next b = branch Always target next b
jump _ target next b = Err Verify

-- an instruction, and the place behind it
unfoldable pub performed : Insn → ℕ → Body → Attempted
performed (of.Plain op) next b = plain (action_of op) op next b
performed (of.Number op n) next b = number n next b
performed (of.Local op n wide) next b = with_local (action_of op) n next b
performed (of.Inc n by wide) next b = increment n by next b
performed (of.Jump op target) next b = jump (action_of op) target next b
performed (of.Choice op parts) next b = switch parts b
performed (of.Pool op index) next b = beyond (Pool op index) next b
performed (of.Interface index count last) next b = beyond (Interface index) next b
performed (of.NewArray kind) next b = beyond (NewArray kind) next b
performed (of.Multi index dims) next b = beyond (Multi index dims) next b

-- the instruction at the pc; a pc at which none stands is a VerifyError (4.9.1)
unfoldable pub fetched : List ℕ → ℕ → Result At Fault
fetched code pc = verified (insn code pc)

-- one attempt: the instruction at the pc is done, or it is told that it reaches beyond its frame
unfoldable pub attempt : List ℕ → Body → Attempted
attempt code b = fetched code b.pc >>= λ at. performed at.insn at.next b
