-- What an instruction of one frame sees of a thread: the pc, the local variables and the operands of its frame (JVM
-- Specification 2.5.1 and 2.6). A value that is missing or of another kind, and an operand beyond the depth, are
-- VerifyErrors (4.10).
use Rattle.std.specs.Prelude.{ℕ, ℤ, List, slice_get, Result, Ok, Err}
use Rattle.mvm_base.specs.Answers.{◌>>=◌}
use Rattle.mvm_base.specs.declared.value.Kind.{Kind}
use Rattle.mvm_base.specs.declared.value.Kind.TheVariants as kind
use Rattle.mvm_base.specs.declared.value.Word.{Word}
use Rattle.mvm_base.specs.declared.value.Word.TheVariants as word
use Rattle.mvm_frame.specs.declared.slot.Slot.{Slot}
use Rattle.mvm_frame.specs.Parts.{Operands, StackParts}
use Rattle.mvm_frame.specs.Calls.{push, pop, loaded, store}
use Rattle.mvm_local.specs.declared.fault.Fault.{Fault}
use Rattle.mvm_local.specs.declared.fault.Fault.TheVariants.{Verify}

pub record Body : Type 0 where
  pub pc : ℕ
  pub locals : List Slot
  pub operands : Operands

-- that of the top frame
abbrev pub body_of : StackParts → Body
body_of s = record { pc = s.rest.pc; locals = s.rest.locals; operands = s.operands }

-- every refusal is a VerifyError
abbrev pub verified : {A E : Type 0} → Result A E → Result A Fault
verified (Ok x) = Ok x
verified (Err refused) = Err Verify

abbrev pub an_int : Word → Result ℤ Fault
an_int (word.Int n) = Ok n
an_int _ = Err Verify

abbrev pub a_long : Word → Result ℤ Fault
a_long (word.Long n) = Ok n
a_long _ = Err Verify

-- ---- the operands, the top one first (2.6.2)

unfoldable pub pushed : Word → Operands → Result Operands Fault
pushed w o = verified (push w o)

unfoldable pub popped : Kind → Operands → Result (Word × Operands) Fault
popped k o = verified (pop k o)

unfoldable pub popped_int : Operands → Result (ℤ × Operands) Fault
popped_int o = do
  w ← popped kind.Int o
  n ← an_int w.0
  Ok (n, w.1)

unfoldable pub popped_long : Operands → Result (ℤ × Operands) Fault
popped_long o = do
  w ← popped kind.Long o
  n ← a_long w.0
  Ok (n, w.1)

-- ---- the local variables (2.6.1)

-- the value of a kind in a local variable
unfoldable pub variable : Kind → ℕ → List Slot → Result Word Fault
variable k n locals = verified (loaded k (slice_get locals n))

unfoldable pub int_variable : ℕ → List Slot → Result ℤ Fault
int_variable n locals = variable kind.Int n locals >>= an_int

-- the local variables with a value in one of them
unfoldable pub stored : ℕ → Word → List Slot → Result (List Slot) Fault
stored n w locals = verified (store n w locals)
