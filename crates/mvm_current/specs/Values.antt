-- The values on the operands of a frame (JVM Specification 2.6.2, 2.11.1).
use Rattle.std.specs.Prelude.{ℕ, ◌+◌, ℤ, length, nat_le, if◌then◌else◌, Result, Ok, Err}
use Rattle.mvm_base.specs.Answers.{◌>>=◌}
use Rattle.mvm_base.specs.declared.value.Kind.{Kind}
use Rattle.mvm_base.specs.declared.value.Kind.TheVariants as kind
use Rattle.mvm_base.specs.declared.value.Word.{Word}
use Rattle.mvm_base.specs.declared.value.Word.TheVariants.{Int, Long, Ref, Null}
use Rattle.mvm_native.specs.declared.out.Thrown.TheVariants.{VerifyError, NullPointerException}
use Rattle.mvm_isolate.specs.Isolate.{stopped}
use Rattle.mvm_isolate.specs.declared.stop.Stop.{Stop}
use Rattle.mvm_current.specs.Frames.{Frame, popped}

-- the object that is referred to
abbrev pub not_null : Word → Result ℕ Stop
not_null (Ref object) = Ok object
not_null Null = stopped NullPointerException
not_null _ = stopped VerifyError

abbrev pub int_of : Word → Result ℤ Stop
int_of (Int n) = Ok n
int_of _ = stopped VerifyError

unfoldable pub popped_int : Frame → Result (ℤ × Frame) Stop
popped_int f = popped kind.Int f >>= λ x. int_of x.0 >>= λ n. Ok (n, x.1)

-- how many slots a value of a kind takes
abbrev pub width : Kind → ℕ
width kind.Long = 2
width _ = 1

-- a value of a kind fits on the operands: this comes before what is made only to be pushed
unfoldable pub may_push : Kind → Frame → Result (Unit {0}) Stop
may_push k f = if nat_le (length f.body.operands.slots + width k) f.body.operands.depth then Ok tt else stopped VerifyError

-- the kind of a value
abbrev pub kind_of : Word → Kind
kind_of (Int n) = kind.Int
kind_of (Long n) = kind.Long
kind_of (Ref object) = kind.Ref
kind_of Null = kind.Ref

-- what was done, without what is left
abbrev pub done_of : {A : Type 0} → Result A Stop → Result (Unit {0}) Stop
done_of (Ok x) = Ok tt
done_of (Err stop) = Err stop
