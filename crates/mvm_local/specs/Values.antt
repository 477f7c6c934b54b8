-- What the instructions compute of the values that they take, and what the branches test (JVM Specification 6.5).
use Rattle.std.specs.Prelude.{ℕ, ℤ, Bool, true, false, not, int_lt, ◌==◌, Option, Some, None, Result, Ok, Err}
use Rattle.std.specs.Int.{w64}
use Rattle.std.specs.Ordering.{int_eq}
use Rattle.mvm_base.specs.declared.value.Word.{Word}
use Rattle.mvm_base.specs.declared.value.Word.TheVariants as word
use Rattle.mvm_arith.specs.declared.compute.DivZero.{DivZero}
use Rattle.mvm_arith.specs.declared.operations.Arithmetic.{Arithmetic}
use Rattle.mvm_arith.specs.declared.operations.Conversion.{Conversion}
use Rattle.mvm_arith.specs.declared.operations.IntOperation.{IntOperation}
use Rattle.mvm_arith.specs.declared.operations.Shift.{Shift}
use Rattle.mvm_arith.specs.Numbers.{computed, shifted}
use Rattle.mvm_arith.specs.Rows.{int_operation, long_arithmetic, long_shift, conversion, int_result, converted}
use Rattle.mvm_local.specs.declared.action.Condition.{Condition}
use Rattle.mvm_local.specs.declared.action.Condition.TheVariants.{Equal, NotEqual, Less, GreaterOrEqual, Greater, LessOrEqual}
use Rattle.mvm_local.specs.declared.fault.Fault.{Fault}
use Rattle.mvm_local.specs.declared.fault.Fault.TheVariants.{Verify, Arithmetic as DividedByZero}

-- what is not there is a VerifyError (4.10)
abbrev pub present : {A : Type 0} → Option A → Result A Fault
present (Some x) = Ok x
present None = Err Verify

-- a division by zero is an ArithmeticException
abbrev pub divided : Result ℤ DivZero → Result ℤ Fault
divided (Ok n) = Ok n
divided (Err zero) = Err DividedByZero

abbrev pub int_by : Option IntOperation → ℤ → ℤ → Result ℤ Fault
int_by (Some operation) x y = divided (int_result operation x y)
int_by None x y = Err Verify

-- what `iadd` to `ixor` compute
unfoldable pub int_of : ℕ → ℤ → ℤ → Result ℤ Fault
int_of op x y = int_by (int_operation op) x y

abbrev pub long_by : Option Arithmetic → ℤ → ℤ → Result ℤ Fault
long_by (Some operation) x y = divided (computed w64 operation x y)
long_by None x y = Err Verify

-- what `ladd` to `lxor` compute, but the shifts
unfoldable pub long_of : ℕ → ℤ → ℤ → Result ℤ Fault
long_of op x y = long_by (long_arithmetic op) x y

abbrev pub shifted_by : Option Shift → ℤ → ℤ → Result ℤ Fault
shifted_by (Some shift) x distance = Ok (shifted w64 shift x distance)
shifted_by None x distance = Err Verify

-- what `lshl`, `lshr` and `lushr` compute
unfoldable pub shifted_long : ℕ → ℤ → ℤ → Result ℤ Fault
shifted_long op x distance = shifted_by (long_shift op) x distance

abbrev pub converted_by : Option Conversion → Word → Result Word Fault
converted_by (Some conversion) w = present (converted conversion w)
converted_by None w = Err Verify

-- what `i2l`, `l2i`, `i2b`, `i2c` and `i2s` make of a value
unfoldable pub word_of : ℕ → Word → Result Word Fault
word_of op w = converted_by (conversion op) w

-- what a branch tests of a first int against a second
unfoldable pub holds : Condition → ℤ → ℤ → Bool
holds Equal x y = int_eq x y
holds NotEqual x y = not (int_eq x y)
holds Less x y = int_lt x y
holds GreaterOrEqual x y = not (int_lt x y)
holds Greater x y = int_lt y x
holds LessOrEqual x y = not (int_lt y x)

-- whether two references are to one object, or both null
unfoldable pub is_same : Word → Word → Bool
is_same (word.Ref m) (word.Ref n) = m == n
is_same word.Null word.Null = true
is_same _ _ = false

unfoldable pub is_null : Word → Bool
is_null word.Null = true
is_null _ = false
