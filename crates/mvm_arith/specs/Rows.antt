-- The instructions by their opcodes (JVM Specification 6.5).
use Rattle.std.specs.Prelude.{ℕ, ℤ, pos, ◌==◌, if◌then◌else◌, Option, Some, None, Result, Ok}
use Rattle.std.specs.Int.{w8, w16, w32}
use Rattle.mvm_base.specs.declared.value.Word.{Word}
use Rattle.mvm_base.specs.declared.value.Word.TheVariants.{Int, Long}
use Rattle.mvm_insn.specs.declared.opcodes.TheConstants as jvm
use Rattle.mvm_arith.specs.declared.compute.DivZero.{DivZero}
use Rattle.mvm_arith.specs.declared.operations.Arithmetic.{Arithmetic}
use Rattle.mvm_arith.specs.declared.operations.Arithmetic.TheVariants.{Add, Subtract, Multiply, Divide, Remainder, Negate, And, Or, ExclusiveOr}
use Rattle.mvm_arith.specs.declared.operations.Shift.{Shift}
use Rattle.mvm_arith.specs.declared.operations.Shift.TheVariants.{Left, Right, UnsignedRight}
use Rattle.mvm_arith.specs.declared.operations.IntOperation.{IntOperation}
use Rattle.mvm_arith.specs.declared.operations.IntOperation.TheVariants as of_ints
use Rattle.mvm_arith.specs.declared.operations.Conversion.{Conversion}
use Rattle.mvm_arith.specs.declared.operations.Conversion.TheVariants.{IntToLong, LongToInt, IntToByte, IntToChar, IntToShort}
use Rattle.mvm_arith.specs.Numbers.{computed, shifted, reduced, low_bits}

abbrev pub int_operation : ℕ → Option IntOperation
int_operation op =
    if op == jvm.IADD then Some (of_ints.Arithmetic Add) else (
    if op == jvm.ISUB then Some (of_ints.Arithmetic Subtract) else (
    if op == jvm.IMUL then Some (of_ints.Arithmetic Multiply) else (
    if op == jvm.IDIV then Some (of_ints.Arithmetic Divide) else (
    if op == jvm.IREM then Some (of_ints.Arithmetic Remainder) else (
    if op == jvm.INEG then Some (of_ints.Arithmetic Negate) else (
    if op == jvm.IAND then Some (of_ints.Arithmetic And) else (
    if op == jvm.IOR then Some (of_ints.Arithmetic Or) else (
    if op == jvm.IXOR then Some (of_ints.Arithmetic ExclusiveOr) else (
    if op == jvm.ISHL then Some (of_ints.Shift Left) else (
    if op == jvm.ISHR then Some (of_ints.Shift Right) else (
    if op == jvm.IUSHR then Some (of_ints.Shift UnsignedRight) else None)))))))))))

abbrev pub long_arithmetic : ℕ → Option Arithmetic
long_arithmetic op =
    if op == jvm.LADD then Some Add else (
    if op == jvm.LSUB then Some Subtract else (
    if op == jvm.LMUL then Some Multiply else (
    if op == jvm.LDIV then Some Divide else (
    if op == jvm.LREM then Some Remainder else (
    if op == jvm.LNEG then Some Negate else (
    if op == jvm.LAND then Some And else (
    if op == jvm.LOR then Some Or else (
    if op == jvm.LXOR then Some ExclusiveOr else None))))))))

abbrev pub long_shift : ℕ → Option Shift
long_shift op =
    if op == jvm.LSHL then Some Left else (
    if op == jvm.LSHR then Some Right else (
    if op == jvm.LUSHR then Some UnsignedRight else None))

abbrev pub conversion : ℕ → Option Conversion
conversion op =
    if op == jvm.I2L then Some IntToLong else (
    if op == jvm.L2I then Some LongToInt else (
    if op == jvm.I2B then Some IntToByte else (
    if op == jvm.I2C then Some IntToChar else (
    if op == jvm.I2S then Some IntToShort else None))))

-- of a shift the second number is the distance
abbrev pub int_result : IntOperation → ℤ → ℤ → Result ℤ DivZero
int_result (of_ints.Arithmetic operation) a b = computed w32 operation a b
int_result (of_ints.Shift shift) a b = Ok (shifted w32 shift a b)

-- a word of another kind is not converted
unfoldable pub converted : Conversion → Word → Option Word
converted IntToLong (Int z) = Some (Long z)
converted LongToInt (Long z) = Some (Int (reduced w32 z))
converted IntToByte (Int z) = Some (Int (reduced w8 z))
converted IntToChar (Int z) = Some (Int (pos (low_bits 16 z)))
converted IntToShort (Int z) = Some (Int (reduced w16 z))
converted _ _ = None
