-- What the instructions compute (JVM Specification 6.5). A value is an integer. A result that overflows is reduced to the low
-- bits of the integer that it should be, in two's complement (2.3.1).
use Rattle.std.specs.Prelude.{ℕ, ◌/◌, ◌^◌, ℤ, pos, negsuc, neg_ℤ, ◌+ℤ◌, ◌-ℤ◌, ◌*ℤ◌, int_div, int_lt, unsigned_abs, bit_and, bit_or, bit_xor, if◌then◌else◌, Result, Ok, Err}
use Rattle.std.specs.Int.{Width, w64, cast_signed, int_wrap, int_div_euclid, int_rem_euclid}
use Rattle.std.specs.Ordering.{int_eq}
use mir.Val.{bits}
use Rattle.mvm_arith.specs.declared.compute.DivZero.{DivZero}
use Rattle.mvm_arith.specs.declared.operations.Arithmetic.{Arithmetic}
use Rattle.mvm_arith.specs.declared.operations.Arithmetic.TheVariants.{Add, Subtract, Multiply, Divide, Remainder, Negate, And, Or, ExclusiveOr}
use Rattle.mvm_arith.specs.declared.operations.Shift.{Shift}
use Rattle.mvm_arith.specs.declared.operations.Shift.TheVariants.{Left, Right, UnsignedRight}

-- the low k bits of z, as a number without a sign
abbrev pub low_bits : ℕ → ℤ → ℕ
low_bits k z = unsigned_abs (int_rem_euclid z (pos (2 ^ k)))

-- the low bits of z, as a number of the width in two's complement
abbrev pub reduced : Width → ℤ → ℤ
reduced w z = int_wrap w z

-- the number of the width with these bits
abbrev pub with_bits : Width → ℕ → ℤ
with_bits w n = cast_signed w n

-- a number of the width, bit by bit
abbrev pub bits_of : Width → ℤ → ℕ
bits_of w z = low_bits (bits w) z

-- rounded toward zero
abbrev pub quotient : ℤ → ℤ → ℤ
quotient a b = int_div a b

-- what the quotient leaves
abbrev pub remainder : ℤ → ℤ → ℤ
remainder a b = a -ℤ quotient a b *ℤ b

-- rounded down
abbrev pub floor : ℤ → ℕ → ℤ
floor a n = int_div_euclid a (pos n)

abbrev pub unless_zero : ℤ → ℤ → Result ℤ DivZero
unless_zero divisor value = if int_eq divisor (pos 0) then Err (record {}) else Ok value

unfoldable pub computed : Width → Arithmetic → ℤ → ℤ → Result ℤ DivZero
computed w Add a b = Ok (reduced w (a +ℤ b))
computed w Subtract a b = Ok (reduced w (a -ℤ b))
computed w Multiply a b = Ok (reduced w (a *ℤ b))
computed w Divide a b = unless_zero b (reduced w (quotient a b))
computed w Remainder a b = unless_zero b (remainder a b)
computed w Negate a b = Ok (reduced w (neg_ℤ a))
computed w And a b = Ok (with_bits w (bit_and (bits_of w a) (bits_of w b)))
computed w Or a b = Ok (with_bits w (bit_or (bits_of w a) (bits_of w b)))
computed w ExclusiveOr a b = Ok (with_bits w (bit_xor (bits_of w a) (bits_of w b)))

-- how far a value is shifted: the low five bits of the distance count for an int, the low six for a long
abbrev pub places : Width → ℤ → ℕ
places w64 distance = low_bits 6 distance
places _ distance = low_bits 5 distance

unfoldable pub shifted : Width → Shift → ℤ → ℤ → ℤ
shifted w Left a distance = reduced w (a *ℤ pos (2 ^ places w distance))
shifted w Right a distance = floor a (2 ^ places w distance)
shifted w UnsignedRight a distance = with_bits w (bits_of w a / 2 ^ places w distance)

-- lcmp
unfoldable pub compared : ℤ → ℤ → ℤ
compared a b = if int_lt b a then pos 1 else (if int_lt a b then negsuc 0 else pos 0)
