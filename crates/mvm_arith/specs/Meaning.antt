-- What the definitions of specs/Numbers.antt come to, in the words of the JVM Specification.
use Rattle.std.specs.Prelude.{◌≡◌, ℕ, ◌+◌, ◌%◌, ◌<◌, min, max, ℤ, pos, ◌+ℤ◌, ◌*ℤ◌, ◌≤ℤ◌, ◌<ℤ◌, unsigned_abs, FitsSigned, bit_and, bit_or, bit_xor}
use Rattle.std.specs.Int.{Width, bit_at}
use Rattle.mvm_arith.specs.Numbers.{bits_of}

-- r is a number of the width, with the low bits of z (2.3.1)
pub record IsReduced (w : Width) (z r : ℤ) : Type 0 where
  pub fits : FitsSigned w r
  pub bits : bits_of w r ≡ bits_of w z

-- idiv and irem, ldiv and lrem (6.5): the quotient is rounded toward zero, since the remainder is nearer to zero than the
-- divisor, and is negative only where the dividend is, and positive only where the dividend is
pub record IsDivided (n d quotient remainder : ℤ) : Type 0 where
  pub sum : quotient *ℤ d +ℤ remainder ≡ n
  pub small : unsigned_abs remainder < unsigned_abs d
  pub positive : pos 0 ≤ℤ n → pos 0 ≤ℤ remainder
  pub negative : n ≤ℤ pos 0 → remainder ≤ℤ pos 0

-- ishr, lshr (6.5): q is the greatest integer that is not above z / m
pub record IsFloor (z : ℤ) (m : ℕ) (q : ℤ) : Type 0 where
  pub below : (q *ℤ pos m) ≤ℤ z
  pub greatest : z <ℤ ((q +ℤ pos 1) *ℤ pos m)

-- iand, ior, ixor, land, lor, lxor (6.5), at one place of the bits
pub record IsBitwise (m n i : ℕ) : Type 0 where
  pub conjunction : bit_at (bit_and m n) i ≡ min (bit_at m i) (bit_at n i)
  pub disjunction : bit_at (bit_or m n) i ≡ max (bit_at m i) (bit_at n i)
  pub exclusive : bit_at (bit_xor m n) i ≡ (bit_at m i + bit_at n i) % 2
