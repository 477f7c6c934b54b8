-- Numbers of a class file fit the fields that lines have for them, and are short enough to be written.
use Rattle.std.proofs.Common.{◌≡◌, ℕ, suc, ◌<◌, ◌^◌, true, refl, arith}
use Rattle.std.specs.Prelude.{ℤ, pos, negsuc, FitsSigned}
use Rattle.std.specs.Int.{w8, w16, w32, w64}
use Rattle.std.proofs.lemmas.Bool.{lt-ltb, le-leb}
use Rattle.mvm_classfile.specs.Kept.{IsU1, IsU2}
use Rattle.mvm_statement.specs.Numbers.{is_short}
use Rattle.mvm_listing.specs.Range.{is_u1, is_u2, is_u4, is_u8, is_i1, is_i2, is_i4, is_i8}
use Rattle.mvm_listing.proofs.Tests.{and_again}

pub u1_fits : (n : ℕ) → IsU1 n → is_u1 (pos n) ≡ true
u1_fits n h = and_again _ _ (le-leb 0 n (omega arith)) (le-leb n 255 (omega arith))

pub u2_fits : (n : ℕ) → IsU2 n → is_u2 (pos n) ≡ true
u2_fits n h = and_again _ _ (le-leb 0 n (omega arith)) (le-leb n 65535 (omega arith))

pub u4_fits : (n : ℕ) → n < 2 ^ 32 → is_u4 (pos n) ≡ true
u4_fits n h = and_again _ _ (le-leb 0 n (omega arith)) (le-leb n 4294967295 (omega arith))

pub u8_fits : (n : ℕ) → n < 2 ^ 64 → is_u8 (pos n) ≡ true
u8_fits n h = and_again _ _ (le-leb 0 n (omega arith)) (le-leb n 18446744073709551615 (omega arith))

pub i4_fits : (z : ℤ) → FitsSigned w32 z → is_i4 z ≡ true
i4_fits (pos n) h = let l = h.sfits in le-leb n 2147483647 (omega (arith, l))
i4_fits (negsuc n) h = let l = h.sfits in and_again _ _ (le-leb n 2147483647 (omega (arith, l))) refl

pub i8_fits : (z : ℤ) → FitsSigned w64 z → is_i8 z ≡ true
i8_fits (pos n) h = let l = h.sfits in le-leb n 9223372036854775807 (omega (arith, l))
i8_fits (negsuc n) h = let l = h.sfits in and_again _ _ (le-leb n 9223372036854775807 (omega (arith, l))) refl

-- ---- numbers that can be written

pub short : (n : ℕ) → n < 2 ^ 64 → is_short (pos n) ≡ true
short n h = lt-ltb n (2 ^ 64) h

pub u1_short : (n : ℕ) → IsU1 n → is_short (pos n) ≡ true
u1_short n h = short n (omega arith)

pub u2_short : (n : ℕ) → IsU2 n → is_short (pos n) ≡ true
u2_short n h = short n (omega arith)

pub i4_short : (z : ℤ) → FitsSigned w32 z → is_short z ≡ true
i4_short (pos n) h = let l = h.sfits in lt-ltb n (2 ^ 64) (omega (arith, l))
i4_short (negsuc n) h = let l = h.sfits in lt-ltb (suc n) (2 ^ 64) (omega (arith, l))

pub i8_short : (z : ℤ) → FitsSigned w64 z → is_short z ≡ true
i8_short (pos n) h = let l = h.sfits in lt-ltb n (2 ^ 64) (omega (arith, l))
i8_short (negsuc n) h = let l = h.sfits in lt-ltb (suc n) (2 ^ 64) (omega (arith, l))

-- ---- numbers in two's complement, of one byte and of two

pub i1_fits : (z : ℤ) → FitsSigned w8 z → is_i1 z ≡ true
i1_fits (pos n) h = let l = h.sfits in le-leb n 127 (omega (arith, l))
i1_fits (negsuc n) h = let l = h.sfits in and_again _ _ (le-leb n 127 (omega (arith, l))) refl

pub i2_fits : (z : ℤ) → FitsSigned w16 z → is_i2 z ≡ true
i2_fits (pos n) h = let l = h.sfits in le-leb n 32767 (omega (arith, l))
i2_fits (negsuc n) h = let l = h.sfits in and_again _ _ (le-leb n 32767 (omega (arith, l))) refl

pub i1_short : (z : ℤ) → FitsSigned w8 z → is_short z ≡ true
i1_short (pos n) h = let l = h.sfits in lt-ltb n (2 ^ 64) (omega (arith, l))
i1_short (negsuc n) h = let l = h.sfits in lt-ltb (suc n) (2 ^ 64) (omega (arith, l))

pub i2_short : (z : ℤ) → FitsSigned w16 z → is_short z ≡ true
i2_short (pos n) h = let l = h.sfits in lt-ltb n (2 ^ 64) (omega (arith, l))
i2_short (negsuc n) h = let l = h.sfits in lt-ltb (suc n) (2 ^ 64) (omega (arith, l))
