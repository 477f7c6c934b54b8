-- Numbers of lines in the fields of an instruction.
use Rattle.std.proofs.Common.{◌≡◌, Bool, true, false, refl, arith}
use Rattle.std.specs.Prelude.{ℤ, pos, negsuc, FitsSigned}
use Rattle.std.specs.Int.{w128}
use Rattle.std.proofs.lemmas.Bool.{leb-true, ltb-false, le-leb}
use Rattle.mvm_listing.specs.Range.{is_u1, is_u2, is_i2, is_i4, takes_wide}
use Rattle.mvm_block.proofs.Tests.{parts, and_again}

-- an index that is not written with wide is of one byte
pub narrow : (wide : Bool) (z : ℤ) → takes_wide wide z ≡ false → is_u2 z ≡ true → is_u1 z ≡ true
narrow true z e h = absurd cc
narrow false (pos n) e h = and_again _ _ (le-leb 0 n (omega arith)) (le-leb n 255 (ltb-false 255 n e))
narrow false (negsuc n) e h = absurd cc

pub i4_wide : (z : ℤ) → is_i4 z ≡ true → FitsSigned w128 z
i4_wide (pos n) h = record { sfits = omega (arith, leb-true n 2147483647 h) }
i4_wide (negsuc n) h = record { sfits = omega (arith, leb-true n 2147483647 (parts _ _ h).0) }

pub i2_is_i4 : (z : ℤ) → is_i2 z ≡ true → is_i4 z ≡ true
i2_is_i4 (pos n) h = le-leb n 2147483647 (omega (arith, leb-true n 32767 h))
i2_is_i4 (negsuc n) h = and_again _ _ (le-leb n 2147483647 (omega (arith, leb-true n 32767 (parts _ _ h).0))) refl
