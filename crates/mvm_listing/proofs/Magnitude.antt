-- The magnitude of a number, as lines have it.
use Rattle.std.proofs.Common.{◌≡◌, refl}
use Rattle.std.specs.Prelude.{ℤ, pos, negsuc, unsigned_abs}
use Rattle.mvm_statement.specs.Numbers.{magnitude}

pub magnitude_is : (z : ℤ) → unsigned_abs z ≡ magnitude z
magnitude_is (pos n) = refl
magnitude_is (negsuc n) = refl
