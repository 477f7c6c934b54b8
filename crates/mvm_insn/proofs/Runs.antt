-- Where fewer bytes are left than are wanted.
use Rattle.std.proofs.Common.{◌≡◌, ◌<◌, ℕ, length, Err, refl}
use Rattle.std.proofs.lemmas.Bool.{lt-ltb}
use Rattle.mvm_base.specs.Place.{Place, run}
use Rattle.mvm_insn.specs.Readers.{bytes}
use Rattle.mvm_insn.specs.declared.fault.InsnFault.TheVariants.{OffEnd}

pub short : (n : ℕ) (p : Place) → length p.rest < n → bytes n p ≡ Err OffEnd
unfolding run
short n p h = rw (lt-ltb _ _ h) refl
