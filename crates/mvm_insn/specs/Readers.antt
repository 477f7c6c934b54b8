-- Reading from a place on: the ways in which an instruction's operands are put together.
use Rattle.std.specs.Prelude.{ℕ, ℤ, List, Result, Ok, Err}
use Rattle.std.specs.Int.{Width, cast_signed}
use Rattle.mvm_base.specs.Answers.{◌>>=◌}
use Rattle.mvm_base.specs.Place.{Place, run, big}
use Rattle.mvm_insn.specs.declared.fault.InsnFault.{InsnFault}
use Rattle.mvm_insn.specs.declared.fault.InsnFault.TheVariants.{OffEnd}

abbrev pub whole : {A : Type 0} → Result (A × Place) ℕ → Result (A × Place) InsnFault
whole (Ok x) = Ok x
whole (Err at) = Err OffEnd

-- so many bytes
abbrev pub bytes : ℕ → Place → Result (List ℕ × Place) InsnFault
bytes n p = whole (run n p)

-- a number of so many bytes, the high byte first
abbrev pub number : ℕ → Place → Result (ℕ × Place) InsnFault
number n p = whole (big n p)

-- the same in two's complement
abbrev pub signed : ℕ → Width → Place → Result (ℤ × Place) InsnFault
signed n w p = number n p >>= λ x. Ok (cast_signed w x.0, x.1)
