use Rattle.std.proofs.Common.{◌≡◌, drop}
use Rattle.std.specs.Prelude.{◌||◌, ℤ}
use Rattle.mvm_disassembler.specs.Steps.{holds, is_among}
use Rattle.mvm_disassembler.proofs.places.set_of.Given as goal

-- with the numbers that are left they are all
abbrev pub invariant-loop-number : goal.invariant-loop-number
invariant-loop-number l = (n : ℤ) → (holds l.set n || is_among (drop l.number-index l.numbers) n) ≡ is_among l.numbers n
