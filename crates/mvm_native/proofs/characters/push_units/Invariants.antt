-- What was written, with the rest of the units, is the text of all of them.
use Rattle.std.proofs.Common.{◌≡◌, ◌++◌, length}
use Rattle.mvm_native.specs.Texts.{shown}
use Rattle.mvm_native.proofs.characters.push_units.Given as goal

abbrev pub invariant-loop-rest : goal.invariant-loop-rest
invariant-loop-rest l = l.line ++ shown l.rest ≡ l.initial.line ++ shown l.units

abbrev pub decreases-loop-rest : goal.decreases-loop-rest
decreases-loop-rest l = length l.rest
