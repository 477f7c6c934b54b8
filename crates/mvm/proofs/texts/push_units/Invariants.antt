-- What was written, with the rest of the units, is the text of all of them.
use Rattle.std.proofs.Common.{◌≡◌, ◌++◌, length}
use Rattle.mvm.specs.Texts.{shown}
use Rattle.mvm.proofs.texts.push_units.Given as goal

abbrev pub invariant-loop-rest : goal.invariant-loop-rest
invariant-loop-rest l = l.text ++ shown l.rest ≡ l.initial.text ++ shown l.units

abbrev pub decreases-loop-rest : goal.decreases-loop-rest
decreases-loop-rest l = length l.rest
