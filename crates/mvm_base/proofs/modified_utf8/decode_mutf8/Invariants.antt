use Rattle.std.proofs.Common.{◌≡◌, ◌++◌, length}
use Rattle.mvm_base.specs.ModifiedUtf8.{spelled_all, AreUnits}
use Rattle.mvm_base.proofs.modified_utf8.decode_mutf8.Given as goal

abbrev pub invariant-loop-rest : goal.invariant-loop-rest
invariant-loop-rest l = record { fits : AreUnits l.units.items; bytes : l.bytes ≡ spelled_all l.units.items ++ l.rest }

abbrev pub decreases-loop-rest : goal.decreases-loop-rest
decreases-loop-rest l = length l.rest
