use Rattle.std.proofs.Common.{drop}
use Rattle.mvm_set.specs.Index.{IsIndex}
use Rattle.mvm_set.specs.Set.{look}
use Rattle.mvm_set.proofs.index.places_of.Given as goal

abbrev pub invariant-loop-i : goal.invariant-loop-i
invariant-loop-i l = IsIndex l.i (look l.texts (λ key. key.items)) l.places l.pool (drop l.i l.members)
