use Rattle.mvm_object.proofs.Lengths.{Reading}
use Rattle.mvm_object.proofs.dimensions.counts_of.Given as goal

abbrev pub invariant-loop-i : goal.invariant-loop-i
invariant-loop-i l = Reading l.words l.i l.counts
