use Rattle.mvm_initialise.proofs.Dimensions.{Finding}
use Rattle.mvm_initialise.proofs.arrays.dimensions_of.Given as goal

abbrev pub invariant-loop-i : goal.invariant-loop-i
invariant-loop-i l = Finding l.fn.isolate l.isolate l.shape l.item l.counts l.i l.dimensions
