use Rattle.std.proofs.Common.{length}
use Rattle.mvm_initialise.proofs.Dimensions.{Making}
use Rattle.mvm_initialise.proofs.arrays.+arrays_made.Given as goal

abbrev pub decreases-arrays_made : goal.decreases-arrays_made
decreases-arrays_made l = length l.dimensions.now

abbrev pub invariant-loop-place : goal.invariant-loop-place
invariant-loop-place l = Making l.fn.isolate l.isolate l.dimensions l.others l.array l.place-end l.place
