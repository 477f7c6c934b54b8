use Rattle.std.proofs.Common.{length}
use Rattle.mvm_heap.proofs.Chains.{Searched}
use Rattle.mvm_heap.proofs.index.find.Given as goal

abbrev pub invariant-loop-place : goal.invariant-loop-place
invariant-loop-place l = Searched l.store.objects l.entries (length l.heads) l.units l.place

abbrev pub decreases-loop-place : goal.decreases-loop-place
decreases-loop-place l = l.place
