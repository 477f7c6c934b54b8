use Rattle.mvm_parts.specs.Times.{HasFields}
use Rattle.mvm_parts.specs.declared.times.TheConstants.{ROUND}
use Rattle.mvm_parts.proofs.times.put_fields.Given as goal

abbrev pub invariant-loop-place : goal.invariant-loop-place
invariant-loop-place l = HasFields l.heap.state.objects l.object ROUND
