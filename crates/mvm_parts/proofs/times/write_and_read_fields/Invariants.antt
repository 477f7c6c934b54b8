use Rattle.mvm_parts.specs.Times.{HasFields}
use Rattle.mvm_parts.specs.declared.times.TheConstants.{ROUND}
use Rattle.mvm_parts.proofs.times.write_and_read_fields.Given as goal

abbrev pub invariant-loop-round : goal.invariant-loop-round
invariant-loop-round l = HasFields l.heap.state.objects l.object ROUND
