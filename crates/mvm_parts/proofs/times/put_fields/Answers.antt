use Rattle.std.proofs.Common.{subst, sym}
use Rattle.mvm_heap.specs.Objects.{State}
use Rattle.mvm_parts.specs.Times.{HasFields}
use Rattle.mvm_parts.specs.declared.times.TheConstants.{ROUND}
use Rattle.mvm_parts.proofs.Written.{fields_kept}
use Rattle.mvm_parts.proofs.times.put_fields.Goals as goal

pub loop-place-preserved : goal.loop-place-preserved
loop-place-preserved c = subst (λ (s : State). HasFields s.objects c.args.object ROUND) (sym c.set_field.ensures.state) (fields_kept c.loop-place.heap.state.objects c.args.object ROUND _ _ c.loop-place.invariant)
