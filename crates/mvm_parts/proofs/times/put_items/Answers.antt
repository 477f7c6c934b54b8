use Rattle.std.proofs.Common.{◌+◌, subst, sym}
use Rattle.mvm_heap.specs.Objects.{State}
use Rattle.mvm_parts.specs.Times.{HasItems}
use Rattle.mvm_parts.specs.declared.times.TheConstants.{ROUND}
use Rattle.mvm_parts.proofs.Written.{items_kept}
use Rattle.mvm_parts.proofs.times.put_items.Goals as goal

pub loop-place-preserved : goal.loop-place-preserved
loop-place-preserved c =
    subst (λ (s : State). HasItems s.objects c.args.array (c.args.from + ROUND)) (sym c.set_item.ensures.state) (items_kept c.loop-place.heap.state.objects c.args.array (c.args.from + ROUND) _ _ c.loop-place.invariant)
