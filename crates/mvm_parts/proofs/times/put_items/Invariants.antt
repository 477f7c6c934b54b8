use Rattle.std.specs.Prelude.{◌+◌}
use Rattle.mvm_parts.specs.Times.{HasItems}
use Rattle.mvm_parts.specs.declared.times.TheConstants.{ROUND}
use Rattle.mvm_parts.proofs.times.put_items.Given as goal

abbrev pub invariant-loop-place : goal.invariant-loop-place
invariant-loop-place l = HasItems l.heap.state.objects l.array (l.from + ROUND)
