use Rattle.std.specs.Prelude.{◌+◌}
use Rattle.mvm_parts.specs.Times.{HasItems}
use Rattle.mvm_parts.specs.declared.times.TheConstants.{ROUND}
use Rattle.mvm_parts.proofs.times.write_and_read_items.Given as goal

abbrev pub invariant-loop-round : goal.invariant-loop-round
invariant-loop-round l = HasItems l.heap.state.objects l.array (l.from + ROUND)
