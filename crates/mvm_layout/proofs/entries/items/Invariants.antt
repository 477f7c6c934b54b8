use Rattle.std.proofs.Common.{◌≡◌, ◌-◌, false}
use Rattle.mvm_layout.specs.Entries.{items}
use Rattle.mvm_layout.proofs.Loops.{with_front}
use Rattle.mvm_layout.proofs.entries.items.Given as goal

abbrev pub invariant-loop-index : goal.invariant-loop-index
invariant-loop-index l = with_front l.all ((items l.is_upper l.index (l.count - l.index)).read l.cursor) ≡ (items false 1 (l.count - 1)).read l.initial.cursor
