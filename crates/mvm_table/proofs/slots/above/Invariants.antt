use Rattle.std.proofs.Common.{◌≡◌, drop}
use Rattle.mvm_table.specs.Slots.{above}
use Rattle.mvm_table.proofs.slots.above.Given as goal

abbrev pub invariant-loop-i : goal.invariant-loop-i
invariant-loop-i l = above l.file (drop l.i l.line) ≡ above l.file l.line
