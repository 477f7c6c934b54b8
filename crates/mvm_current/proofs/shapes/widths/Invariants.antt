use Rattle.std.proofs.Common.{◌≡◌, ◌≤◌, ◌+◌, ◌*◌, drop}
use Rattle.mvm_current.specs.Arguments.{widths}
use Rattle.mvm_current.proofs.shapes.widths.Given as goal

abbrev pub invariant-loop-i : goal.invariant-loop-i
invariant-loop-i l = record { sum : l.slots + widths (drop l.i l.kinds) ≡ widths l.kinds; few : l.slots ≤ 2 * l.i }
