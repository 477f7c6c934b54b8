-- None before the place locks.
use Rattle.std.proofs.Common.{◌≡◌, drop}
use Rattle.std.specs.List.{list_any}
use Rattle.mvm.specs.Alone.{locks}
use Rattle.mvm.proofs.alone.any_locks.Given as goal

abbrev pub invariant-loop-i : goal.invariant-loop-i
invariant-loop-i l = list_any locks (drop l.i l.methods) ≡ list_any locks l.methods
