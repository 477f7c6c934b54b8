use Rattle.std.proofs.Common.{◌≡◌, ◌++◌, drop, take}
use Rattle.std.specs.Prelude.{map}
use Rattle.mvm_interp.specs.Waking.{awake_row}
use Rattle.mvm_interp.proofs.rows.wake_all.Given as goal

abbrev pub invariant-loop-place : goal.invariant-loop-place
invariant-loop-place l = l.rows ≡ map (awake_row l.object) (take l.place l.initial.rows) ++ drop l.place l.initial.rows
