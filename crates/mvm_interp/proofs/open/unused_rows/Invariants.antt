use Rattle.std.proofs.Common.{◌≡◌, length}
use Rattle.std.specs.Prelude.{All}
use Rattle.mvm_interp.specs.Opening.{IsUnused}
use Rattle.mvm_interp.proofs.open.unused_rows.Given as goal

abbrev pub invariant-loop : goal.invariant-loop
invariant-loop l = record { unused : All (IsUnused l.frames) l.rows.items; count : length l.rows.items ≡ l.counter }
