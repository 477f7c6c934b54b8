use Rattle.mvm_isolate.specs.Numbered.{Numbered}
use Rattle.mvm_kept.specs.Kept.{AreKept}
use Rattle.mvm_kept.proofs.kept.empty_rows.Given as goal

abbrev pub invariant-loop-row : goal.invariant-loop-row
invariant-loop-row l = (n : Numbered) → AreKept n l.rows
