-- What was added, with the rows of the histories that are left, is the rows of all of them.
use Rattle.std.proofs.Common.{◌≡◌, ◌++◌, drop}
use Rattle.mvm_history.specs.Rows.{rows_from}
use Rattle.mvm_history.proofs.merging.rows.Given as goal

abbrev pub invariant-loop-history : goal.invariant-loop-history
invariant-loop-history l = record {
  counted : l.isolate ≡ l.history-index;
  rest : l.rows.items ++ rows_from l.history-index (drop l.history-index l.histories) ≡ rows_from 0 l.histories;
}
