-- What was added, with the rows of the entries that are left, is the rows of all of them.
use Rattle.std.proofs.Common.{◌≡◌, ◌++◌, drop}
use Rattle.mvm_history.specs.Rows.{rows_of}
use Rattle.mvm_history.proofs.merging.push_rows.Given as goal

abbrev pub invariant-loop-entry : goal.invariant-loop-entry
invariant-loop-entry l = record {
  counted : l.place ≡ l.entry-index;
  rest : l.rows.items ++ rows_of l.isolate l.entry-index (drop l.entry-index l.history) ≡ l.fn.rows.items ++ rows_of l.isolate 0 l.history;
}
