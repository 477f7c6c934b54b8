use Rattle.std.proofs.Common.{rules}
use Rattle.mvm_history.proofs.Adding.{entry_added, entries_done}
use Rattle.mvm_history.proofs.merging.push_rows.Goals as goal

pub loop-entry-preserved : goal.loop-entry-preserved
loop-entry-preserved c = record {
  counted = search rules;
  rest = entry_added _ _ _ c.args.history.now _ _ _ c.entry-item.result (search rules) (search rules) c.loop-entry.invariant.counted (search rules) c.loop-entry.invariant.rest;
}

pub returns : goal.returns
returns c = entries_done _ _ c.args.history.now _ _ (search rules) c.loop-entry.invariant.rest
