use Rattle.std.proofs.Common.{rules}
use Rattle.mvm_history.proofs.Adding.{history_added, histories_done}
use Rattle.mvm_history.proofs.merging.rows.Goals as goal

pub loop-history-preserved : goal.loop-history-preserved
loop-history-preserved c = record {
  counted = search rules;
  rest = history_added _ _ _ _ _ _ c.history-item.result c.loop-history-test.true c.history-item.is c.loop-history.invariant.counted (search rules) c.loop-history.invariant.rest;
}

pub returns : goal.returns
returns c = histories_done _ _ _ _ (search rules) c.loop-history.invariant.rest
