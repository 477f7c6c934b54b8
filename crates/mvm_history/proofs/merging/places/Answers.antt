use Rattle.std.proofs.Common.{rules, tests}
use Rattle.std.proofs.lemmas.Iterator.{YieldsList-from_slice, YieldsList-from_map, items_from_collect}
use Rattle.mvm_history.specs.Rows.{placed_row}
use Rattle.mvm_history.proofs.merging.places.Goals as goal

pub returns : goal.returns
returns c = items_from_collect _ c.collect.ensures.ran (YieldsList-from_map _ placed_row (YieldsList-from_slice c.args.rows.now cc) c.map.ensures.closure (λ x r q k. search (rules, tests)))
