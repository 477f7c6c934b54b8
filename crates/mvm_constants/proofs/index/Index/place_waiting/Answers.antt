use Rattle.std.proofs.Common.{◌∙◌}
use Rattle.mvm_constants.proofs.Settled.{on_ok}
use Rattle.mvm_constants.proofs.Placing.{places_waiting}
use Rattle.mvm_constants.proofs.index.Index.place_waiting.Goals as goal

pub returns : goal.returns
returns c =
    on_ok c.place_each.result
    (places_waiting c.args.pool.now c.args.index c.args.self.now c.waiting-entries.new.rows c.place_each.new.self c.as_slice.result.now
    (c.as_slice.ensures ∙ c.waiting-entries.ensures.taken) c.waiting-entries.ensures.others)
    c.place_each.ensures
