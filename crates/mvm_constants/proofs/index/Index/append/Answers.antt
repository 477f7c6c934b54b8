use Rattle.mvm_constants.proofs.Settled.{on_ok}
use Rattle.mvm_constants.proofs.Taken.{taken_in_at}
use Rattle.mvm_constants.proofs.index.Index.append.Goals as goal

pub returns-clause-index : goal.returns-clause-index
returns-clause-index c =
    on_ok c.place.result
    (taken_in_at c.args.pool.now c.args.item c.push-2.new.self c.len.result c.args.self.now c.place_waiting.new.self c.place.new.self c.number.new.texts c.push.new.self c.in_ok-number.number
    c.in_ok-push-2.ensures.ok c.len.ensures c.requires.index c.in_ok-number.ensures.texts c.in_ok-number.ensures.number c.in_ok-push.ensures.ok c.in_ok-place_waiting.ensures)
    c.place.ensures
