use Rattle.std.proofs.Common.{◌∙◌, sym}
use Rattle.mvm_constants.proofs.Settled.{on_ok}
use Rattle.mvm_constants.proofs.Placing.{places_key, places_missing}
use Rattle.mvm_constants.proofs.index.Index.place.Goals as goal

pub returns-in-Ok : goal.returns-in-Ok
returns-in-Ok c =
    on_ok c.put_lower.result
    (places_key c.args.pool.now c.args.at c.args.self.now c.put_lower.new.rows c.in-Ok.key (sym c.key_at.ensures ∙ c.in-Ok.is))
    c.put_lower.ensures

pub returns-in-Err-Missing : goal.returns-in-Err-Missing
returns-in-Err-Missing c =
    on_ok c.wait.result
    (places_missing c.args.pool.now c.args.at c.args.self.now c.wait.new.rows c.in-Err-Missing.index (cc (c.key_at.ensures, c.in-Err-Missing.is, c.in-Err-Missing.field-0-is)))
    c.wait.ensures
