use Rattle.std.proofs.Common.{Option, ℕ, ap, ◌∙◌}
use Rattle.mvm_constants.specs.Index.{lower}
use Rattle.mvm_constants.proofs.Stored.{lowers_is}
use Rattle.mvm_constants.proofs.rows.put_lower.Goals as goal

pub returns : goal.returns
returns c =
    lowers_is c.args.rows.now c.insert.new.self c.args.key c.args.at c.lower-least.result
    (c.lower-least.ensures ∙ ap (λ (o : Option ℕ). lower o c.args.at) c.found.ensures) c.in_ok-insert.ensures.updates.0
