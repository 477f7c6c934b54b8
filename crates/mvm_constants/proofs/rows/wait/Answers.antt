use Rattle.std.proofs.Common.{List, [], ◌∷◌, ◌++◌, ℕ, ap, ◌∙◌}
use Rattle.mvm_constants.proofs.Stored.{waits_is}
use Rattle.mvm_constants.proofs.rows.wait.Goals as goal

pub returns : goal.returns
returns c =
    waits_is c.args.rows.now c.waiting-entries.new.rows c.insert.new.self c.args.index c.args.at c.push.new.self
    (c.in_ok-push.ensures.ok ∙ ap (λ (xs : List ℕ). xs ++ c.args.at ∷ []) c.waiting-entries.ensures.taken)
    c.waiting-entries.ensures.others c.in_ok-insert.ensures.updates.0
