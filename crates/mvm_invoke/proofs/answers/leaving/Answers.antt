use Rattle.std.proofs.Common.{◌≡◌, ap, ◌∙◌}
use Rattle.mvm_current.specs.Frames.{without}
use Rattle.mvm_current.specs.Keys.{top_named}
use Rattle.mvm_invoke.proofs.Leaving.{left_by, top_off}
use Rattle.mvm_invoke.proofs.answers.leaving.Goals as goal

pub returns-clause-does : goal.returns-clause-does
returns-clause-does c context n object =
    let e : c.from.result ≡ c.args.slots = (let k = c.from.ensures in cc) in
    left_by context n c.args.stack.now c.drop_slots.new.self (without c.args.slots (top_named n c.args.stack.now)) c.left.result c.args.told.object c.args.after c.requires.frame (ap (λ r. r.below) c.drop_slots.ensures.rest)
    (top_off n c.args.stack.now c.drop_slots.new.self c.from.result c.drop_slots.ensures.operands c.drop_slots.ensures.rest ∙ ap (λ k. without k (top_named n c.args.stack.now)) e) object c.left.ensures.object c.left.ensures.after
