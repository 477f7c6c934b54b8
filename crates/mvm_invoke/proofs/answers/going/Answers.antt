use Rattle.std.proofs.Common.{◌≡◌, sym, ap, ◌∙◌}
use Rattle.mvm_current.specs.Frames.{at_place, without}
use Rattle.mvm_current.specs.Keys.{top_named}
use Rattle.mvm_invoke.proofs.Leaving.{left_by, top_off}
use Rattle.mvm_invoke.proofs.answers.going.Goals as goal

pub returns-clause-does : goal.returns-clause-does
returns-clause-does c context n object =
    let e : c.from.result ≡ c.args.slots = (let k = c.from.ensures in cc) in
    left_by context n c.args.stack.now c.set_place.new.stack (at_place c.args.caller.next (without c.args.slots (top_named n c.args.stack.now))) c.left.result c.args.caller.told.object c.args.after c.requires.frame
    (c.set_place.ensures.below ∙ ap (λ r. r.below) c.drop_slots.ensures.rest)
    (c.set_place.ensures.does n ∙ ap (at_place c.args.caller.next) (top_off n c.args.stack.now c.drop_slots.new.self c.from.result c.drop_slots.ensures.operands c.drop_slots.ensures.rest ∙ ap (λ k. without k (top_named n c.args.stack.now)) e)) object c.left.ensures.object c.left.ensures.after
