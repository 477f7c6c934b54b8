use Rattle.std.proofs.Common.{true, false, List, Ok, Option, ℕ, sym, ap, ◌∙◌}
use Rattle.mvm_base.specs.declared.value.Kind.{Kind}
use Rattle.mvm_current.specs.Arguments.{arguments}
use Rattle.mvm_current.specs.Values.{done_of}
use Rattle.mvm_object.specs.Coming.{point_of}
use Rattle.mvm_invoke.specs.Calls.{framed}
use Rattle.mvm_calling.proofs.Roomy.{known_by}
use Rattle.mvm_calling.proofs.entering.known_called.Goals as goal

pub returns-then-not-room-clause-does : goal.returns-then-not-room-clause-does
returns-then-not-room-clause-does c context m told runs other =
    known_by context c.args.isolate.now m c.args.call.now.size c.args.call.now.kinds c.args.call.now.slots c.wider-locals.result c.args.stack.now false c.in-Ok.field-0 told.launch c.requires.frame c.requires.slots c.wider-locals.ensures
    (c.if-not-room.ensures.is c.args.isolate.now c.args.isolate.now.env.launch.limits c.requires.limits) (ap (λ (kinds : List Kind). done_of (arguments kinds c.args.stack.now.operands.slots)) (sym c.as_slice.ensures) ∙ sym c.in-Ok.ensures.is)

pub returns-else-not-room-clause-does : goal.returns-else-not-room-clause-does
returns-else-not-room-clause-does c context m told runs =
    known_by context c.args.isolate.now m c.args.call.now.size c.args.call.now.kinds c.args.call.now.slots c.wider-locals.result c.args.stack.now true c.in-Ok.field-0 told.launch c.requires.frame c.requires.slots c.wider-locals.ensures
    (c.if-not-room.ensures.is c.args.isolate.now c.args.isolate.now.env.launch.limits c.requires.limits) (ap (λ (kinds : List Kind). done_of (arguments kinds c.args.stack.now.operands.slots)) (sym c.as_slice.ensures) ∙ sym c.in-Ok.ensures.is)
    ∙ ap (λ (lock : Option ℕ). Ok (framed context m c.args.call.now.size lock c.args.call.now.slots (point_of c.args.isolate.now c.args.stack.now))) (sym c.requires.unlocked)
    ∙ ap Ok (c.framed.ensures.does context c.args.isolate.now m told.object c.requires.limits runs)

pub returns-else-not-room-clause-limits : goal.returns-else-not-room-clause-limits
returns-else-not-room-clause-limits c = c.framed.ensures.limits c.args.isolate.now.env.launch.limits c.requires.limits

pub returns-else-not-room-clause-after : goal.returns-else-not-room-clause-after
returns-else-not-room-clause-after c = c.framed.ensures.after c.args.isolate.now

pub returns-else-not-room-clause-begins : goal.returns-else-not-room-clause-begins
returns-else-not-room-clause-begins c = c.framed.ensures.begins c.args.told.threads c.args.isolate.now.env.launch.limits.threads
