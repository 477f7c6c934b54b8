use Rattle.std.proofs.Common.{true, false, subst, sym}
use Rattle.mvm_object.specs.Coming.{point_of}
use Rattle.mvm_invoke.specs.Leaving.{Leaves}
use Rattle.mvm_invoke.proofs.Framing.{entered_by}
use Rattle.mvm_invoke.proofs.frames.entered_frame.Goals as goal

pub returns-then-not-room-clause-does : goal.returns-then-not-room-clause-does
returns-then-not-room-clause-does c context told other =
    entered_by context c.args.isolate.now c.args.member.now c.args.entry.flags c.args.entry.size c.args.passed.now c.args.stack.now c.wider-locals.result false told.launch c.requires.frame c.wider-locals.ensures (c.if-not-room.ensures.is c.args.isolate.now c.args.isolate.now.env.launch.limits c.requires.limits)

pub returns-clause-does : goal.returns-clause-does
returns-clause-does c context told =
    subst (λ definition. Leaves c.locked_frame.result definition c.locked_frame.new.isolate c.locked_frame.new.stack)
    (sym (entered_by context c.args.isolate.now c.args.member.now c.args.entry.flags c.args.entry.size c.args.passed.now c.args.stack.now c.wider-locals.result true told.launch c.requires.frame c.wider-locals.ensures (c.if-not-room.ensures.is c.args.isolate.now c.args.isolate.now.env.launch.limits c.requires.limits)))
    (c.locked_frame.ensures.does context told)
