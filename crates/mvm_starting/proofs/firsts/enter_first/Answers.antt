use Rattle.std.proofs.Common.{ap, sym, ◌∙◌, ◌∷◌}
use Rattle.mvm_frame.specs.Calls.{fits, unset_frame}
use Rattle.mvm_frame.specs.Parts.{stack_with}
use Rattle.mvm_starting.proofs.Taking.{enters, given, never_refused}
use Rattle.mvm_starting.proofs.firsts.enter_first.Goals as goal

pub unreachable-requires : goal.unreachable-requires
unreachable-requires c =
    never_refused _ c.in-Err.field-0 _
    (enters c.args.key c.max.result c.args.head.depth c.args.stack.now.rest.below.callers c.args.stack.now.rest.below.most c.args.stack.now.rest.below.words c.leave.new.self c.in-Some.ensures.some
    (ap (λ k. fits k c.args.head.depth (stack_with c.args.stack.now.rest.below.callers c.args.stack.now.rest.below.most c.args.stack.now.rest.below.words)) c.max.ensures ∙ c.requires.room))
    c.in-Err.ensures.does

pub returns : goal.returns
returns c =
    given c.enter.new.self _ _ c.in-Ok.ensures.does
    (enters c.args.key c.max.result c.args.head.depth c.args.stack.now.rest.below.callers c.args.stack.now.rest.below.most c.args.stack.now.rest.below.words c.leave.new.self c.in-Some.ensures.some
    (ap (λ k. fits k c.args.head.depth (stack_with c.args.stack.now.rest.below.callers c.args.stack.now.rest.below.most c.args.stack.now.rest.below.words)) c.max.ensures ∙ c.requires.room))
    ∙ ap (λ k. stack_with (unset_frame c.args.key k c.args.head.depth ∷ c.args.stack.now.rest.below.callers) c.args.stack.now.rest.below.most c.args.stack.now.rest.below.words) c.max.ensures
