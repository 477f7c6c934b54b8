use Rattle.std.proofs.Common.{refl, sym, ◌∙◌}
use Rattle.mvm_current.specs.Keys.{frames_named}
use Rattle.mvm_isolate.specs.Numbered.{look_of, named}
use Rattle.mvm_throwing.proofs.Missing.{throws_it, throws_aside, throws_neither}
use Rattle.mvm_throwing.proofs.throwing.throw.Goals as goal

pub returns-then-can_throw-clause-does : goal.returns-then-can_throw-clause-does
returns-then-can_throw-clause-does c = throws_it (look_of c.args.isolate.now) c.args.thread c.args.why (named c.args.isolate.now) (frames_named c.args.isolate.now c.args.stack.now) _ c.thrown.ensures.does

pub returns-then-can_throw-2-clause-does : goal.returns-then-can_throw-2-clause-does
returns-then-can_throw-2-clause-does c =
    throws_aside (look_of c.args.isolate.now) c.args.thread c.args.why (named c.args.isolate.now) (frames_named c.args.isolate.now c.args.stack.now) _
    (sym (c.can_throw.ensures c.args.thread) ∙ c.if-can_throw.false) c.thrown-then-can_throw-2.ensures.does

pub returns-clause-does : goal.returns-clause-does
returns-clause-does c =
    throws_neither (look_of c.args.isolate.now) c.args.thread c.args.why (named c.args.isolate.now) (frames_named c.args.isolate.now c.args.stack.now)
    (sym (c.can_throw.ensures c.args.thread) ∙ c.if-can_throw.false) (sym (c.can_throw-2.ensures c.args.thread) ∙ c.if-can_throw-2.false)
    ∙ rw (c.abandoned.ensures.object, c.abandoned.ensures.frames) refl
