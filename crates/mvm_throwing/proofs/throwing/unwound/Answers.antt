use Rattle.std.proofs.Common.{sym, ap, ◌∙◌}
use Rattle.mvm_frame.specs.Parts.{Below}
use Rattle.mvm_isolate.proofs.Keeping.{grows_then}
use Rattle.mvm_throwing.proofs.Steps.{caught_step, end_step, fewer, left_ok, left_step, runs_method}
use Rattle.mvm_throwing.proofs.throwing.unwound.Goals as goal

pub catch-requires-clause-method : goal.catch-requires-clause-method
catch-requires-clause-method c = runs_method c.loop-key.isolate c.loop-key.stack c.in-Some.key c.pc.result c.in-Some-handler_for.handler _ (sym c.top.ensures ∙ c.in-Some.is) (sym c.in-Some-handler_for.is ∙ c.handler_for.ensures)

pub returns-in-Some-handler_for-clause-does : goal.returns-in-Some-handler_for-clause-does
returns-in-Some-handler_for-clause-does c =
    sym c.loop-key.invariant.same
    ∙ caught_step c.loop-key.isolate c.loop-key.stack c.catch.new.stack c.in-Some.key c.args.thread c.loop-key.passing c.in-Some-handler_for.handler c.pc.result _ (sym c.top.ensures ∙ c.in-Some.is) c.pc.ensures c.type_at.ensures.value (sym c.in-Some-handler_for.is ∙ c.handler_for.ensures) (c.catch.ensures.does c.loop-key.isolate) c.catch.ensures.below

pub returns-in-Some-handler_for-clause-limits : goal.returns-in-Some-handler_for-clause-limits
returns-in-Some-handler_for-clause-limits c limits is =
    let was = c.loop-key.invariant.limits limits is in
    record { frames = ap (λ (b : Below). b.most) c.catch.ensures.below ∙ was.frames; words = ap (λ (b : Below). b.words) c.catch.ensures.below ∙ was.words }

pub leave_frame-passing-requires-clause-words : goal.leave_frame-passing-requires-clause-words
leave_frame-passing-requires-clause-words c =
    left_ok c.loop-key.isolate c.loop-key.stack c.in-Some.key c.args.thread c.loop-key.passing c.pc.result _ _ (sym c.top.ensures ∙ c.in-Some.is) c.pc.ensures c.type_at.ensures.value (sym c.in-None.is ∙ c.handler_for.ensures) c.loop-key.invariant.same c.requires.words

pub loop-key-smaller : goal.loop-key-smaller
loop-key-smaller c = fewer c.loop-key.isolate c.leave_frame-passing.new.isolate c.loop-key.stack c.leave_frame-passing.new.stack c.in-Some.key (sym c.top.ensures ∙ c.in-Some.is) c.leave_frame-passing.ensures.frames

pub loop-key-preserved : goal.loop-key-preserved
loop-key-preserved c = record {
  same = left_step c.loop-key.isolate c.leave_frame-passing.new.isolate c.loop-key.stack c.leave_frame-passing.new.stack c.in-Some.key c.args.thread c.loop-key.passing c.leave_frame-passing.result c.pc.result _ _ (sym c.top.ensures ∙ c.in-Some.is) c.pc.ensures c.type_at.ensures.value (sym c.in-None.is ∙ c.handler_for.ensures) c.leave_frame-passing.ensures.does c.leave_frame-passing.ensures.frames c.leave_frame-passing.ensures.grows c.loop-key.invariant.same;
  keys = c.leave_frame-passing.ensures.keys;
  limits = λ limits is. c.leave_frame-passing.ensures.limits limits (c.loop-key.invariant.limits limits is);
  links = c.leave_frame-passing.ensures.links ∙ c.loop-key.invariant.links;
  grows = grows_then c.args.isolate.now c.loop-key.isolate c.leave_frame-passing.new.isolate c.loop-key.invariant.grows c.leave_frame-passing.ensures.grows;
}

pub returns-clause-does : goal.returns-clause-does
returns-clause-does c = sym c.loop-key.invariant.same ∙ end_step c.loop-key.isolate c.loop-key.stack c.args.thread c.loop-key.passing (sym c.top.ensures ∙ c.in_default.is)
