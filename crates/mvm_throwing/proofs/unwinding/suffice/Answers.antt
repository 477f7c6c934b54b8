use Rattle.std.proofs.Common.{sym, ◌∙◌, arith}
use Rattle.mvm_throwing.proofs.Passes.{at_end, caught_here, goes_here, lacks_here, place_is, wraps_more}
use Rattle.mvm_throwing.proofs.unwinding.suffice.Goals.{then-wraps+else-left-throwable_words, else-wraps}
use Rattle.mvm_throwing.proofs.unwinding.suffice.Goals as goal

pub returns-in-Some-handler_for : goal.returns-in-Some-handler_for
returns-in-Some-handler_for c =
    let p = place_is c.args.isolate.now c.args.stack.now c.loop-i.i c.in-Some.place c.requires.keys (sym c.place_at.ensures ∙ c.in-Some.is) in
    sym (caught_here c.args.isolate.now c.args.stack.now c.loop-i.i c.loop-i.left c.in-Some.place _ _ p (sym c.handler_for.ensures ∙ c.in-Some-handler_for.is)) ∙ c.loop-i.invariant.same

pub wraps-requires-clause-key : goal.wraps-requires-clause-key
wraps-requires-clause-key c = (place_is c.args.isolate.now c.args.stack.now c.loop-i.i c.in-Some.place c.requires.keys (sym c.place_at.ensures ∙ c.in-Some.is)).key

pub returns-then-left-throwable_words : goal.returns-then-left-throwable_words
returns-then-left-throwable_words c =
    let p = place_is c.args.isolate.now c.args.stack.now c.loop-i.i c.in-Some.place c.requires.keys (sym c.place_at.ensures ∙ c.in-Some.is) in
    sym (lacks_here c.args.isolate.now c.args.stack.now c.loop-i.i c.loop-i.left c.in-Some.place _ p (sym c.handler_for.ensures ∙ c.in-None.is) (sym c.wraps.ensures ∙ c.if-wraps.true) c.throwable_words.result c.throwable_words.ensures (omega (arith, c.if-left-throwable_words.true))) ∙ c.loop-i.invariant.same

pub loop-i-preserved : goal.loop-i-preserved
loop-i-preserved c =
    let p = place_is c.args.isolate.now c.args.stack.now c.loop-i.i c.in-Some.place c.requires.keys (sym c.place_at.ensures ∙ c.in-Some.is) in
    elim c.if-wraps.branch [
      | then-wraps+else-left-throwable_words w ↦ record {
        same = rw (w.left-is, w.at-is) (wraps_more c.args.isolate.now c.args.stack.now c.loop-i.i c.loop-i.left w.throwable_words-left.result w.thrown_class.result c.in-Some.place _ _ p (sym c.handler_for.ensures ∙ c.in-None.is) (sym c.wraps.ensures ∙ w.if-wraps.true) w.throwable_words-left.ensures (omega (arith, w.if-left-throwable_words.false, w.throwable_words.ensures)) w.thrown_class.ensures.name c.loop-i.invariant.same);
        typed = rw w.at-is w.thrown_class.ensures.there;
      }
      | else-wraps w ↦ record {
        same = rw (w.left-is, w.at-is) (sym (goes_here c.args.isolate.now c.args.stack.now c.loop-i.i c.loop-i.left c.in-Some.place _ p (sym c.handler_for.ensures ∙ c.in-None.is) (sym c.wraps.ensures ∙ w.if-wraps.false)) ∙ c.loop-i.invariant.same);
        typed = rw w.at-is c.loop-i.invariant.typed;
      }
    ]

pub returns : goal.returns
returns c = sym (at_end c.args.isolate.now c.args.stack.now c.loop-i.i c.loop-i.left _ (omega (arith, c.loop-i-test.false, c.frames-i-end.ensures.is))) ∙ c.loop-i.invariant.same
