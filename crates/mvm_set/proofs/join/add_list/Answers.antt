use Rattle.std.proofs.Common.{◌≡◌, ◌+◌, ◌∷◌, ◌++◌, [], List, drop, sym, ap, subst, ◌∙◌, arith}
use Rattle.std.proofs.lemmas.Grind.{common_steps}
use Rattle.mvm_set.specs.Seen.{is_seen, AreSingle, unmet}
use Rattle.mvm_set.specs.declared.own.OwnWalk.{OwnWalk}
use Rattle.mvm_set.proofs.Single.{step, single_drop}
use Rattle.mvm_set.proofs.join.add_list.Goals as goal

pub loop-i-preserved : goal.loop-i-preserved
loop-i-preserved c = λ rest single.
    let own = c.index-owns-i.result in
    let repeats = is_seen c.args.repeats.now in
    let behind = drop (c.loop-i.i + 1) c.args.owns.now in
    let e : drop c.loop-i.i c.args.owns.now ≡ own ∷ behind = grind (arith, common_steps) in
    let here = subst (λ (owns : List OwnWalk). AreSingle (is_seen c.args.repeats.now) (owns ++ rest)) e (single_drop repeats c.loop-i.i c.args.owns.now rest single) in
    step repeats (is_seen c.loop-i.seen) (is_seen c.add_new.new.seen) c.loop-i.others.items c.add_new.new.others.items own (behind ++ rest) here.0 c.in_ok-add_new.ensures.next c.in_ok-add_new.ensures.kept
    ∙ ap (λ (owns : List OwnWalk). c.loop-i.others.items ++ unmet (is_seen c.args.repeats.now) (is_seen c.loop-i.seen) (owns ++ rest)) (sym e)
    ∙ c.loop-i.invariant rest single

pub returns : goal.returns
returns c = λ rest single.
    let none : drop c.loop-i.i c.args.owns.now ≡ [] = grind (arith, common_steps) in
    ap (λ (owns : List OwnWalk). c.loop-i.others.items ++ unmet (is_seen c.args.repeats.now) (is_seen c.loop-i.seen) (owns ++ rest)) (sym none)
    ∙ c.loop-i.invariant rest single
