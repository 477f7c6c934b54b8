use denote.Ref.{Bor}
use Rattle.std.proofs.Common.{◌≡◌, ◌+◌, ◌∷◌, ◌++◌, [], List, drop, sym, ap, subst, ◌∙◌, arith}
use Rattle.std.proofs.lemmas.Grind.{common_steps}
use Rattle.std.proofs.lemmas.List.{append-nil}
use Rattle.mvm_set.specs.Seen.{is_seen, joined, AreSingle, unmet}
use Rattle.mvm_set.specs.declared.own.OwnWalk.{OwnWalk}
use Rattle.mvm_set.proofs.Single.{single_lists}
use Rattle.mvm_set.proofs.join.add_lists.Goals as goal

pub loop-i-preserved : goal.loop-i-preserved
loop-i-preserved c =
    let list = c.index-lists-i.result in
    let behind = drop (c.loop-i.i + 1) c.args.lists.now in
    let e : drop c.loop-i.i c.args.lists.now ≡ list ∷ behind = grind (arith, common_steps) in
    let single = subst (λ (lists : List (Bor (List OwnWalk))). AreSingle (is_seen c.args.repeats.now) (joined lists)) e (single_lists (is_seen c.args.repeats.now) c.loop-i.i c.args.lists.now c.requires) in
    c.in_ok-add_list.ensures (joined behind) single
    ∙ ap (λ (lists : List (Bor (List OwnWalk))). c.loop-i.others.items ++ unmet (is_seen c.args.repeats.now) (is_seen c.loop-i.seen) (joined lists)) (sym e)
    ∙ c.loop-i.invariant

pub returns : goal.returns
returns c =
    let none : drop c.loop-i.i c.args.lists.now ≡ [] = grind (arith, common_steps) in
    sym (append-nil c.loop-i.others.items)
    ∙ ap (λ (lists : List (Bor (List OwnWalk))). c.loop-i.others.items ++ unmet (is_seen c.args.repeats.now) (is_seen c.loop-i.seen) (joined lists)) (sym none)
    ∙ c.loop-i.invariant
