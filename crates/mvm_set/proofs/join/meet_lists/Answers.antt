use denote.Ref.{Bor}
use Rattle.std.proofs.Common.{◌≡◌, ◌+◌, ◌∷◌, [], List, drop, sym, ap, ◌∙◌, arith}
use Rattle.std.specs.Prelude.{◌||◌}
use Rattle.std.proofs.lemmas.Grind.{common_steps}
use Rattle.mvm_set.specs.Seen.{is_seen, is_among, joined}
use Rattle.mvm_set.specs.declared.own.OwnWalk.{OwnWalk}
use Rattle.mvm_set.proofs.Single.{list_met, or_none}
use Rattle.mvm_set.proofs.join.meet_lists.Goals as goal

pub loop-i-preserved : goal.loop-i-preserved
loop-i-preserved c = λ other.
    let list = c.index-lists-i.result in
    let rest = drop (c.loop-i.i + 1) c.args.lists.now in
    let e : drop c.loop-i.i c.args.lists.now ≡ list ∷ rest = grind (arith, common_steps) in
    list_met (is_seen c.loop-i.names) (is_seen c.meet_list.new.names) list.now (joined rest) c.in_ok-meet_list.ensures other
    ∙ ap (λ (lists : List (Bor (List OwnWalk))). is_seen c.loop-i.names other || is_among other (joined lists)) (sym e)
    ∙ c.loop-i.invariant other

pub returns : goal.returns
returns c = λ other.
    let none : drop c.loop-i.i c.args.lists.now ≡ [] = grind (arith, common_steps) in
    sym (or_none (is_seen c.loop-i.names other))
    ∙ ap (λ (lists : List (Bor (List OwnWalk))). is_seen c.loop-i.names other || is_among other (joined lists)) (sym none)
    ∙ c.loop-i.invariant other
