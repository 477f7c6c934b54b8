use Rattle.std.proofs.Common.{◌≡◌, ◌++◌, List, drop}
use Rattle.mvm_set.specs.Seen.{is_seen, AreSingle, unmet}
use Rattle.mvm_set.specs.declared.own.OwnWalk.{OwnWalk}
use Rattle.mvm_set.proofs.join.add_list.Given as goal

abbrev pub invariant-loop-i : goal.invariant-loop-i
invariant-loop-i l =
    (rest : List OwnWalk) → AreSingle (is_seen l.repeats) (l.owns ++ rest)
    → l.others.items ++ unmet (is_seen l.repeats) (is_seen l.seen) (drop l.i l.owns ++ rest) ≡ l.initial.others.items ++ unmet (is_seen l.repeats) (is_seen l.initial.seen) (l.owns ++ rest)
