use Rattle.std.proofs.Common.{◌≡◌, ◌++◌, drop}
use Rattle.mvm_set.specs.Seen.{is_seen, joined, unmet}
use Rattle.mvm_set.proofs.join.add_lists.Given as goal

abbrev pub invariant-loop-i : goal.invariant-loop-i
invariant-loop-i l =
    l.others.items ++ unmet (is_seen l.repeats) (is_seen l.seen) (joined (drop l.i l.lists))
    ≡ l.initial.others.items ++ unmet (is_seen l.repeats) (is_seen l.initial.seen) (joined l.lists)
