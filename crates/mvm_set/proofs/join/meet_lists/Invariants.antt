use Rattle.std.proofs.Common.{◌≡◌, ℕ, List, Option, drop}
use Rattle.std.specs.Prelude.{◌||◌}
use Rattle.mvm_set.specs.Seen.{is_seen, is_among, joined}
use Rattle.mvm_set.proofs.join.meet_lists.Given as goal

abbrev pub invariant-loop-i : goal.invariant-loop-i
invariant-loop-i l = (other : Option (List ℕ)) → (is_seen l.names other || is_among other (joined (drop l.i l.lists))) ≡ (is_seen l.initial.names other || is_among other (joined l.lists))
