use Rattle.std.proofs.Common.{◌≡◌, ◌++◌, drop}
use Rattle.mvm_set.proofs.join.append.Given as goal

abbrev pub invariant-loop-i : goal.invariant-loop-i
invariant-loop-i l = l.onto ++ drop l.i l.owns ≡ l.initial.onto ++ l.owns
