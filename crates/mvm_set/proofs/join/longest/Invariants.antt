use Rattle.std.proofs.Common.{◌<◌, length}
use Rattle.mvm_set.proofs.join.longest.Given as goal

abbrev pub invariant-loop-i : goal.invariant-loop-i
invariant-loop-i l = 0 < length l.lists → l.place < length l.lists
