use Rattle.std.proofs.Common.{◌≡◌, ◌++◌, drop}
use Rattle.mvm_set.specs.Over.{lines_of}
use Rattle.mvm_set.proofs.join.append_lines.Given as goal

abbrev pub invariant-loop-i : goal.invariant-loop-i
invariant-loop-i l = l.onto ++ lines_of (drop l.i l.classes) ≡ l.initial.onto ++ lines_of l.classes
