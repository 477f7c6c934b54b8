use Rattle.std.proofs.Common.{◌≡◌, ◌++◌, map, drop}
use Rattle.mvm_set.specs.Over.{file_of}
use Rattle.mvm_set.proofs.join.append_files.Given as goal

abbrev pub invariant-loop-i : goal.invariant-loop-i
invariant-loop-i l = l.files ++ map file_of (drop l.i l.owns) ≡ l.initial.files ++ map file_of l.owns
