use Rattle.std.proofs.Common.{◌≡◌, ◌-◌, ◌++◌, length}
use Rattle.mvm_check.specs.Starts.{starts_from}
use Rattle.mvm_check.proofs.starts.places.Given as goal

abbrev pub invariant-loop-i : goal.invariant-loop-i
invariant-loop-i l = l.places ++ starts_from (length l.code - l.i) l.code l.pc ≡ starts_from (length l.code) l.code 0
