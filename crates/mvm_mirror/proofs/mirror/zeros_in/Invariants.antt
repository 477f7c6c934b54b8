use Rattle.std.proofs.Common.{◌≡◌, ◌++◌, drop}
use Rattle.mvm_mirror.specs.Statics.{zeros_in}
use Rattle.mvm_mirror.proofs.mirror.zeros_in.Given as goal

abbrev pub invariant-loop-i : goal.invariant-loop-i
invariant-loop-i l = l.words ++ zeros_in l.pool (drop l.i l.fields) ≡ zeros_in l.pool l.fields
