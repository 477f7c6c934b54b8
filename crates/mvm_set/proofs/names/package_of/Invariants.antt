use Rattle.std.proofs.Common.{◌≡◌, false, drop}
use Rattle.mvm_set.specs.Names.{has_slash}
use Rattle.mvm_set.proofs.names.package_of.Given as goal

abbrev pub invariant-loop-i : goal.invariant-loop-i
invariant-loop-i l = has_slash (drop l.i l.units) ≡ false
