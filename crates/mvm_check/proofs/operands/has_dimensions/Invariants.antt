use Rattle.std.proofs.Common.{◌≡◌, ◌-◌, drop}
use Rattle.mvm_check.specs.Operands.{has_dimensions}
use Rattle.mvm_check.proofs.operands.has_dimensions.Given as goal

abbrev pub invariant-loop-i : goal.invariant-loop-i
invariant-loop-i l = has_dimensions (l.dims - l.i) (drop l.i l.name) ≡ has_dimensions l.dims l.name
