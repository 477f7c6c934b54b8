use Rattle.std.proofs.Common.{◌≡◌, drop}
use Rattle.mvm_base.specs.ClassName.{is_binary_name}
use Rattle.mvm_base.proofs.Names.{has_parts}
use Rattle.mvm_base.proofs.class_name.is_binary_name.Given as goal

abbrev pub invariant-loop-unit : goal.invariant-loop-unit
invariant-loop-unit l = has_parts l.is_open (drop l.unit-index l.name) ≡ is_binary_name l.name
