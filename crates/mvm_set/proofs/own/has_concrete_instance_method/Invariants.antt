use Rattle.std.proofs.Common.{◌≡◌, drop}
use Rattle.std.specs.List.{list_any}
use Rattle.mvm_set.specs.Members.{is_concrete_instance_method}
use Rattle.mvm_set.proofs.own.has_concrete_instance_method.Given as goal

abbrev pub invariant-loop-i : goal.invariant-loop-i
invariant-loop-i l = list_any is_concrete_instance_method (drop l.i l.methods) ≡ list_any is_concrete_instance_method l.methods
