use Rattle.std.proofs.Common.{◌≡◌, drop}
use Rattle.mvm_base.specs.Rules.{each_from}
use Rattle.mvm_check.specs.Check.{method_rule}
use Rattle.mvm_check.proofs.checking.all_methods.Given as goal

abbrev pub invariant-loop-i : goal.invariant-loop-i
invariant-loop-i l = each_from l.i (method_rule l.constants) (drop l.i l.members) ≡ each_from 0 (method_rule l.constants) l.members
