use Rattle.std.proofs.Common.{◌≡◌, drop}
use Rattle.mvm_base.specs.Rules.{each}
use Rattle.mvm_check.specs.Check.{stands_rule}
use Rattle.mvm_check.proofs.checking.all_stand.Given as goal

abbrev pub invariant-loop-i : goal.invariant-loop-i
invariant-loop-i l = each (stands_rule l.method l.code) (drop l.i l.places) ≡ each (stands_rule l.method l.code) l.places
