use Rattle.std.proofs.Common.{◌≡◌, drop}
use Rattle.mvm_base.specs.Rules.{each}
use Rattle.mvm_check.specs.Check.{keeps_rule}
use Rattle.mvm_check.proofs.checking.all_keep.Given as goal

abbrev pub invariant-loop-i : goal.invariant-loop-i
invariant-loop-i l = each (keeps_rule l.constants l.method l.parameters l.code) (drop l.i l.places) ≡ each (keeps_rule l.constants l.method l.parameters l.code) l.places
