use Rattle.std.proofs.Common.{◌≡◌, drop}
use Rattle.std.specs.List.{list_any}
use Rattle.mvm_set.specs.Names.{is_called}
use Rattle.mvm_set.proofs.access.is_subclass.Given as goal

abbrev pub invariant-loop-i : goal.invariant-loop-i
invariant-loop-i l = list_any (λ own. is_called l.name own.file) (drop l.i l.walk) ≡ list_any (λ own. is_called l.name own.file) l.walk
