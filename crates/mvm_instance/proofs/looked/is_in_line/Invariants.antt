use Rattle.std.proofs.Common.{◌≡◌, drop}
use Rattle.std.specs.List.{list_any}
use Rattle.mvm_set.specs.Names.{is_called}
use Rattle.mvm_instance.proofs.looked.is_in_line.Given as goal

abbrev pub invariant-loop-i : goal.invariant-loop-i
invariant-loop-i l = list_any (λ own. is_called l.name own.file) (drop l.i l.line) ≡ list_any (λ own. is_called l.name own.file) l.line
