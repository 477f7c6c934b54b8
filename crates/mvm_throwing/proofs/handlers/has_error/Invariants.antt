use Rattle.std.proofs.Common.{◌≡◌, drop}
use Rattle.std.specs.List.{list_any}
use Rattle.std.specs.Prelude.{codes}
use Rattle.mvm_set.specs.Names.{is_called}
use Rattle.mvm_throwing.proofs.handlers.has_error.Given as goal

abbrev pub invariant-loop-i : goal.invariant-loop-i
invariant-loop-i l =
    list_any (λ own. is_called (codes "java/lang/Error") own.file) (drop l.i l.line) ≡ list_any (λ own. is_called (codes "java/lang/Error") own.file) l.line
