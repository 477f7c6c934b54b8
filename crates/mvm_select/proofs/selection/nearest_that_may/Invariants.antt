use Rattle.std.proofs.Common.{◌≡◌, drop}
use Rattle.mvm_set.specs.Members.{flags_at}
use Rattle.mvm_select.specs.Selection.{nearest_that_may}
use Rattle.mvm_select.proofs.selection.nearest_that_may.Given as goal

abbrev pub invariant-loop-own : goal.invariant-loop-own
invariant-loop-own l = nearest_that_may (flags_at l.name l.desc) l.base.file (drop l.own-index l.line) ≡ nearest_that_may (flags_at l.name l.desc) l.base.file l.line
