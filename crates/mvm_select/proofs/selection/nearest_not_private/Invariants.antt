use Rattle.std.proofs.Common.{◌≡◌, drop}
use Rattle.mvm_set.specs.Members.{flags_at}
use Rattle.mvm_select.specs.Selection.{nearest_not_private}
use Rattle.mvm_select.proofs.selection.nearest_not_private.Given as goal

abbrev pub invariant-loop-own : goal.invariant-loop-own
invariant-loop-own l = nearest_not_private (flags_at l.name l.desc) (drop l.own-index l.line) ≡ nearest_not_private (flags_at l.name l.desc) l.line
