use Rattle.std.proofs.Common.{◌≡◌, drop}
use Rattle.std.specs.List.{find}
use Rattle.mvm_set.specs.Members.{flags_at}
use Rattle.mvm_select.specs.Selection.{is_of_start}
use Rattle.mvm_select.proofs.selection.nearest_of_start.Given as goal

abbrev pub invariant-loop-own : goal.invariant-loop-own
invariant-loop-own l = find (is_of_start (flags_at l.name l.desc) l.from_interface) (drop l.own-index l.line) ≡ find (is_of_start (flags_at l.name l.desc) l.from_interface) l.line
