use Rattle.std.proofs.Common.{◌≡◌, drop}
use Rattle.std.specs.List.{find}
use Rattle.mvm_set.specs.Members.{flags_at}
use Rattle.mvm_select.specs.Resolution.{is_of_interface}
use Rattle.mvm_select.proofs.resolution.nearest_of_interface.Given as goal

abbrev pub invariant-loop-own : goal.invariant-loop-own
invariant-loop-own l = find (is_of_interface (flags_at l.name l.desc)) (drop l.own-index l.line) ≡ find (is_of_interface (flags_at l.name l.desc)) l.line
