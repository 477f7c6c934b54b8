use Rattle.std.proofs.Common.{◌≡◌, drop}
use Rattle.std.specs.List.{find}
use Rattle.mvm_set.specs.Members.{flags_at}
use Rattle.mvm_set.specs.declared.own.OwnWalk.{OwnWalk}
use Rattle.mvm_select.specs.MostSpecific.{declares}
use Rattle.mvm_select.proofs.resolution.first_declared.Given as goal

abbrev pub invariant-loop-own : goal.invariant-loop-own
invariant-loop-own l = find (λ (own : OwnWalk). declares (flags_at l.name l.desc) own.file) (drop l.own-index l.supers) ≡ find (λ (own : OwnWalk). declares (flags_at l.name l.desc) own.file) l.supers
