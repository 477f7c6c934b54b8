use Rattle.std.proofs.Common.{◌≡◌, drop}
use Rattle.std.specs.List.{find}
use Rattle.mvm_set.specs.Members.{flags_at}
use Rattle.mvm_set.specs.declared.own.OwnWalk.{OwnWalk}
use Rattle.mvm_select.specs.MostSpecific.{is_concrete}
use Rattle.mvm_select.proofs.most_specific.first_concrete.Given as goal

abbrev pub invariant-loop-own : goal.invariant-loop-own
invariant-loop-own l =
    find (λ (own : OwnWalk). is_concrete (flags_at l.name l.desc) l.supers own.file) (drop l.own-index l.supers)
    ≡ find (λ (own : OwnWalk). is_concrete (flags_at l.name l.desc) l.supers own.file) l.supers
