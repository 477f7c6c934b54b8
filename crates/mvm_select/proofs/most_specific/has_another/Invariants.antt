use Rattle.std.proofs.Common.{◌≡◌, drop}
use Rattle.std.specs.Prelude.{not, ◌&&◌}
use Rattle.std.specs.List.{list_any}
use Rattle.mvm_set.specs.Members.{flags_at}
use Rattle.mvm_set.specs.declared.own.OwnWalk.{OwnWalk}
use Rattle.mvm_select.specs.MostSpecific.{is_concrete}
use Rattle.mvm_set.specs.Names.{is_same}
use Rattle.mvm_select.proofs.most_specific.has_another.Given as goal

abbrev pub invariant-loop-other : goal.invariant-loop-other
invariant-loop-other l =
    list_any (λ (other : OwnWalk). not (is_same other.file l.file) && is_concrete (flags_at l.name l.desc) l.supers other.file) (drop l.other-index l.supers)
    ≡ list_any (λ (other : OwnWalk). not (is_same other.file l.file) && is_concrete (flags_at l.name l.desc) l.supers other.file) l.supers
