use Rattle.std.proofs.Common.{◌≡◌, drop}
use Rattle.mvm_set.specs.Members.{flags_at}
use Rattle.mvm_select.specs.MostSpecific.{is_hidden}
use Rattle.mvm_select.proofs.most_specific.is_hidden.Given as goal

abbrev pub invariant-loop-other : goal.invariant-loop-other
invariant-loop-other l = is_hidden (flags_at l.name l.desc) (drop l.other-index l.supers) l.file ≡ is_hidden (flags_at l.name l.desc) l.supers l.file
