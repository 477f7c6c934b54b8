use Rattle.std.proofs.Common.{◌≡◌, drop}
use Rattle.mvm_set.specs.Members.{member_from}
use Rattle.mvm_member.proofs.find.first_member.Given as goal

abbrev pub invariant-loop-i : goal.invariant-loop-i
invariant-loop-i l = member_from l.i l.pool l.name l.desc (drop l.i l.members) ≡ member_from 0 l.pool l.name l.desc l.members
