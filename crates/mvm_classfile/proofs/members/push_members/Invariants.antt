use Rattle.std.proofs.Common.{◌≡◌, ◌++◌, length, take}
use Rattle.std.specs.List.{flat_map}
use Rattle.mvm_classfile.specs.Writing.{u2, written_member}
use Rattle.mvm_classfile.proofs.members.push_members.Given as goal

abbrev pub invariant-loop-member : goal.invariant-loop-member
invariant-loop-member l = l.bytes.items ≡ l.fn.bytes.items ++ (u2 (length l.members) ++ flat_map (written_member l.names) (take l.member-index l.members))
