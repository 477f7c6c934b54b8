use Rattle.std.proofs.Common.{◌≡◌, drop}
use Rattle.std.specs.List.{list_all}
use Rattle.mvm_layout.specs.declared.parts.Member.{Member}
use Rattle.mvm_classfile.specs.Writing.{fits_code}
use Rattle.mvm_classfile.proofs.counts_fit.members_fit.Given as goal

abbrev pub invariant-loop-i : goal.invariant-loop-i
invariant-loop-i l = list_all (λ (member : Member). fits_code member.code) (drop l.i l.members) ≡ list_all (λ (member : Member). fits_code member.code) l.members
