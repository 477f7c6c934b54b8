use Rattle.std.proofs.Common.{◌≡◌, drop}
use Rattle.mvm_set.specs.Members.{field_at}
use Rattle.mvm_set.specs.Fields.{found_from}
use Rattle.mvm_set.proofs.fields.find_field.Given as goal

abbrev pub invariant-loop-i : goal.invariant-loop-i
invariant-loop-i l = found_from l.i (field_at l.name l.desc) (drop l.i l.walk) ≡ found_from 0 (field_at l.name l.desc) l.walk
