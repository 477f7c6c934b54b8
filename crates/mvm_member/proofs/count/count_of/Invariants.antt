use Rattle.std.proofs.Common.{◌≡◌, ◌+◌, ◌≤◌, drop}
use Rattle.mvm_set.specs.FieldPlaces.{count_of}
use Rattle.mvm_member.proofs.count.count_of.Given as goal

abbrev pub invariant-loop-i : goal.invariant-loop-i
invariant-loop-i l = record {
  few : l.count ≤ l.i;
  left : l.count + count_of l.statics (drop l.i l.fields) ≡ count_of l.statics l.fields;
}
