use Rattle.std.proofs.Common.{◌≡◌, ◌+◌, ◌++◌, false, drop}
use Rattle.mvm_set.specs.FieldPlaces.{count_of}
use Rattle.mvm_set.proofs.FieldPlaces.{counts}
use Rattle.mvm_set.proofs.field_places.FieldPlaces.new.Given as goal

abbrev pub invariant-loop-i : goal.invariant-loop-i
invariant-loop-i l = record {
  counted : l.before.items ++ counts l.statics l.instance (drop l.i l.fields) ≡ counts 0 0 l.fields;
  both : l.statics + l.instance ≡ l.i;
  left : l.instance + count_of false (drop l.i l.fields) ≡ count_of false l.fields;
}
