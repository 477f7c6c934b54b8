use Rattle.std.proofs.Common.{◌≡◌}
use Rattle.mvm_heap.proofs.Fill.{Filled}
use Rattle.mvm_heap.proofs.text.write_units.Given as goal

abbrev pub invariant-loop-place : goal.invariant-loop-place
invariant-loop-place l = record {
  filled : Filled l.initial.store.objects l.store.objects l.number l.units l.place;
  monitors : l.store.monitors ≡ l.initial.store.monitors;
  size : l.store.size ≡ l.initial.store.size;
}
