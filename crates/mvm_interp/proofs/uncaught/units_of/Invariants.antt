use Rattle.std.proofs.Common.{◌≡◌, take}
use Rattle.mvm_heap.specs.Heap.{object_at}
use Rattle.mvm_isolate.specs.Numbered.{named}
use Rattle.mvm_interp.proofs.uncaught.units_of.Given as goal

abbrev pub invariant-loop-place : goal.invariant-loop-place
invariant-loop-place l = l.units.items ≡ take l.place (object_at (named l.isolate).heap.objects l.text).contents
