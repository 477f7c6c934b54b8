use Rattle.std.proofs.Common.{arith}
use Rattle.mvm_heap.specs.Heap.{object_at}
use Rattle.mvm_native.proofs.Loops.{span_step}
use Rattle.mvm_native.proofs.string.units_of.Goals as goal

pub loop-place-preserved : goal.loop-place-preserved
loop-place-preserved c = rw (c.in_ok-push.ensures.items, c.loop-place.invariant)
    (span_step (object_at c.args.heap.now.state.objects c.args.string).contents c.args.start c.loop-place.place c.unit.result c.loop-place.auto.place (omega (arith, c.loop-place-test.true, c.requires.within)) c.unit.ensures)
