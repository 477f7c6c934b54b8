use Rattle.std.proofs.Common.{rules, arith, ◌∙◌}
use Rattle.std.specs.Int.{w32}
use Rattle.std.specs.Int.RustNames.{FitsSigned}
use Rattle.std.proofs.lemmas.Int.{to_z-of_z}
use Rattle.mvm_heap.specs.Heap.{object_at}
use Rattle.mvm_native.proofs.Loops.{hashed_none, hashed_step}
use Rattle.mvm_native.proofs.string.hashed.Goals as goal

pub loop-place-init : goal.loop-place-init
loop-place-init c = hashed_none

pub loop-place-preserved : goal.loop-place-preserved
loop-place-preserved c =
    let f : FitsSigned w32 c.hashed_more-hash.result = search rules in
    to_z-of_z w32 c.hashed_more-hash.result f ∙ hashed_step (object_at c.args.heap.now.state.objects c.args.string).contents c.loop-place.place _ _ _ (omega (arith, c.loop-place-test.true, c.length-place-end.ensures)) c.loop-place.invariant c.unit.ensures c.hashed_more-hash.ensures
