use Rattle.std.proofs.Common.{ap, ◌∙◌}
use Rattle.mvm_heap.specs.Objects.{Held}
use Rattle.mvm_heap.specs.Heap.{object_at}
use Rattle.mvm_heap.specs.Packed.{bits}
use Rattle.mvm_heap.proofs.heap.Heap.unit.Goals as goal

pub overflow_cast-result : goal.overflow_cast-result
unfolding bits
overflow_cast-result c =
    let t = ap (λ (h : Held). (object_at h.state.objects c.args.object).sort) c.self.view_is ∙ c.requires.text in
    let f = rw t at c.number.ensures.fits in
    record { fits = f }
