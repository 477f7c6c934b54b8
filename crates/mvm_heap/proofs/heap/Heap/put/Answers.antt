use Rattle.std.proofs.Common.{ap, sym, ◌∙◌}
use Rattle.mvm_heap.specs.Objects.{Held, Stored}
use Rattle.mvm_heap.specs.Heap.{object_at}
use Rattle.mvm_heap.proofs.Chains.{indexed_written}
use Rattle.mvm_heap.proofs.heap.Heap.put.Goals as goal

pub invariant_of-self : goal.invariant_of-self
invariant_of-self c =
    rw (ap (λ (s : Stored). s.objects) c.put.ensures)
    (indexed_written _ _ _ _ _ _ c.self.invariant (λ e. c.requires.sort (ap (λ (h : Held). (object_at h.state.objects c.args.object).sort) (sym c.self.view_is) ∙ e)))
