use Rattle.std.proofs.Common.{◌≡◌, ◌+◌, arith, subst}
use Rattle.mvm_heap.specs.Objects.{Stored}
use Rattle.mvm_heap.specs.Heap.{words}
use Rattle.mvm_heap.proofs.Stores.{words_are}
use Rattle.mvm_heap.proofs.store.Store.left.Goals as goal

pub returns : goal.returns
returns c = subst (λ (h : Stored). c.left.result + words h.objects ≡ h.size) c.self.view_is (omega (arith, c.left.ensures.all, words_are _ _ _ c.self.invariant.packed))
