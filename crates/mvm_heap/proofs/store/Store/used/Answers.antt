use Rattle.std.proofs.Common.{◌≡◌, ◌≤◌, ◌-◌, ◌*◌, arith, length, subst}
use Rattle.mvm_heap.specs.Objects.{Stored}
use Rattle.mvm_heap.specs.Heap.{words}
use Rattle.mvm_heap.proofs.Stores.{words_are, two_each, count}
use Rattle.mvm_heap.proofs.store.Store.used.Goals as goal

pub returns-clause-words : goal.returns-clause-words
returns-clause-words c =
    subst (λ (h : Stored). c.size.result - c.left.result ≡ words h.objects) c.self.view_is (omega (arith, c.size.ensures, c.left.ensures.all, words_are _ _ _ c.self.invariant.packed))

pub returns-clause-few : goal.returns-clause-few
returns-clause-few c =
    subst (λ (h : Stored). 2 * length h.objects ≤ c.size.result - c.left.result) c.self.view_is
    (omega (arith, c.size.ensures, c.left.ensures.all, two_each _ _ _ c.self.invariant.packed, count c.self.inside.region.words c.self.inside.directory.items))
