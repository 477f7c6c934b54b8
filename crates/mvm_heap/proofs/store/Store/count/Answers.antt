use Rattle.std.proofs.Common.{◌≡◌, arith, length, subst}
use Rattle.mvm_heap.specs.Objects.{Stored}
use Rattle.mvm_heap.proofs.Stores.{two_each, count, monitor_count}
use Rattle.mvm_heap.proofs.store.Store.count.Goals as goal

pub overflow_cast-result : goal.overflow_cast-result
overflow_cast-result c = record { fits = omega (arith, c.self.inside.directory.ok.0, two_each _ _ _ c.self.invariant.packed, c.self.invariant.packed.within, c.self.invariant.packed.small) }

pub returns-clause-is : goal.returns-clause-is
returns-clause-is c =
    subst (λ (h : Stored). c.len.result ≡ length h.objects) c.self.view_is (omega (arith, c.len.ensures, c.self.inside.directory.ok.0, count c.self.inside.region.words c.self.inside.directory.items))

pub returns-clause-monitors : goal.returns-clause-monitors
returns-clause-monitors c =
    subst (λ (h : Stored). c.len.result ≡ length h.monitors) c.self.view_is (omega (arith, c.len.ensures, c.self.inside.directory.ok.0, monitor_count c.self.inside.region.words c.self.inside.directory.items))
