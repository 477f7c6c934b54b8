use Rattle.std.proofs.Common.{◌≡◌, Some, None, subst}
use Rattle.mvm_heap.specs.Objects.{Held}
use Rattle.mvm_heap.specs.Heap.{interned}
use Rattle.mvm_heap.proofs.Allocations.{intern_some, intern_none}
use Rattle.mvm_heap.proofs.heap.Heap.intern.Goals as goal

pub returns-in-Some-clause-does : goal.returns-in-Some-clause-does
returns-in-Some-clause-does c = intern_some c.args.units.now c.args.self.now.state c.in-Some.number (subst (λ (h : Held). Some c.in-Some.number ≡ interned h.state.objects h.state.texts c.args.units.now) c.self.view_is (rw c.deref.ensures.value at c.in-Some.ensures.number))

pub returns-in-None-clause-does : goal.returns-in-None-clause-does
returns-in-None-clause-does c =
    rw (intern_none c.args.units.now c.args.self.now.state (subst (λ (h : Held). None ≡ interned h.state.objects h.state.texts c.args.units.now) c.self.view_is (rw c.deref.ensures.value at c.in-None.ensures.number))) c.intern_new.ensures.does
