use Rattle.std.proofs.Common.{◌≡◌, Ok, Err, ap, subst}
use Rattle.mvm_heap.specs.Objects.{Held, Stored}
use Rattle.mvm_heap.specs.Heap.{placed, zeros}
use Rattle.mvm_heap.specs.Index.{numbers}
use Rattle.mvm_heap.specs.declared.kind.AllocFault.TheVariants.{Full}
use Rattle.mvm_heap.proofs.Chains.{indexed_push}
use Rattle.mvm_heap.proofs.Allocations.{allocated, refused, state_of}
use Rattle.mvm_heap.proofs.heap.Heap.alloc.Goals as goal

pub returns-in_default-clause-does : goal.returns-in_default-clause-does
returns-in_default-clause-does c =
    subst (λ (h : Held). (placed (zeros c.args.sort c.args.class c.args.len) h.state ≡ Err Full) × (state_of c.add.new.self (numbers c.self.inside.entries.items) ≡ h.state)) c.self.view_is
    (refused c.self.inside.store c.add.new.self (numbers c.self.inside.entries.items) c.args.sort c.args.class c.args.len c.in_default.ensures.missing c.in_default.ensures.refused)

pub invariant_of-self-2 : goal.invariant_of-self-2
invariant_of-self-2 c = rw (ap (λ (s : Stored). s.objects) c.in-Some.ensures.added) (indexed_push _ _ _ _ c.self.invariant)

pub returns-clause-does : goal.returns-clause-does
returns-clause-does c =
    subst (λ (h : Held). placed (zeros c.args.sort c.args.class c.args.len) h.state ≡ Ok (c.in-Some.number, state_of c.add.new.self (numbers c.self.inside.entries.items))) c.self.view_is
    (allocated c.self.inside.store c.add.new.self (numbers c.self.inside.entries.items) c.args.sort c.args.class c.args.len c.in-Some.number c.in-Some.ensures.fits c.in-Some.ensures.number c.in-Some.ensures.added)
