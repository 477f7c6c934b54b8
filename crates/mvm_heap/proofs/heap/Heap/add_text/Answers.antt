use Rattle.std.proofs.Common.{◌≡◌, Ok, Err, ap, subst, arith}
use Rattle.mvm_heap.specs.Objects.{Held, Stored}
use Rattle.mvm_heap.specs.Heap.{placed, text}
use Rattle.mvm_heap.specs.Index.{numbers}
use Rattle.mvm_heap.specs.declared.kind.AllocFault.TheVariants.{Full}
use Rattle.mvm_heap.proofs.Chains.{indexed_push, numbers_count}
use Rattle.mvm_heap.proofs.Fill.{texted}
use Rattle.mvm_heap.proofs.Allocations.{texts_allocated, texts_refused, state_of}
use Rattle.mvm_heap.proofs.heap.Heap.add_text.Goals as goal

pub returns-in_default-clause-does : goal.returns-in_default-clause-does
returns-in_default-clause-does c =
    subst (λ (h : Held). (placed (text c.args.units.now) h.state ≡ Err Full) × (state_of c.add.new.self (numbers c.self.inside.entries.items) ≡ h.state)) c.self.view_is
    (texts_refused c.self.inside.store c.add.new.self (numbers c.self.inside.entries.items) c.args.units.now c.in_default.ensures.missing c.in_default.ensures.refused)

pub invariant_of-self-2 : goal.invariant_of-self-2
invariant_of-self-2 c =
    rw (ap (λ (s : Stored). s.objects) (texted c.self.inside.store c.add.new.self c.write_units.new.store _ c.in-Some.number c.args.units.now c.in-Some.ensures.number c.in-Some.ensures.added c.write_units.ensures))
    (indexed_push _ _ _ _ c.self.invariant)

pub returns-clause-does : goal.returns-clause-does
returns-clause-does c =
    subst (λ (h : Held). placed (text c.args.units.now) h.state ≡ Ok (c.in-Some.number, state_of c.write_units.new.store (numbers c.self.inside.entries.items))) c.self.view_is
    (texts_allocated c.self.inside.store c.write_units.new.store (numbers c.self.inside.entries.items) c.args.units.now c.in-Some.number c.in-Some.ensures.fits c.in-Some.ensures.number
    (texted c.self.inside.store c.add.new.self c.write_units.new.store _ c.in-Some.number c.args.units.now c.in-Some.ensures.number c.in-Some.ensures.added c.write_units.ensures))

pub returns-clause-last : goal.returns-clause-last
returns-clause-last c = omega (arith, numbers_count c.self.inside.entries.items, c.self.invariant.few, c.in-Some.ensures.number)
