use Rattle.std.proofs.Common.{rules, ◌≡◌, ◌∙◌, ◌∷◌, ℤ, List, Bool, true, false, Result, Ok, FitsSigned, w32, sym, ap}
use Rattle.std.proofs.lemmas.Int.{to_z-of_z}
use Rattle.mvm_heap.specs.Sorts.{bits_of}
use Rattle.mvm_heap.specs.declared.kind.ItemKind.TheVariants.{Ref}
use Rattle.mvm_isolate.specs.Isolate.{Isolate, with_number}
use Rattle.mvm_isolate.specs.Look.{Look}
use Rattle.mvm_isolate.specs.Numbered.{named}
use Rattle.mvm_isolate.specs.declared.stop.Stop.{Stop}
use Rattle.mvm_current.specs.Frames.{Frame, at_place}
use Rattle.mvm_current.specs.Keys.{top_named}
use Rattle.mvm_object.proofs.Holding.{stored}
use Rattle.mvm_object.proofs.Points.{callers_rest}
use Rattle.mvm_object.specs.Arrays.{item_of_array}
use Rattle.mvm_object.specs.Coming.{point_of}
use Rattle.mvm_object.specs.Elements.{held_on}
use Rattle.mvm_object.specs.Going.{Went, does, ready}
use Rattle.mvm_object.proofs.elements.store_held.Goals as goal

pub returns-then-not-held-clause-does : goal.returns-then-not-held-clause-does
returns-then-not-held-clause-does c = λ context look other.
    let fits : FitsSigned w32 c.in_ok-index.index = search rules in
    stored context c.args.next (point_of c.args.isolate.now c.args.stack.now) (top_named c.args.isolate.now c.pop.new.stack) (top_named c.args.isolate.now c.pop_int.new.stack)
    (top_named c.args.isolate.now c.pop-2.new.stack) c.in_ok-value.value c.in_ok-array.array c.in_ok-index.index c.in_ok-item.item false (c.in_ok-value.ensures.does c.args.isolate.now)
    (c.in_ok-index.ensures.does c.args.isolate.now) (c.in_ok-array.ensures.does c.args.isolate.now) (ap (λ (n : ℤ). item_of_array Ref c.in_ok-array.array n (named c.args.isolate.now).heap.objects) (sym (to_z-of_z w32 c.in_ok-index.index fits)) ∙ sym c.in_ok-item.ensures.is)
    (let not : c.args.held ≡ false = (let k = c.if-not-held.true in cc) in
    sym not ∙ c.requires.held ∙ ap (λ (l : Look). held_on l (named c.args.isolate.now) c.args.stack.now.operands.slots) (sym look))

pub returns-clause-does : goal.returns-clause-does
returns-clause-does c = λ context look.
    let fits : FitsSigned w32 c.in_ok-index.index = search rules in
    stored context c.args.next (point_of c.args.isolate.now c.args.stack.now) (top_named c.args.isolate.now c.pop.new.stack) (top_named c.args.isolate.now c.pop_int.new.stack)
    (top_named c.args.isolate.now c.pop-2.new.stack) c.in_ok-value.value c.in_ok-array.array c.in_ok-index.index c.in_ok-item.item true (c.in_ok-value.ensures.does c.args.isolate.now)
    (c.in_ok-index.ensures.does c.args.isolate.now) (c.in_ok-array.ensures.does c.args.isolate.now) (ap (λ (n : ℤ). item_of_array Ref c.in_ok-array.array n (named c.args.isolate.now).heap.objects) (sym (to_z-of_z w32 c.in_ok-index.index fits)) ∙ sym c.in_ok-item.ensures.is)
    (let is : c.args.held ≡ true = (let k = c.if-not-held.false in cc) in
    sym is ∙ c.requires.held ∙ ap (λ (l : Look). held_on l (named c.args.isolate.now) c.args.stack.now.operands.slots) (sym look))
    ∙ ap (λ (fs : List Frame). Ok (record {
      isolate = with_number c.in_ok-item.item.array c.in_ok-item.item.place (bits_of c.in_ok-value.value) (named c.args.isolate.now);
      frames = at_place c.args.next (top_named c.args.isolate.now c.pop-2.new.stack) ∷ fs;
      object = context.object;
      after = does ready;
    })) (sym (callers_rest c.args.isolate.now c.args.stack.now c.pop-2.new.stack (c.in_ok-array.ensures.rest ∙ c.in_ok-index.ensures.rest ∙ c.in_ok-value.ensures.rest)))
    ∙ ap (λ (w : Went). Ok w) (sym (c.store_in.ensures.does context))
