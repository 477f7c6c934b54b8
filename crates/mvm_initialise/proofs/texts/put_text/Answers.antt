use Rattle.std.proofs.Common.{◌≡◌, ◌∙◌, ℕ, length, sym, ap, subst, arith}
use Rattle.mvm_heap.specs.Heap.{object_at}
use Rattle.mvm_isolate.specs.Isolate.{Isolate, with_number}
use Rattle.mvm_isolate.specs.Numbered.{named}
use Rattle.mvm_initialise.specs.Arguments.{IsArrayOf}
use Rattle.mvm_initialise.proofs.Filling.{array_of, number_keeps, text_keeps}
use Rattle.mvm_initialise.proofs.texts.put_text.Goals as goal

pub set_number-requires-clause-place : goal.set_number-requires-clause-place
set_number-requires-clause-place c =
    let is : IsArrayOf (length (object_at (named c.args.isolate.now).heap.objects c.args.array).contents) (named c.new_text.new.self) c.args.array =
    text_keeps c.args.units.now _ c.args.array c.in-Ok.object (named c.args.isolate.now) (named c.new_text.new.self) c.in-Ok.ensures.does (array_of c.args.array c.args.place (named c.args.isolate.now) c.requires.place) in
    omega (arith, is.size, c.requires.place.within)

pub set_number-requires-clause-sort : goal.set_number-requires-clause-sort
set_number-requires-clause-sort c =
    let is : IsArrayOf (length (object_at (named c.args.isolate.now).heap.objects c.args.array).contents) (named c.new_text.new.self) c.args.array =
    text_keeps c.args.units.now _ c.args.array c.in-Ok.object (named c.args.isolate.now) (named c.new_text.new.self) c.in-Ok.ensures.does (array_of c.args.array c.args.place (named c.args.isolate.now) c.requires.place) in
    λ e. (let both = sym is.sort ∙ e in absurd cc)

pub returns-clause-keeps : goal.returns-clause-keeps
returns-clause-keeps c = λ count is.
    subst (λ (s : Isolate). IsArrayOf count s c.args.array) (sym c.set_number.ensures.named)
    (number_keeps count c.args.array c.args.place c.bits_of.result (named c.new_text.new.self)
    (text_keeps c.args.units.now count c.args.array c.in-Ok.object (named c.args.isolate.now) (named c.new_text.new.self) c.in-Ok.ensures.does is))
