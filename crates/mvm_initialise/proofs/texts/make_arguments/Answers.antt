use Rattle.std.proofs.Common.{◌≡◌, ◌∙◌, ℕ, List, length, Ok, IsOk, Result, true, false, sym, ap, subst}
use Rattle.mvm_base.specs.declared.descriptor.FieldShape.{FieldShape}
use Rattle.mvm_isolate.specs.Isolate.{Isolate, new_array}
use Rattle.mvm_isolate.specs.Numbered.{named, shape_at}
use Rattle.mvm_initialise.specs.Arguments.{STRINGS}
use Rattle.mvm_initialise.proofs.Filling.{arguments_are, array_fits, array_made, texts_fit}
use Rattle.mvm_initialise.proofs.texts.make_arguments.Goals as goal

pub unreachable-requires : goal.unreachable-requires
unreachable-requires c =
    let fits : IsOk (new_array STRINGS (length c.args.texts.now) (named c.args.isolate.now)) = array_fits c.args.texts.now (named c.args.isolate.now) c.requires.fits in
    let does = rw (c.requires.shape, c.requires.count) at c.in-Err.ensures.does in
    let ok = rw does at fits in absurd cc

pub make_texts-requires-clause-array : goal.make_texts-requires-clause-array
make_texts-requires-clause-array c = array_made c.args.count c.in-Ok.array (named c.args.isolate.now) (named c.new_array.new.self) (rw c.requires.shape at c.in-Ok.ensures.does)

pub make_texts-requires-clause-fits : goal.make_texts-requires-clause-fits
make_texts-requires-clause-fits c = texts_fit c.args.texts.now (named c.args.isolate.now) c.in-Ok.array (named c.new_array.new.self) c.requires.fits (rw (c.requires.shape, c.requires.count) at c.in-Ok.ensures.does)

pub returns-clause-does : goal.returns-clause-does
returns-clause-does c =
    arguments_are c.args.texts.now (named c.args.isolate.now) c.in-Ok.array (named c.new_array.new.self) (named c.make_texts.new.isolate) (rw (c.requires.shape, c.requires.count) at c.in-Ok.ensures.does) c.make_texts.ensures.does

pub returns-clause-there : goal.returns-clause-there
returns-clause-there c = c.make_texts.ensures.array.there
