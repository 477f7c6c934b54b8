use Rattle.std.proofs.Common.{◌≡◌, ◌∙◌, ℕ, Ok, true, sym, ap}
use Rattle.mvm_isolate.specs.Numbered.{name_at, named}
use Rattle.mvm_initialise.specs.declared.arguments.MainCall.{MainCall}
use Rattle.mvm_initialise.specs.declared.arguments.MainLock.TheVariants.{Entered}
use Rattle.mvm_initialise.proofs.Calling.{entry_of, made_old, main_is, new_fits, new_is, new_thrown, row_stays, shape_stays}
use Rattle.mvm_initialise.proofs.Entering.{new_there}
use Rattle.mvm_initialise.proofs.Starts.{stays_there}
use Rattle.mvm_initialise.proofs.arguments.main_made.Goals as goal

pub class_object-requires : goal.class_object-requires
class_object-requires c = stays_there c.args.isolate.now c.texts_class.new.isolate c.args.mirror c.class-class.result.now c.class-class.ensures.at c.texts_class.ensures.grows

pub entered_with-requires-clause-there : goal.entered_with-requires-clause-there
entered_with-requires-clause-there c =
    new_there (name_at c.args.isolate.now c.args.mirror) (named c.args.isolate.now) (named c.class_object.new.self) c.in-Ok-class_object.object c.requires.none
    (made_old c.args.isolate.now c.texts_class.new.isolate c.args.mirror c.class-class.result.now _ c.class-class.ensures.at c.texts_class.ensures.grows c.texts_class.ensures.same c.in-Ok-class_object.ensures.does)

pub entered_with-requires-clause-row : goal.entered_with-requires-clause-row
entered_with-requires-clause-row c = row_stays c.texts_class.new.isolate c.class_object.new.self c.in-Ok.row c.in-Ok.ensures.there c.class_object.ensures.grows

pub entered_with-requires-clause-shape : goal.entered_with-requires-clause-shape
entered_with-requires-clause-shape c = shape_stays c.texts_class.new.isolate c.class_object.new.self c.in-Ok.row c.in-Ok.ensures.there c.class_object.ensures.grows ∙ c.in-Ok.ensures.shape

pub entered_with-requires-clause-fits : goal.entered_with-requires-clause-fits
entered_with-requires-clause-fits c =
    let made = made_old c.args.isolate.now c.texts_class.new.isolate c.args.mirror c.class-class.result.now _ c.class-class.ensures.at c.texts_class.ensures.grows c.texts_class.ensures.same c.in-Ok-class_object.ensures.does in
    new_fits c.args.texts.now c.args.thread (name_at c.args.isolate.now c.args.mirror) (named c.args.isolate.now) c.requires.none c.requires.monitors
    c.in-Ok-class_object.object (entry_of c.args.thread) (named c.class_object.new.self) made c.requires.fits

pub returns-in-Ok-class_object-clause-does : goal.returns-in-Ok-class_object-clause-does
returns-in-Ok-class_object-clause-does c =
    let made = made_old c.args.isolate.now c.texts_class.new.isolate c.args.mirror c.class-class.result.now _ c.class-class.ensures.at c.texts_class.ensures.grows c.texts_class.ensures.same c.in-Ok-class_object.ensures.does in
    let object = c.in-Ok-class_object.object in
    let call : record { lock = object; arguments = c.entered_with.result.arguments } ≡ c.entered_with.result = ap (λ (n : ℕ). record { lock = n; arguments = c.entered_with.result.arguments }) (sym c.entered_with.ensures.lock) in
    new_is c.args.texts.now c.args.thread (name_at c.args.isolate.now c.args.mirror) (named c.args.isolate.now) c.requires.none c.requires.monitors true object (named c.class_object.new.self) made
    ∙ main_is c.args.texts.now object (named c.class_object.new.self) (entry_of c.args.thread) c.entered_with.result.arguments (named c.entered_with.new.isolate) c.entered_with.ensures.does
    ∙ ap (λ (m : MainCall). Ok (Entered m, named c.entered_with.new.isolate)) call

pub returns-in-Err-class_object-clause-does : goal.returns-in-Err-class_object-clause-does
returns-in-Err-class_object-clause-does c = λ other.
    let made = made_old c.args.isolate.now c.texts_class.new.isolate c.args.mirror c.class-class.result.now _ c.class-class.ensures.at c.texts_class.ensures.grows c.texts_class.ensures.same c.in-Err-class_object.ensures.does in
    new_thrown c.args.texts.now c.args.thread (name_at c.args.isolate.now c.args.mirror) (named c.args.isolate.now) c.requires.none c.requires.monitors true c.in-Err-class_object.stop made
