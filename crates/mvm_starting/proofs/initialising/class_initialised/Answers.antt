use Rattle.std.proofs.Common.{◌∙◌, ap, sym}
use Rattle.mvm_history.specs.declared.launch.Launch.{Launch}
use Rattle.mvm_current.proofs.Growth.{is_class_grows}
use Rattle.mvm_isolate.specs.Numbered.{name_at}
use Rattle.mvm_starting.specs.Initialising.{initialiser_called, initialiser_of}
use Rattle.mvm_starting.proofs.Supers.{called_later, first_on, found_later}
use Rattle.mvm_starting.proofs.initialising.class_initialised.Goals as goal

pub class_called-requires-clause-class : goal.class_called-requires-clause-class
class_called-requires-clause-class g c = is_class_grows c.args.isolate.now c.supers_first.new.isolate c.args.mirror c.supers_first.ensures.grows c.requires.class

pub class_called-requires-clause-found : goal.class_called-requires-clause-found
class_called-requires-clause-found g c = found_later c.args.isolate.now c.supers_first.new.isolate c.args.mirror c.args.class.now c.supers_first.ensures.grows c.requires.class c.requires.found

pub returns-in-Ok-None-clause-does : goal.returns-in-Ok-None-clause-does
returns-in-Ok-None-clause-does g c = λ context is.
    called_later context c.args.isolate.now c.supers_first.new.isolate c.class_called.new.isolate c.args.mirror (initialiser_of c.args.class.now.file) _ c.supers_first.new.stack c.class_called.new.stack c.class_called.result
    c.supers_first.ensures.grows c.requires.class
    (first_on c.in-Ok-None.field-0 _ (initialiser_called context (name_at c.args.isolate.now c.args.mirror) (initialiser_of c.args.class.now.file)) c.supers_first.new.isolate c.supers_first.new.stack context.object c.in-Ok-None.field-0-is
    (c.in-Ok-None.ensures.does context (initialiser_called context (name_at c.args.isolate.now c.args.mirror) (initialiser_of c.args.class.now.file)) is))
    (c.class_called.ensures.does context (ap (λ (l : Launch). l.limits) (is.launch ∙ sym c.supers_first.ensures.grows.launch)))
