use Rattle.std.proofs.Common.{List, ◌∷◌, refl, sym, ap, ◌∙◌}
use Rattle.std.specs.Prelude.{Ok}
use Rattle.mvm_isolate.specs.Isolate.{Isolate}
use Rattle.mvm_isolate.specs.Numbered.{named}
use Rattle.mvm_current.specs.Frames.{Frame, at_place, without}
use Rattle.mvm_current.specs.Keys.{callers_named, top_named}
use Rattle.mvm_current.proofs.Growth.{keys_grow}
use Rattle.mvm_object.specs.Coming.{point_of}
use Rattle.mvm_object.specs.Going.{does, ready, entering, stays}
use Rattle.mvm_locking.proofs.Entered.{entered_on, waits_on, keys_below, went_on, if_entered, if_waits}
use Rattle.mvm_locking.specs.Monitors.{once_entered}
use Rattle.mvm_locking.proofs.Tops.{top_there}
use Rattle.mvm_locking.proofs.monitors.monitor_enter.Goals as goal

pub returns-in-Ok-true-clause-does : goal.returns-in-Ok-true-clause-does
returns-in-Ok-true-clause-does c = λ told e.
    entered_on told c.args.next c.in_ok-object.object (point_of c.args.isolate.now c.args.stack.now) (named c.once_entered.new.isolate) (sym (c.in_ok-object.ensures.is c.args.isolate.now))
    (λ go. if_entered c.in-Ok-true.field-0 (once_entered told c.in_ok-object.object (point_of c.args.isolate.now c.args.stack.now) go) go (stays told (entering c.in_ok-object.object 0) (point_of c.args.isolate.now c.args.stack.now)) (named c.once_entered.new.isolate) c.in-Ok-true.field-0-test (c.in-Ok-true.ensures.does told (point_of c.args.isolate.now c.args.stack.now) go e refl))
    ∙ ap (λ (fs : List Frame). Ok (record { isolate = named c.once_entered.new.isolate; frames = fs; object = told.object; after = does ready }))
    (sym (went_on c.args.isolate.now c.once_entered.new.isolate c.args.stack.now c.off_and_on.new.stack (at_place c.args.next (without 1 (top_named c.args.isolate.now c.args.stack.now))) c.once_entered.ensures.grows c.requires.keys c.off_and_on.ensures.below (c.off_and_on.ensures.does c.args.isolate.now)))

pub returns-in-Ok-true-clause-keys : goal.returns-in-Ok-true-clause-keys
returns-in-Ok-true-clause-keys c = keys_below c.args.isolate.now c.once_entered.new.isolate c.args.stack.now c.off_and_on.new.stack c.once_entered.ensures.grows c.requires.keys c.off_and_on.ensures.below

pub returns-in-Ok-false-clause-keys : goal.returns-in-Ok-false-clause-keys
returns-in-Ok-false-clause-keys c = keys_grow c.args.isolate.now c.once_entered.new.isolate c.args.stack.now c.once_entered.ensures.grows c.requires.keys

pub returns-in-Err-clause-keys : goal.returns-in-Err-clause-keys
returns-in-Err-clause-keys c = keys_grow c.args.isolate.now c.once_entered.new.isolate c.args.stack.now c.once_entered.ensures.grows c.requires.keys

pub off_and_on-requires-clause-there : goal.off_and_on-requires-clause-there
off_and_on-requires-clause-there c = top_there (top_named c.args.isolate.now c.args.stack.now) c.in_ok-object.object (sym (c.in_ok-object.ensures.is c.args.isolate.now))

pub returns-in-Ok-false-clause-does : goal.returns-in-Ok-false-clause-does
returns-in-Ok-false-clause-does c = λ told e.
    waits_on told c.args.next c.in_ok-object.object (point_of c.args.isolate.now c.args.stack.now) (stays told (entering c.in_ok-object.object 0) (point_of c.args.isolate.now c.args.stack.now)) (sym (c.in_ok-object.ensures.is c.args.isolate.now))
    (λ go. if_waits c.in-Ok-false.field-0 (once_entered told c.in_ok-object.object (point_of c.args.isolate.now c.args.stack.now) go) go (stays told (entering c.in_ok-object.object 0) (point_of c.args.isolate.now c.args.stack.now)) (named c.once_entered.new.isolate) c.in-Ok-false.field-0-test (c.in-Ok-false.ensures.does told (point_of c.args.isolate.now c.args.stack.now) go e refl))
    ∙ ap (λ (s : Isolate). Ok (record { isolate = s; frames = top_named c.args.isolate.now c.args.stack.now ∷ callers_named c.args.isolate.now c.args.stack.now; object = told.object; after = does (entering c.in_ok-object.object 0) })) (sym (c.in-Ok-false.ensures.waits (ap Ok c.in-Ok-false.field-0-test)))
    ∙ ap (λ (fs : List Frame). Ok (record { isolate = named c.once_entered.new.isolate; frames = fs; object = told.object; after = does (entering c.in_ok-object.object 0) }))
    (sym (went_on c.args.isolate.now c.once_entered.new.isolate c.args.stack.now c.args.stack.now (top_named c.args.isolate.now c.args.stack.now) c.once_entered.ensures.grows c.requires.keys refl refl))
