use Rattle.std.proofs.Common.{List, sym, ap, ◌∙◌}
use Rattle.std.specs.Prelude.{Ok}
use Rattle.mvm_isolate.specs.Numbered.{named}
use Rattle.mvm_current.specs.Frames.{Frame, at_place, without}
use Rattle.mvm_current.specs.Keys.{top_named}
use Rattle.mvm_current.proofs.Growth.{keys_grow}
use Rattle.mvm_object.specs.Coming.{point_of}
use Rattle.mvm_object.specs.Going.{does, ready}
use Rattle.mvm_locking.proofs.Entered.{exited_on, keys_below, went_on}
use Rattle.mvm_locking.proofs.Tops.{top_there}
use Rattle.mvm_locking.proofs.monitors.monitor_exit.Goals as goal

pub returns-then-exit-clause-does : goal.returns-then-exit-clause-does
returns-then-exit-clause-does c = λ told e.
    exited_on told c.args.next c.in_ok-object.object (point_of c.args.isolate.now c.args.stack.now) (named c.exit.new.isolate) (sym (c.in_ok-object.ensures.is c.args.isolate.now))
    (rw e (sym c.if-exit.ensures.owns)) (rw e c.exit.ensures.does)
    ∙ ap (λ (fs : List Frame). Ok (record { isolate = named c.exit.new.isolate; frames = fs; object = told.object; after = does ready }))
    (sym (went_on c.args.isolate.now c.exit.new.isolate c.args.stack.now c.off_and_on.new.stack (at_place c.args.next (without 1 (top_named c.args.isolate.now c.args.stack.now))) c.exit.ensures.grows c.requires.keys c.off_and_on.ensures.below (c.off_and_on.ensures.does c.args.isolate.now)))

pub returns-then-exit-clause-keys : goal.returns-then-exit-clause-keys
returns-then-exit-clause-keys c = keys_below c.args.isolate.now c.exit.new.isolate c.args.stack.now c.off_and_on.new.stack c.exit.ensures.grows c.requires.keys c.off_and_on.ensures.below

pub returns-else-exit-clause-keys : goal.returns-else-exit-clause-keys
returns-else-exit-clause-keys c = keys_grow c.args.isolate.now c.exit.new.isolate c.args.stack.now c.exit.ensures.grows c.requires.keys

pub off_and_on-requires-clause-there : goal.off_and_on-requires-clause-there
off_and_on-requires-clause-there c = top_there (top_named c.args.isolate.now c.args.stack.now) c.in_ok-object.object (sym (c.in_ok-object.ensures.is c.args.isolate.now))
