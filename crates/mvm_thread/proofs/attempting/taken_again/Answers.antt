use Rattle.std.proofs.Common.{ap, sym, ◌∙◌}
use Rattle.mvm_object.specs.Coming.{point_of}
use Rattle.mvm_object.specs.Going.{in_isolate}
use Rattle.mvm_locking.specs.Monitors.{monitor_taken}
use Rattle.mvm_isolate.specs.Isolate.{Isolate}
use Rattle.mvm_isolate.specs.Numbered.{named}
use Rattle.mvm_invoke.proofs.Telling.{keys_below}
use Rattle.mvm_thread.specs.Attempt.{behind_call}
use Rattle.mvm_thread.proofs.Waiting.{behind_step}
use Rattle.mvm_thread.proofs.attempting.taken_again.Goals as goal

pub returns-clause-does : goal.returns-clause-does
returns-clause-does c context told =
    ap (λ thread. behind_call context (in_isolate (monitor_taken thread c.args.object c.args.times (named c.args.isolate.now)) (point_of c.args.isolate.now c.args.stack.now))) told.number
    ∙ ap (λ (i : Isolate). behind_call context (in_isolate i (point_of c.args.isolate.now c.args.stack.now))) (sym c.monitor_taken.ensures.does)
    ∙ behind_step context c.args.isolate.now c.monitor_taken.new.isolate c.args.told c.args.stack.now c.set_place.new.stack c.in_ok-place.place c.does.result
    told c.monitor_taken.ensures.grows c.requires.keys c.requires.frame c.in_ok-place.ensures.is c.set_place.ensures.below (c.set_place.ensures.does c.monitor_taken.new.isolate) c.does.ensures.object c.does.ensures.after

pub returns-clause-keys : goal.returns-clause-keys
returns-clause-keys c = keys_below c.args.isolate.now c.monitor_taken.new.isolate c.args.stack.now c.set_place.new.stack c.monitor_taken.ensures.grows c.requires.keys c.set_place.ensures.below
