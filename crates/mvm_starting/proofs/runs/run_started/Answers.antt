use Rattle.mvm_current.proofs.Growth.{keys_grow}
use Rattle.mvm_isolate.proofs.Keeping.{grows_then}
use Rattle.mvm_isolate.specs.Numbered.{look_of}
use Rattle.mvm_object.specs.Coming.{point_of}
use Rattle.mvm_object.proofs.Initialising.{is_for_grows}
use Rattle.mvm_invoke.proofs.Telling.{point_stays}
use Rattle.mvm_starting.proofs.Beginning.{leaves_by, run_with}
use Rattle.mvm_starting.proofs.runs.run_started.Goals as goal

pub run_entered-requires-clause-keys : goal.run_entered-requires-clause-keys
run_entered-requires-clause-keys g c = keys_grow c.args.isolate.now c.first_of.new.isolate c.args.stack.now c.first_of.ensures.grows c.requires.keys

pub returns-in-Ok-clause-does : goal.returns-in-Ok-clause-does
returns-in-Ok-clause-does g c context is =
    leaves_by c.run_entered.result _ _ c.run_entered.new.isolate c.run_entered.new.stack context.object
    (run_with context (look_of c.args.isolate.now) c.args.member.now c.args.object c.in-Ok.first.head (point_of c.args.isolate.now c.args.stack.now) (point_of c.first_of.new.isolate c.args.stack.now) is.look c.in-Ok.ensures.ok
    (point_stays c.args.isolate.now c.first_of.new.isolate c.args.stack.now c.first_of.ensures.grows c.requires.keys c.first_of.ensures.same))
    (c.run_entered.ensures.does context (is_for_grows context c.args.isolate.now c.first_of.new.isolate c.args.thread c.first_of.ensures.grows is))

pub returns-in-Ok-clause-grows : goal.returns-in-Ok-clause-grows
returns-in-Ok-clause-grows g c = grows_then c.args.isolate.now c.first_of.new.isolate c.run_entered.new.isolate c.first_of.ensures.grows c.run_entered.ensures.grows

pub returns-in-Err-clause-keys : goal.returns-in-Err-clause-keys
returns-in-Err-clause-keys g c = keys_grow c.args.isolate.now c.first_of.new.isolate c.args.stack.now c.first_of.ensures.grows c.requires.keys
