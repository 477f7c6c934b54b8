use Rattle.mvm_current.proofs.Growth.{keys_grow}
use Rattle.mvm_isolate.proofs.Keeping.{grows_then}
use Rattle.mvm_isolate.specs.Numbered.{look_of}
use Rattle.mvm_object.specs.Coming.{point_of}
use Rattle.mvm_object.proofs.Initialising.{is_for_grows}
use Rattle.mvm_invoke.proofs.Telling.{point_stays}
use Rattle.mvm_starting.proofs.Beginning.{leaves_by, main_with}
use Rattle.mvm_starting.proofs.mains.main_started.Goals as goal

pub main_entered-requires-clause-keys : goal.main_entered-requires-clause-keys
main_entered-requires-clause-keys g c = keys_grow c.args.isolate.now c.first_of.new.isolate c.args.stack.now c.first_of.ensures.grows c.requires.keys

pub returns-in-Ok-clause-does : goal.returns-in-Ok-clause-does
returns-in-Ok-clause-does g c context is =
    leaves_by c.main_entered.result _ _ c.main_entered.new.isolate c.main_entered.new.stack context.object
    (main_with context (look_of c.args.isolate.now) c.args.member.now c.in-Ok.first.head (point_of c.args.isolate.now c.args.stack.now) (point_of c.first_of.new.isolate c.args.stack.now) is.look c.in-Ok.ensures.ok
    (point_stays c.args.isolate.now c.first_of.new.isolate c.args.stack.now c.first_of.ensures.grows c.requires.keys c.first_of.ensures.same))
    (c.main_entered.ensures.does context (is_for_grows context c.args.isolate.now c.first_of.new.isolate c.args.thread c.first_of.ensures.grows is))

pub returns-in-Ok-clause-grows : goal.returns-in-Ok-clause-grows
returns-in-Ok-clause-grows g c = grows_then c.args.isolate.now c.first_of.new.isolate c.main_entered.new.isolate c.first_of.ensures.grows c.main_entered.ensures.grows

pub returns-in-Err-clause-keys : goal.returns-in-Err-clause-keys
returns-in-Err-clause-keys g c = keys_grow c.args.isolate.now c.first_of.new.isolate c.args.stack.now c.first_of.ensures.grows c.requires.keys
