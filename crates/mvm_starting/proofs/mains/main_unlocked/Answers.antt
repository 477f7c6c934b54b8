use Rattle.std.proofs.Common.{Ok, ap, sym, None, ◌∙◌}
use Rattle.mvm_current.proofs.Growth.{keys_grow}
use Rattle.mvm_object.specs.Coming.{point_of}
use Rattle.mvm_isolate.specs.Numbered.{named}
use Rattle.mvm_invoke.proofs.Telling.{limits_grow}
use Rattle.mvm_starting.proofs.Beginning.{first_grows, room_for, room_of_arguments, started_in, unlocked_goes}
use Rattle.mvm_starting.proofs.mains.main_unlocked.Goals as goal

pub started-requires-clause-room : goal.started-requires-clause-room
started-requires-clause-room c = sym c.first_room-room.ensures.fits ∙ room_of_arguments _ c.first_room-room.result _ _ c.in-Ok.ensures.does

pub returns-in-Ok-clause-does : goal.returns-in-Ok-clause-does
returns-in-Ok-clause-does c context thread is =
    unlocked_goes context c.args.member.now c.args.first.head (point_of c.args.isolate.now c.args.stack.now) c.args.isolate.now.env.launch.args c.first_room-room.result c.in-Ok.arguments (named c.main_arguments.new.isolate)
    (ap (λ launch. launch.args) is.launch) (room_for context c.args.isolate.now thread c.args.first.head c.args.stack.now c.first_room-room.result is c.first_room-room.ensures.is c.requires.limits) c.in-Ok.ensures.does
    ∙ ap Ok (started_in context c.args.isolate.now c.main_arguments.new.isolate c.args.member.now None c.args.first.head c.in-Ok.arguments c.args.stack.now c.started.new.stack c.main_arguments.ensures.grows c.requires.keys
    (c.started.ensures.does context c.main_arguments.new.isolate c.args.member.now (first_grows c.args.isolate.now c.main_arguments.new.isolate c.args.member.now c.args.first c.main_arguments.ensures.grows c.requires.first)))

pub returns-in-Ok-clause-keys : goal.returns-in-Ok-clause-keys
returns-in-Ok-clause-keys c =
    c.started.ensures.keys c.main_arguments.new.isolate c.args.member.now (first_grows c.args.isolate.now c.main_arguments.new.isolate c.args.member.now c.args.first c.main_arguments.ensures.grows c.requires.first)
    (keys_grow c.args.isolate.now c.main_arguments.new.isolate c.args.stack.now c.main_arguments.ensures.grows c.requires.keys)

pub returns-in-Ok-clause-limits : goal.returns-in-Ok-clause-limits
returns-in-Ok-clause-limits c = c.started.ensures.limits _ (limits_grow c.args.isolate.now c.main_arguments.new.isolate c.args.stack.now c.main_arguments.ensures.grows c.requires.limits)

pub returns-in-Err-clause-keys : goal.returns-in-Err-clause-keys
returns-in-Err-clause-keys c = keys_grow c.args.isolate.now c.main_arguments.new.isolate c.args.stack.now c.main_arguments.ensures.grows c.requires.keys
