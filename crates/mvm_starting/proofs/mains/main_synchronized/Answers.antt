use Rattle.std.proofs.Common.{Ok, Some, ap, sym, ◌∙◌}
use Rattle.mvm_current.proofs.Growth.{keys_grow}
use Rattle.mvm_initialise.specs.declared.arguments.MainLock.TheVariants.{Entered, Waits}
use Rattle.mvm_object.specs.Coming.{point_of}
use Rattle.mvm_isolate.specs.Numbered.{name_at, named}
use Rattle.mvm_invoke.proofs.Telling.{limits_grow}
use Rattle.mvm_starting.proofs.Beginning.{first_grows, locked_goes, room_for, room_of_lock, started_in, stays_in, with_lock}
use Rattle.mvm_starting.proofs.mains.main_synchronized.Goals as goal

pub started-requires-clause-room : goal.started-requires-clause-room
started-requires-clause-room c = sym c.first_room-room.ensures.fits ∙ room_of_lock _ c.first_room-room.result _ _ _ c.in-Ok-Entered.call _ (with_lock c.in-Ok-Entered.field-0 (Entered c.in-Ok-Entered.call) _ _ c.in-Ok-Entered.field-0-is c.in-Ok-Entered.ensures.does)

pub returns-in-Ok-Entered-clause-does : goal.returns-in-Ok-Entered-clause-does
returns-in-Ok-Entered-clause-does c context is =
    locked_goes context c.args.member.now c.args.first.head (point_of c.args.isolate.now c.args.stack.now) c.args.isolate.now.env.launch.args c.first_room-room.result c.args.thread (name_at c.args.isolate.now c.args.first.key.mirror) (Entered c.in-Ok-Entered.call) (named c.locked_main.new.isolate)
    (ap (λ launch. launch.args) is.launch) (room_for context c.args.isolate.now c.args.thread c.args.first.head c.args.stack.now c.first_room-room.result is c.first_room-room.ensures.is c.requires.limits) is.number c.requires.first.of_class (with_lock c.in-Ok-Entered.field-0 (Entered c.in-Ok-Entered.call) _ _ c.in-Ok-Entered.field-0-is c.in-Ok-Entered.ensures.does)
    ∙ ap Ok (started_in context c.args.isolate.now c.locked_main.new.isolate c.args.member.now (Some c.in-Ok-Entered.call.lock) c.args.first.head c.in-Ok-Entered.call.arguments c.args.stack.now c.started.new.stack c.locked_main.ensures.grows c.requires.keys
    (c.started.ensures.does context c.locked_main.new.isolate c.args.member.now (first_grows c.args.isolate.now c.locked_main.new.isolate c.args.member.now c.args.first c.locked_main.ensures.grows c.requires.first)))

pub returns-in-Ok-Entered-clause-keys : goal.returns-in-Ok-Entered-clause-keys
returns-in-Ok-Entered-clause-keys c =
    c.started.ensures.keys c.locked_main.new.isolate c.args.member.now (first_grows c.args.isolate.now c.locked_main.new.isolate c.args.member.now c.args.first c.locked_main.ensures.grows c.requires.first)
    (keys_grow c.args.isolate.now c.locked_main.new.isolate c.args.stack.now c.locked_main.ensures.grows c.requires.keys)

pub returns-in-Ok-Entered-clause-limits : goal.returns-in-Ok-Entered-clause-limits
returns-in-Ok-Entered-clause-limits c = c.started.ensures.limits _ (limits_grow c.args.isolate.now c.locked_main.new.isolate c.args.stack.now c.locked_main.ensures.grows c.requires.limits)

pub returns-in-Ok-Waits-clause-does : goal.returns-in-Ok-Waits-clause-does
returns-in-Ok-Waits-clause-does c context is =
    locked_goes context c.args.member.now c.args.first.head (point_of c.args.isolate.now c.args.stack.now) c.args.isolate.now.env.launch.args c.first_room-room.result c.args.thread (name_at c.args.isolate.now c.args.first.key.mirror) (Waits c.in-Ok-Waits.object) (named c.locked_main.new.isolate)
    (ap (λ launch. launch.args) is.launch) (room_for context c.args.isolate.now c.args.thread c.args.first.head c.args.stack.now c.first_room-room.result is c.first_room-room.ensures.is c.requires.limits) is.number c.requires.first.of_class (with_lock c.in-Ok-Waits.field-0 (Waits c.in-Ok-Waits.object) _ _ c.in-Ok-Waits.field-0-is c.in-Ok-Waits.ensures.does)
    ∙ ap Ok (stays_in context c.args.isolate.now c.locked_main.new.isolate c.in-Ok-Waits.object c.args.stack.now c.locked_main.ensures.grows c.requires.keys c.requires.frame)

pub returns-in-Ok-Waits-clause-keys : goal.returns-in-Ok-Waits-clause-keys
returns-in-Ok-Waits-clause-keys c = keys_grow c.args.isolate.now c.locked_main.new.isolate c.args.stack.now c.locked_main.ensures.grows c.requires.keys

pub returns-in-Err-clause-keys : goal.returns-in-Err-clause-keys
returns-in-Err-clause-keys c = keys_grow c.args.isolate.now c.locked_main.new.isolate c.args.stack.now c.locked_main.ensures.grows c.requires.keys
