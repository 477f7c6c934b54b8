use Rattle.mvm_current.specs.Keys.{runs_of}
use Rattle.mvm_starting.proofs.FramesEntered.{entered, full, has_entered, limits_last}
use Rattle.mvm_starting.proofs.initialising.code_entered.Goals as goal

pub returns-then-not-room-clause-does : goal.returns-then-not-room-clause-does
returns-then-not-room-clause-does c = λ context class m is lock runs other.
    full context c.args.isolate.now class m c.args.code.now c.args.stack.now c.room.result c.requires.frame is
    (c.room.ensures.is c.args.isolate.now c.args.isolate.now.env.launch.limits c.requires.limits) c.if-not-room.true

pub unreachable-requires : goal.unreachable-requires
unreachable-requires c =
    has_entered c.args.isolate.now c.args.isolate.now.env.launch.limits c.args.code.now.max_locals c.args.code.now.max_stack (runs_of c.args.isolate.now c.args.key 0) c.args.key.lock c.args.stack.now c.set_last_stage.new.stack c.room.result _ c.requires.frame
    (c.room.ensures.is c.args.isolate.now c.args.isolate.now.env.launch.limits c.requires.limits) c.if-not-room.false (c.set_last_stage.ensures.does c.args.isolate.now) c.set_last_stage.ensures.below
    (c.in-Err.ensures.does c.args.isolate.now c.args.isolate.now.env.launch.limits (limits_last c.args.isolate.now.env.launch.limits c.args.stack.now c.set_last_stage.new.stack c.set_last_stage.ensures.below c.requires.limits))

pub returns-clause-does : goal.returns-clause-does
returns-clause-does c = λ context class m is lock runs.
    entered context c.args.isolate.now class m c.args.code.now c.args.key c.args.stack.now c.set_last_stage.new.stack c.enter_method.new.stack is lock runs (c.set_last_stage.ensures.does c.args.isolate.now) c.set_last_stage.ensures.below
    (c.in-Ok.ensures.does c.args.isolate.now c.args.isolate.now.env.launch.limits (limits_last c.args.isolate.now.env.launch.limits c.args.stack.now c.set_last_stage.new.stack c.set_last_stage.ensures.below c.requires.limits))

pub returns-clause-limits : goal.returns-clause-limits
returns-clause-limits c = c.enter_method.ensures.limits c.args.isolate.now.env.launch.limits (limits_last c.args.isolate.now.env.launch.limits c.args.stack.now c.set_last_stage.new.stack c.set_last_stage.ensures.below c.requires.limits)
