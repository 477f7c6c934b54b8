use Rattle.mvm_current.proofs.Growth.{keys_grow}
use Rattle.mvm_current.specs.Keys.{callers_named}
use Rattle.mvm_locking.specs.Returns.{returned_to}
use Rattle.mvm_locking.proofs.Leaving.{frames_left, limits_stay}
use Rattle.mvm_locking.proofs.returns.left_with.Goals as goal

pub returns-in-Ok-clause-returns : goal.returns-in-Ok-clause-returns
returns-in-Ok-clause-returns c =
    frames_left c.args.isolate.now c.unlocked.new.isolate c.returned.new.stack (returned_to c.args.value c.args.next (callers_named c.args.isolate.now c.args.stack.now)) c.unlocked.ensures.grows
    (c.returned.ensures.keys c.args.isolate.now c.requires.keys) (c.returned.ensures.does c.args.isolate.now)

pub returns-in-Ok-clause-keys : goal.returns-in-Ok-clause-keys
returns-in-Ok-clause-keys c = keys_grow c.args.isolate.now c.unlocked.new.isolate c.returned.new.stack c.unlocked.ensures.grows (c.returned.ensures.keys c.args.isolate.now c.requires.keys)

pub returns-in-Ok-clause-limits : goal.returns-in-Ok-clause-limits
returns-in-Ok-clause-limits c = limits_stay c.args.isolate.now c.unlocked.new.isolate c.returned.new.stack c.unlocked.ensures.grows (c.returned.ensures.limits c.args.isolate.now.env.launch.limits c.requires.limits)

pub returns-in-Err-clause-keys : goal.returns-in-Err-clause-keys
returns-in-Err-clause-keys c = keys_grow c.args.isolate.now c.unlocked.new.isolate c.args.stack.now c.unlocked.ensures.grows c.requires.keys
