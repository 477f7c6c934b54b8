use Rattle.std.proofs.Common.{arith}
use Rattle.mvm_starting.proofs.Supers.{doing_ends, keys_later}
use Rattle.mvm_starting.proofs.initialising.superinterfaces_first.Goals as goal

pub returns-clause-does : goal.returns-clause-does
returns-clause-does g c = λ context go is.
    doing_ends context c.args.isolate.now c.loop-i.isolate c.args.stack.now c.loop-i.stack c.args.thread c.args.owns.now c.loop-i.i go c.loop-i.invariant (omega arith) is

pub returns-clause-keys : goal.returns-clause-keys
returns-clause-keys g c = keys_later c.args.isolate.now c.loop-i.isolate c.args.stack.now c.loop-i.stack c.loop-i.invariant.grows c.loop-i.invariant.frames c.requires.keys
