use Rattle.std.proofs.Common.{◌≡◌, true, false, arith}
use Rattle.mvm_isolate.specs.Numbered.{name_at, named}
use Rattle.mvm_initialise.proofs.Calling.{new_full, new_lacks}
use Rattle.mvm_initialise.proofs.arguments.main_new.Goals as goal

pub returns-then-not-room-clause-does : goal.returns-then-not-room-clause-does
returns-then-not-room-clause-does c = λ other.
    let r : c.args.room ≡ false = grind (arith, c.if-not-room.true) in
    rw r (new_full c.args.texts.now c.args.thread (name_at c.args.isolate.now c.args.mirror) (named c.args.isolate.now) c.requires.none c.requires.monitors c.in-Ok.ensures.ok)

pub returns-in-Err-clause-does : goal.returns-in-Err-clause-does
returns-in-Err-clause-does c = λ other.
    new_lacks c.args.texts.now c.args.thread (name_at c.args.isolate.now c.args.mirror) (named c.args.isolate.now) c.requires.none c.requires.monitors c.args.room c.in-Err.stop (c.in-Err.ensures.fault other)
