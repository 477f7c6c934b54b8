use Rattle.std.proofs.Common.{sym}
use Rattle.mvm_isolate.specs.Numbered.{name_at, named}
use Rattle.mvm_initialise.proofs.Entering.{known}
use Rattle.mvm_initialise.proofs.locks.locked_class.Goals as goal

pub returns-in-Some-clause-does : goal.returns-in-Some-clause-does
returns-in-Some-clause-does c =
    rw (known c.args.room c.args.thread c.in-Some.object (name_at c.args.isolate.now c.args.mirror) (named c.args.isolate.now) (sym c.in-Some.ensures))
    c.lock_known.ensures.does
