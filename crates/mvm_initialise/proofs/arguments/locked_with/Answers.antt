use Rattle.std.proofs.Common.{sym}
use Rattle.mvm_isolate.specs.Numbered.{name_at, named}
use Rattle.mvm_initialise.proofs.Calling.{known_is}
use Rattle.mvm_initialise.proofs.arguments.locked_with.Goals as goal

pub returns-in-Some-clause-does : goal.returns-in-Some-clause-does
returns-in-Some-clause-does c =
    rw (known_is c.args.texts.now c.args.room c.args.thread c.in-Some.object (name_at c.args.isolate.now c.args.mirror) (named c.args.isolate.now) (sym c.in-Some.ensures))
    c.main_known.ensures.does
