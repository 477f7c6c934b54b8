use Rattle.mvm_locking.proofs.Behind.{method_called}
use Rattle.mvm_locking.proofs.caller.method_at.Goals as goal

pub returns-clause-is : goal.returns-clause-is
returns-clause-is c = method_called c.args.isolate.now c.args.place.key c.args.place.pc c.in-Some.method.now c.requires.method c.requires.key c.in-Some.ensures.value c.declared_at.ensures.class
