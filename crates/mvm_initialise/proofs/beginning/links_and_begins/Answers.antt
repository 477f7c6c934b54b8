use Rattle.mvm_isolate.specs.Numbered.{look_of, name_at, named}
use Rattle.mvm_initialise.proofs.Running.{links_ok, links_thrown}
use Rattle.mvm_initialise.proofs.beginning.links_and_begins.Goals as goal

pub returns-in-Ok-clause-does : goal.returns-in-Ok-clause-does
returns-in-Ok-clause-does g c = rw (links_ok (look_of c.args.isolate.now) c.args.room c.args.thread (name_at c.args.isolate.now c.args.mirror) (named c.args.isolate.now) c.in-Ok.ensures) c.begins.ensures.does

pub returns-in-Err-clause-does : goal.returns-in-Err-clause-does
returns-in-Err-clause-does g c = λ other. links_thrown (look_of c.args.isolate.now) c.args.room c.args.thread (name_at c.args.isolate.now c.args.mirror) (named c.args.isolate.now) c.in-Err.stop (c.in-Err.ensures other)
