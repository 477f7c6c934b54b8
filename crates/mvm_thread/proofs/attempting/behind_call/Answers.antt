use Rattle.mvm_isolate.proofs.Keeping.{grows_same}
use Rattle.mvm_thread.proofs.Waiting.{behind_step}
use Rattle.mvm_thread.proofs.attempting.behind_call.Goals as goal

pub returns-clause-does : goal.returns-clause-does
returns-clause-does c context told =
    behind_step context c.args.isolate.now c.args.isolate.now c.args.told c.args.stack.now c.set_place.new.stack c.in_ok-next.next c.does.result
    told (grows_same c.args.isolate.now) c.requires.keys c.requires.frame c.in_ok-next.ensures.is c.set_place.ensures.below (c.set_place.ensures.does c.args.isolate.now) c.does.ensures.object c.does.ensures.after
