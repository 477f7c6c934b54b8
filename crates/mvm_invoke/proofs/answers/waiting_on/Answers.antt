use Rattle.std.proofs.Common.{◌∙◌}
use Rattle.mvm_invoke.proofs.Answering.{waiting_by}
use Rattle.mvm_invoke.proofs.answers.waiting_on.Goals as goal

pub returns-clause-does : goal.returns-clause-does
returns-clause-does c context object =
    waiting_by context c.args.object c.monitor_freed.result c.args.slots c.args.isolate.now c.monitor_freed.new.isolate c.args.stack.now c.monitor_freed.ensures.grows c.requires.keys c.monitor_freed.ensures.count c.monitor_freed.ensures.does
    ∙ c.leaving.ensures.does context c.monitor_freed.new.isolate object
