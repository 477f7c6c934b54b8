use Rattle.mvm_starting.proofs.initialising.initialised.Goals as goal

pub returns-clause-limits : goal.returns-clause-limits
returns-clause-limits c = c.leave.ensures.limits c.finished.new.isolate.env.launch.limits (c.finished.ensures.limits c.args.stack.now c.requires.limits)
