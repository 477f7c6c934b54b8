use Rattle.mvm_invoke.proofs.Telling.{keys_below}
use Rattle.mvm_thread.specs.Instructions.{plain}
use Rattle.mvm_thread.proofs.Going.{comes_left, goes_below, goes_left}
use Rattle.mvm_thread.proofs.plain.plain.Goals as goal

pub returns-in_err-array_access-in-LoadItem-clause-keys : goal.returns-in_err-array_access-in-LoadItem-clause-keys
returns-in_err-array_access-in-LoadItem-clause-keys g c = keys_below c.args.isolate.now c.array_access.new.isolate c.args.stack.now c.array_access.new.stack c.array_access.ensures.grows c.requires.keys c.array_access.ensures.below

pub returns-in_ok-array_access-in-LoadItem-clause-does : goal.returns-in_ok-array_access-in-LoadItem-clause-does
returns-in_ok-array_access-in-LoadItem-clause-does g c context told =
    goes_below context c.array_access.new.isolate c.args.stack.now c.array_access.new.stack c.does.result c.args.told.object _ c.requires.frame c.array_access.ensures.below told.object c.does.ensures.object c.does.ensures.after (c.in_ok-array_access-in-LoadItem.ensures.does context told.look)

pub returns-in_ok-array_access-in-LoadItem-clause-keys : goal.returns-in_ok-array_access-in-LoadItem-clause-keys
returns-in_ok-array_access-in-LoadItem-clause-keys g c = keys_below c.args.isolate.now c.array_access.new.isolate c.args.stack.now c.array_access.new.stack c.array_access.ensures.grows c.requires.keys c.array_access.ensures.below

pub returns-in_ok-state-in-EnterMonitor-clause-does : goal.returns-in_ok-state-in-EnterMonitor-clause-does
unfolding plain
returns-in_ok-state-in-EnterMonitor-clause-does g c context told =
    rw c.in-EnterMonitor.is
    (comes_left context c.monitor_enter.new.isolate c.monitor_enter.new.stack c.does-in-EnterMonitor.result c.args.told.object c.in_ok-state-in-EnterMonitor.state _ c.monitor_enter.ensures.frame told.object c.does-in-EnterMonitor.ensures.object c.does-in-EnterMonitor.ensures.after
    (c.in_ok-state-in-EnterMonitor.ensures.does context told.number))

pub returns-in_ok-monitor_exit-in-ExitMonitor-clause-does : goal.returns-in_ok-monitor_exit-in-ExitMonitor-clause-does
unfolding plain
returns-in_ok-monitor_exit-in-ExitMonitor-clause-does g c context told =
    rw c.in-ExitMonitor.is
    (goes_left context c.monitor_exit.new.isolate c.monitor_exit.new.stack c.does-in-ExitMonitor.result c.args.told.object _ c.monitor_exit.ensures.frame told.object c.does-in-ExitMonitor.ensures.object c.does-in-ExitMonitor.ensures.after (c.in_ok-monitor_exit-in-ExitMonitor.ensures.does context told.number))
