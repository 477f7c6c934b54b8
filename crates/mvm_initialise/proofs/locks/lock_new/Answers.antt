use Rattle.std.proofs.Common.{◌≡◌, ◌<◌, ◌∙◌, ℕ, List, length, Some, ap, subst, sym}
use Rattle.mvm_heap.specs.Heap.{free}
use Rattle.mvm_isolate.specs.Isolate.{Isolate}
use Rattle.mvm_isolate.specs.Monitors.{monitor_at, with_monitor}
use Rattle.mvm_isolate.specs.Numbered.{name_at, named}
use Rattle.mvm_initialise.specs.Locks.{owner_in}
use Rattle.mvm_initialise.proofs.Entering.{entered_new, new_monitor, new_there, not_made, owner_put}
use Rattle.mvm_initialise.proofs.locks.lock_new.Goals as goal

pub set_monitor-requires-clause-there : goal.set_monitor-requires-clause-there
set_monitor-requires-clause-there c = new_there (name_at c.args.isolate.now c.args.mirror) (named c.args.isolate.now) (named c.class_object.new.self) c.in-Ok.object c.requires.none c.in-Ok.ensures.does

pub returns-in-Ok-clause-there : goal.returns-in-Ok-clause-there
returns-in-Ok-clause-there c =
    rw c.set_monitor.ensures.named
    (new_there (name_at c.args.isolate.now c.args.mirror) (named c.args.isolate.now) (named c.class_object.new.self) c.in-Ok.object c.requires.none c.in-Ok.ensures.does)

pub returns-in-Ok-clause-owned : goal.returns-in-Ok-clause-owned
returns-in-Ok-clause-owned c =
    rw c.set_monitor.ensures.named
    (owner_put (named c.class_object.new.self) c.in-Ok.object free (record { owner = Some c.args.thread; count = 1 })
    (new_monitor (name_at c.args.isolate.now c.args.mirror) (named c.args.isolate.now) (named c.class_object.new.self) c.in-Ok.object c.requires.none c.requires.monitors c.in-Ok.ensures.does))

pub returns-in-Ok-clause-does : goal.returns-in-Ok-clause-does
returns-in-Ok-clause-does c =
    rw c.set_monitor.ensures.named
    (entered_new c.args.thread (name_at c.args.isolate.now c.args.mirror) (named c.args.isolate.now) (named c.class_object.new.self) c.in-Ok.object c.requires.none c.requires.monitors c.in-Ok.ensures.does)

pub returns-in-Err-clause-does : goal.returns-in-Err-clause-does
returns-in-Err-clause-does c = λ other. not_made _ c.args.thread (name_at c.args.isolate.now c.args.mirror) (named c.args.isolate.now) c.in-Err.stop c.in-Err.ensures.does
