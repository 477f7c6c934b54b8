-- The monitor of an object, and the threads that wait on objects (Java Language Specification, SE 8, 17.1, 17.2).
use Rattle.std.specs.Prelude.{ℕ, List, Option, slice_get, slice_set}
use Rattle.mvm_monitor.specs.Waits.{woken}
use Rattle.mvm_region.specs.declared.monitor.Monitor.{Monitor}
use Rattle.mvm_isolate.specs.Isolate.{Isolate}

abbrev pub monitor_at : Isolate → ℕ → Option Monitor
monitor_at s object = slice_get s.heap.monitors object

abbrev pub with_monitor : ℕ → Monitor → Isolate → Isolate
with_monitor object monitor s = record s { heap = record s.heap { monitors = slice_set s.heap.monitors object monitor } }

-- the thread that waits longest on an object waits no more
abbrev pub without_waiter : ℕ → Isolate → Isolate
without_waiter object s = record s { waits = record s.waits { waiters = woken object s.waits.waiters } }
