-- The monitor that a synchronized static method enters: that of the class object of its class (JVM Specification 2.11.10).
use Rattle.std.specs.Prelude.{◌≡◌, ◌≤◌, ◌^◌, ℕ, List, Bool, true, false, ◌==◌, if◌then◌else◌, Option, Some, None, Result, Ok}
use Rattle.mvm_base.specs.Answers.{◌>>=◌}
use Rattle.mvm_monitor.specs.Monitors.{entered}
use Rattle.mvm_native.specs.declared.out.Thrown.TheVariants.{StackOverflowError}
use Rattle.mvm_region.specs.declared.monitor.Monitor.{Monitor}
use Rattle.mvm_isolate.specs.Isolate.{Isolate, stopped, class_object}
use Rattle.mvm_isolate.specs.Members.{or_verify}
use Rattle.mvm_isolate.specs.Monitors.{monitor_at, with_monitor}
use Rattle.mvm_isolate.specs.Types.{of_class}
use Rattle.mvm_isolate.specs.declared.stop.Stop.{Stop}
use Rattle.mvm_initialise.specs.declared.locks.Lock.{Lock}
use Rattle.mvm_initialise.specs.declared.locks.Lock.TheVariants.{Entered, Waits}

-- ---- entering a monitor (Java Language Specification, SE 8, 17.1)

abbrev pub entered_if : ℕ → Monitor → Option ℕ → Option Monitor
entered_if thread monitor None = Some (entered monitor thread)
entered_if thread monitor (Some owner) = if owner == thread then Some (entered monitor thread) else None

-- the monitor of an object with one entry more of a thread, where no other thread owns it
unfoldable pub monitor_entered : ℕ → ℕ → Isolate → Result (Option Monitor) Stop
monitor_entered thread object s = or_verify (monitor_at s object) >>= λ monitor. Ok (entered_if thread monitor monitor.owner)

-- ---- a call of a synchronized static method

abbrev pub lock_in : Bool → ℕ → Isolate → Option Monitor → Result (Lock × Isolate) Stop
lock_in room object s None = Ok (Waits object, s)
lock_in true object s (Some monitor) = Ok (Entered object, with_monitor object monitor s)
lock_in false object s (Some monitor) = stopped StackOverflowError

-- the monitor of the class object is entered, where no other thread owns it
unfoldable pub known_locked : Bool → ℕ → ℕ → Isolate → Result (Lock × Isolate) Stop
known_locked room thread object s = monitor_entered thread object s >>= lock_in room object s

-- The class object, made where it was never wanted before, and then its monitor. Where another thread owns that, nothing is asked of the
-- frame; else the monitor is entered, and one frame more has to fit.
unfoldable pub class_locked : Bool → ℕ → List ℕ → Isolate → Result (Lock × Isolate) Stop
class_locked room thread name s = class_object (of_class name) s >>= λ x. known_locked room thread x.0 x.1

-- ---- what a monitor keeps

-- a monitor that a thread entered, of which the count is in range
abbrev pub IsEntry : ℕ → Option Monitor → Type 0
IsEntry thread (Some monitor) = (monitor.owner ≡ Some thread) × (monitor.count ≤ 2 ^ 32)
IsEntry thread None = Unit {0}

abbrev pub owner_in : Option Monitor → Option ℕ
owner_in (Some monitor) = monitor.owner
owner_in None = None

-- the object of a lock
abbrev pub lock_object : Lock → ℕ
lock_object (Entered object) = object
lock_object (Waits object) = object

-- a thread that entered owns the monitor
abbrev pub IsOwned : ℕ → Isolate → Lock → Type 0
IsOwned thread s (Entered object) = owner_in (monitor_at s object) ≡ Some thread
IsOwned thread s (Waits object) = Unit {0}
