-- Monitors (JVM Specification 2.11.10, 6.5: monitorenter, monitorexit; Java Language Specification, SE 8, 17.1).
use Rattle.std.specs.Prelude.{◌≡◌, ℕ, Bool, true, false, ◌==◌, if◌then◌else◌, Option, Some, None, Result, Ok, Err}
use Rattle.mvm_base.specs.Answers.{◌>>=◌, Fails}
use Rattle.mvm_base.specs.declared.value.Kind.TheVariants as kind
use Rattle.mvm_monitor.specs.Monitors.{exited}
use Rattle.mvm_native.specs.declared.out.Thrown.TheVariants.{IllegalMonitorStateException}
use Rattle.mvm_region.specs.declared.monitor.Monitor.{Monitor}
use Rattle.mvm_isolate.specs.Isolate.{Isolate, stopped}
use Rattle.mvm_isolate.specs.Members.{or_verify}
use Rattle.mvm_isolate.specs.Monitors.{monitor_at, with_monitor}
use Rattle.mvm_isolate.specs.declared.stop.Stop.{Stop}
use Rattle.mvm_isolate.specs.declared.stop.Stop.TheVariants.{OutOfMemory}
use Rattle.mvm_current.specs.Values.{not_null}
use Rattle.mvm_current.specs.Frames.{popped}
use Rattle.mvm_initialise.specs.Locks.{entered_if}
use Rattle.mvm_object.specs.Going.{Context, Point, Went, entering, going_on, stays, in_isolate}

abbrev pub is_owner : ℕ → Option ℕ → Bool
is_owner thread (Some owner) = owner == thread
is_owner thread None = false

abbrev pub is_free : Option ℕ → Bool
is_free (Some owner) = false
is_free None = true

-- a thread owns the monitor of an object
abbrev pub is_owned : ℕ → Option Monitor → Bool
is_owned thread (Some monitor) = is_owner thread monitor.owner
is_owned thread None = false

unfoldable pub owns : ℕ → ℕ → Isolate → Bool
owns thread object s = is_owned thread (monitor_at s object)

-- ---- entering

-- the isolate once the thread has entered the monitor of an object, where no other thread owns it
abbrev pub with_entered : ℕ → Isolate → Option Monitor → Option Isolate
with_entered object s (Some monitor) = Some (with_monitor object monitor s)
with_entered object s None = None

abbrev pub or_waits : Context → ℕ → Point → (Isolate → Result Went Stop) → Option Isolate → Result Went Stop
or_waits c object p go (Some s) = go s
or_waits c object p go None = Ok (stays c (entering object 0) p)

-- The attempt goes on with the monitor entered; where another thread owns it, the thread waits, and attempts it again.
unfoldable pub once_entered : Context → ℕ → Point → (Isolate → Result Went Stop) → Result Went Stop
once_entered c object p go =
    or_verify (monitor_at p.isolate object) >>= λ monitor. or_waits c object p go (with_entered object p.isolate (entered_if c.thread monitor monitor.owner))

-- what a call answers that enters a monitor: the attempt goes on with the isolate as it now is, or the thread waits
abbrev pub Enters : Result Bool Stop → Result Went Stop → (Isolate → Result Went Stop) → Went → Isolate → Type 0
Enters (Ok true) definition go waits new = definition ≡ go new
Enters (Ok false) definition go waits new = definition ≡ Ok waits
Enters (Err stop) definition go waits new = Fails OutOfMemory stop definition

-- monitorenter
unfoldable pub monitor_enter : Context → ℕ → Point → Result Went Stop
monitor_enter c next p =
    popped kind.Ref p.frame >>= λ x.
    not_null x.0 >>= λ object.
    once_entered c object p (λ s. Ok (going_on c next x.1 (in_isolate s p)))

-- ---- leaving

abbrev pub exited_at : ℕ → Option Monitor → Isolate → Isolate
exited_at object (Some monitor) s = with_monitor object (exited monitor) s
exited_at object None s = s

-- the isolate once a thread that owns the monitor of an object has exited it
unfoldable pub monitor_exited : ℕ → Isolate → Isolate
monitor_exited object s = exited_at object (monitor_at s object) s

abbrev pub must_own : ℕ → ℕ → Isolate → Result (Unit {0}) Stop
must_own thread object s = if owns thread object s then Ok tt else stopped IllegalMonitorStateException

-- monitorexit
unfoldable pub monitor_exit : Context → ℕ → Point → Result Went Stop
monitor_exit c next p =
    popped kind.Ref p.frame >>= λ x.
    not_null x.0 >>= λ object.
    must_own c.thread object p.isolate >>= λ owns. Ok (going_on c next x.1 (in_isolate (monitor_exited object p.isolate) p))

-- ---- the monitor of a synchronized frame (2.11.10)

-- where a frame is left by a return its monitor is exited once, and the thread has to own it
unfoldable pub unlocked : ℕ → Option ℕ → Isolate → Result Isolate Stop
unlocked thread None s = Ok s
unlocked thread (Some object) s = must_own thread object s >>= λ owns. Ok (monitor_exited object s)

-- where a frame is left by a throw its monitor is exited, if the thread owns it
unfoldable pub released : ℕ → Option ℕ → Isolate → Isolate
released thread None s = s
released thread (Some object) s = if owns thread object s then monitor_exited object s else s

-- ---- waiting (Java Language Specification, SE 8, 17.2)

-- how many times the monitor of an object was entered
abbrev pub count_in : Option Monitor → ℕ
count_in (Some monitor) = monitor.count
count_in None = 0

-- the monitor given up whole
unfoldable pub monitor_freed : ℕ → Isolate → Isolate
monitor_freed object s = with_monitor object (record { owner = None; count = 0 }) s

-- the monitor entered so many times at once, by a thread that waited on its object
unfoldable pub monitor_taken : ℕ → ℕ → ℕ → Isolate → Isolate
monitor_taken thread object count s = with_monitor object (record { owner = Some thread; count = count }) s
