-- What lock and unlock do to a monitor (Java Language Specification, SE 8, 17.1).
use Rattle.std.specs.Prelude.{◌≡◌, ◌≢◌, ◌↔◌, ℕ, ◌+◌, ◌-◌, ◌<◌, ◌^◌, ◌==◌, if◌then◌else◌, Option, Some, None}
use Rattle.mvm_region.specs.declared.monitor.Monitor.{Monitor}
use Rattle.mvm_monitor.specs.declared.answer.Enter.{Enter}
use Rattle.mvm_monitor.specs.declared.answer.Enter.TheVariants.{Entered, Blocked}

-- the count is 0 exactly where nobody owns it, and is in range
pub record IsMonitor (monitor : Monitor) : Type 0 where
  pub owned : (monitor.count ≡ 0) ↔ (monitor.owner ≡ None)
  pub few : monitor.count < 2 ^ 63

abbrev pub IsOther : ℕ → Option ℕ → Type 0
IsOther thread None = ⊥
IsOther thread (Some owner) = owner ≢ thread

-- another thread owns it
abbrev pub IsOwnedByAnother : Monitor → ℕ → Type 0
IsOwnedByAnother monitor thread = IsOther thread monitor.owner

-- the thread owns it, with one entry more
abbrev pub entered : Monitor → ℕ → Monitor
entered monitor thread = record { owner = Some thread; count = monitor.count + 1 }

-- the owner has one entry fewer; nobody owns it after the last
abbrev pub exited : Monitor → Monitor
exited monitor = if monitor.count == 1 then record { owner = None; count = 0 } else record monitor { count = monitor.count - 1 }

-- it holds of the monitor that was entered
abbrev pub IfEntered : Enter → (Monitor → Type 0) → Type 0
IfEntered (Entered monitor) P = P monitor
IfEntered Blocked P = Unit {0}
