-- What the methods of Object do (Java SE 8 API, java.lang.Object; Java Language Specification, SE 8, 17.2).
use Rattle.std.specs.Prelude.{◌≢◌, ◌<◌, ℕ, Bool, false, [], ◌∷◌, ◌++◌, All, length, slice_get, ◌==◌, if◌then◌else◌, Option, Some, None}
use Rattle.mvm_base.specs.declared.value.Word.{Word}
use Rattle.mvm_base.specs.declared.value.Word.TheVariants.{Ref}
use Rattle.mvm_region.specs.declared.monitor.Monitor.{Monitor}
use Rattle.mvm_native.specs.declared.out.Out.{Out}
use Rattle.mvm_native.specs.declared.out.Out.TheVariants.{Throw, Wait, Notify}
use Rattle.mvm_native.specs.declared.out.Thrown.TheVariants.{IllegalMonitorStateException}
use Rattle.mvm_native.specs.Machine.{Machine, gives_truth}

abbrev pub is_same : Word → Word → Bool
is_same (Ref a) (Ref b) = a == b
is_same _ _ = false

-- equals: whether both are one object
unfoldable pub object_equals : Word → Word → Out
object_equals a b = gives_truth (is_same a b)

abbrev pub is_this : ℕ → Option ℕ → Bool
is_this thread None = false
is_this thread (Some owner) = owner == thread

abbrev pub is_owned : ℕ → Option Monitor → Bool
is_owned thread None = false
is_owned thread (Some monitor) = is_this thread monitor.owner

-- the calling thread owns the monitor of an object
abbrev pub owns : Machine → ℕ → Bool
owns m object = is_owned m.thread (slice_get m.heap.monitors object)

-- the calling thread waits on an object, behind all others
abbrev pub waiting : ℕ → Machine → Machine
waiting object m = record m { waits = record m.waits { waiters = m.waits.waiters ++ record { object = object; thread = m.thread } ∷ [] } }

-- wait
unfoldable pub wait : ℕ → Machine → Out × Machine
wait object m = if owns m object then (Wait object, waiting object m) else (Throw IllegalMonitorStateException, m)

-- notify, and where `all` is true notifyAll
unfoldable pub notify : Bool → ℕ → Machine → Out
notify all object m = if owns m object then Notify object all else Throw IllegalMonitorStateException

-- what wait needs: an object, and a thread that does not wait yet
pub record CanWait (object : ℕ) (m : Machine) : Type 0 where
  pub there : object < length m.heap.objects
  pub known : m.thread < m.waits.threads
  pub awake : All (λ waiter. waiter.thread ≢ m.thread) m.waits.waiters
