-- The threads that wait on objects, the one that waits longest first (Java Language Specification, SE 8, 17.2).
use Rattle.std.specs.Prelude.{ℕ, ◌<◌, ◌≤◌, List, [], ◌∷◌, map, All, if◌then◌else◌, ◌==◌, eqb, nat_lt, Bool, true, not, ◌&&◌, Option, Some, None}
use Rattle.std.specs.List.{IsDistinct}
use Rattle.mvm_monitor.specs.declared.waits.Waiter.{Waiter}

-- how many threads there can be, and those that wait
pub record Waits : Type 0 where
  pub threads : ℕ
  pub waiters : List Waiter

-- the thread that waits longest on an object
abbrev pub longest : ℕ → List Waiter → Option ℕ
longest object [] = None
longest object (waiter ∷ waiters) = if waiter.object == object then Some waiter.thread else longest object waiters

-- those that wait, without that thread
abbrev pub woken : ℕ → List Waiter → List Waiter
woken object [] = []
woken object (waiter ∷ waiters) = if waiter.object == object then waiters else waiter ∷ woken object waiters

-- the thread is none of those that wait
abbrev pub is_awake : ℕ → List Waiter → Bool
is_awake thread [] = true
is_awake thread (waiter ∷ waiters) = not (waiter.thread == thread) && is_awake thread waiters

-- the thread is one of those that there can be, and does not wait yet
abbrev pub may_wait : ℕ → Waits → Bool
may_wait thread waits = nat_lt thread waits.threads && is_awake thread waits.waiters

abbrev pub threads_of : List Waiter → List ℕ
threads_of waiters = map (λ waiter. waiter.thread) waiters

abbrev pub objects_of : List Waiter → List ℕ
objects_of waiters = map (λ waiter. waiter.object) waiters

-- No thread waits twice, each is one of so many, and there are places for all of them.
pub record IsKept (threads : ℕ) (waiters : List Waiter) (places : ℕ) : Type 0 where
  pub once : IsDistinct eqb (threads_of waiters)
  pub known : All (λ waiter. waiter.thread < threads) waiters
  pub room : threads ≤ places
