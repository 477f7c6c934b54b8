-- What a step leaves as it was.
use Rattle.std.proofs.Common.{◌≡◌, refl}
use Rattle.std.specs.Prelude.{ℕ, List, [], ◌∷◌, ◌++◌, Bool, true, false, ◌==◌, Option, Some, None, Result, Ok, Err, slice_get}
use Rattle.mvm_isolate.specs.Look.{Look}
use Rattle.mvm_isolate.specs.declared.stop.Stop.{Stop}
use Rattle.mvm_monitor.specs.Waits.{longest}
use Rattle.mvm_thread.specs.Attempt.{attempt}
use Rattle.mvm_object.specs.Going.{After, does, starts, notifies, acts, ends_uncaught, exits, limited, Went, ready, ended}
use Rattle.mvm_thread.specs.State.{State, Thread}
use Rattle.mvm_thread.specs.Step.{all_ended, unless_over, wake, notified, all_notified, notified_by, after_attempt, uncaught_of, followed, counted, come_of, context_of, attempt_of, step_with}

-- the bytes of messages, the thread of the last turn, the launch and the closed links are those
pub record Keeps (old new : State) : Type 0 where
  pub bytes : new.message_bytes ≡ old.message_bytes
  pub last : new.last ≡ old.last
  pub launch : new.launch ≡ old.launch
  pub closed : new.closed ≡ old.closed

over_by : (s : State) (over : Bool) → all_ended s.threads ≡ over → Keeps s (unless_over s)
over_by s true e = record { bytes = rw e refl; last = rw e refl; launch = rw e refl; closed = rw e refl }
over_by s false e = record { bytes = rw e refl; last = rw e refl; launch = rw e refl; closed = rw e refl }

over_keeps : (s : State) → Keeps s (unless_over s)
over_keeps s = over_by s (all_ended s.threads) refl

wake_keeps : (object : ℕ) (thread : Option ℕ) (s : State) → Keeps s (wake object thread s)
wake_keeps object (Some thread) s = record { bytes = refl; last = refl; launch = refl; closed = refl }
wake_keeps object None s = record { bytes = refl; last = refl; launch = refl; closed = refl }

notified_keeps : (object : ℕ) (s : State) → Keeps s (notified object s)
unfolding notified
notified_keeps object s = wake_keeps object (longest object s.isolate.waits.waiters) s

all_notified_keeps : (object : ℕ) (s : State) → Keeps s (all_notified object s)
unfolding all_notified
all_notified_keeps object s = record { bytes = refl; last = refl; launch = refl; closed = refl }

by_keeps : (all : Bool) (object : ℕ) (s : State) → Keeps s (notified_by all object s)
by_keeps false object s = notified_keeps object s
by_keeps true object s = all_notified_keeps object s

-- what holds of a state that was changed elsewhere holds of the state
of_changed : (s t u : State) → Keeps s t → Keeps t u → Keeps s u
of_changed s t u b k = record {
  bytes = rw (k.bytes, b.bytes) refl;
  last = rw (k.last, b.last) refl;
  launch = rw (k.launch, b.launch) refl;
  closed = rw (k.closed, b.closed) refl;
}

abbrev died : ℕ → ℕ → Went → State → State
died number object w s = record (after_attempt number ended w s) { uncaught = s.uncaught ++ uncaught_of number object w.isolate ∷ [] }

followed_keeps : (number : ℕ) (w : Went) (s : State) (after : After) → Keeps s (followed number w s after)
unfolding followed
followed_keeps number w s (does doing) = of_changed s (after_attempt number doing w s) _ (record { bytes = refl; last = refl; launch = refl; closed = refl }) (over_keeps (after_attempt number doing w s))
followed_keeps number w s (starts object) = record { bytes = refl; last = refl; launch = refl; closed = refl }
followed_keeps number w s (notifies object all) = of_changed s (after_attempt number ready w s) _ (record { bytes = refl; last = refl; launch = refl; closed = refl }) (by_keeps all object (after_attempt number ready w s))
followed_keeps number w s (acts act doing) = record { bytes = refl; last = refl; launch = refl; closed = refl }
followed_keeps number w s (ends_uncaught object) = of_changed s (died number object w s) _ (record { bytes = refl; last = refl; launch = refl; closed = refl }) (over_keeps (died number object w s))
followed_keeps number w s (exits status) = record { bytes = refl; last = refl; launch = refl; closed = refl }
followed_keeps number w s (limited kind) = record { bytes = refl; last = refl; launch = refl; closed = refl }

come_keeps : (number : ℕ) (s : State) (r : Result Went Stop) → Keeps s (come_of number s r)
come_keeps number s (Ok w) = followed_keeps number w s w.after
come_keeps number s (Err stop) = record { bytes = refl; last = refl; launch = refl; closed = refl }

attempt_keeps : (look : Look) (number : ℕ) (s : State) (thread : Option Thread) → Keeps s (attempt_of look number s thread)
attempt_keeps look number s (Some thread) =
    of_changed s (counted s) _ (record { bytes = refl; last = refl; launch = refl; closed = refl }) (come_keeps number (counted s) (attempt (context_of look number thread s) thread.doing s.isolate thread.frames))
attempt_keeps look number s None = record { bytes = refl; last = refl; launch = refl; closed = refl }

step_by : (look : Look) (s : State) (number : ℕ) (over : Bool) → (s.steps == s.launch.limits.steps) ≡ over → Keeps s (step_with look s number)
unfolding step_with
step_by look s number true e = record { bytes = rw e refl; last = rw e refl; launch = rw e refl; closed = rw e refl }
step_by look s number false e = rw e (attempt_keeps look number s (slice_get s.threads number))

pub step_keeps : (look : Look) (s : State) (number : ℕ) → Keeps s (step_with look s number)
step_keeps look s number = step_by look s number (s.steps == s.launch.limits.steps) refl
