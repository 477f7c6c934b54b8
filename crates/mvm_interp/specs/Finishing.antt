-- A step in two parts: what its thread does after the attempt, and what is done about that for the isolate as a whole.
use Rattle.std.specs.List.{filter}
use Rattle.std.specs.Prelude.{◌≡◌, List, not, ◌==◌, Option, None, ℕ, ◌+◌, ◌^◌, [], ◌∷◌, ◌++◌, Bool, true, false, Some, Ok, slice_get}
use Rattle.mvm_history.specs.declared.end.End.TheVariants.{Exit, Limit}
use Rattle.mvm_isolate.specs.Isolate.{Isolate}
use Rattle.mvm_isolate.specs.Numbered.{Numbered, look_of, named}
use Rattle.mvm_current.specs.Keys.{frames_named}
use Rattle.mvm_monitor.specs.declared.waits.Waiter.{Waiter}
use Rattle.mvm_object.specs.Going.{Doing, ready, ended, After, does, starts, notifies, acts, ends_uncaught, exits, limited, Went}
use Rattle.mvm_object.specs.declared.state.ThreadState.{ThreadState}
use Rattle.mvm_object.specs.declared.state.ThreadState.TheVariants as state
use Rattle.mvm_invoke.specs.Leaving.{after_named}
use Rattle.mvm_invoke.specs.declared.left.After.{After as LeftAfter}
use Rattle.mvm_invoke.specs.declared.left.After.TheVariants as left
use Rattle.mvm_thread.specs.Attempt.{attempt}
use Rattle.mvm_thread.specs.State.{Thread, State}
use Rattle.mvm_thread.specs.Step.{after_attempt, context_of, counted, ended_by, unless_over, thread_started, notified_by, uncaught_of}
use Rattle.mvm_interp.specs.Names.{TaskParts, names}
use Rattle.mvm_interp.specs.declared.row.ThreadRow.{ThreadRow}
use Rattle.mvm_interp.specs.declared.unread.Unread.{Unread}

-- what the thread does from then on
abbrev pub doing_after : After → Doing
doing_after (does doing) = doing
doing_after (starts object) = ready
doing_after (notifies object all) = ready
doing_after (acts act doing) = doing
doing_after (ends_uncaught object) = ended
doing_after (exits status) = ready
doing_after (limited kind) = ready

-- the same by numbers
abbrev pub state_after : LeftAfter → ThreadState
state_after (left.Does state) = state
state_after (left.Starts object) = state.Ready
state_after (left.Notifies object all) = state.Ready
state_after (left.Acts act state) = state
state_after (left.EndsUncaught object) = state.Ended
state_after (left.Exits status) = state.Ready
state_after (left.Limited kind) = state.Ready

-- what is done for the isolate as a whole, once the thread does that
unfoldable pub finished : ℕ → After → State → State
finished number (does doing) s = unless_over s
finished number (starts object) s = thread_started object s
finished number (notifies object all) s = notified_by all object s
finished number (acts act doing) s = record s { act = Some act }
finished number (ends_uncaught object) s = unless_over (record s { uncaught = s.uncaught ++ uncaught_of number object s.isolate ∷ [] })
finished number (exits status) s = ended_by (Exit status) s
finished number (limited kind) s = ended_by (Limit kind) s

-- what an attempt leaves that left this row, and this to be done
abbrev pub went_of : Numbered → ThreadRow → LeftAfter → Went
went_of n row after = record { isolate = named n; frames = frames_named n row.stack; object = row.object; after = after_named n after }

-- the bits of those that have ended, with that of a thread that has ended now
abbrev pub with_bit : ℕ → ℕ → Bool → ℕ
with_bit bits thread true = bits + 2 ^ thread
with_bit bits thread false = bits

-- The first part of a step: the thread of a number made its attempt, which left this to be done.
pub record Attempted (old new : TaskParts) (thread : ℕ) (todo : LeftAfter) : Type 0 where
  pub was : Thread
  pub there : slice_get (names old).threads thread ≡ Some was
  pub went : Went
  pub does : attempt (context_of (look_of old.isolate) thread was (names old)) was.doing (names old).isolate was.frames ≡ Ok went
  pub after : went.after ≡ after_named new.isolate todo
  pub leaves : names new ≡ after_attempt thread (doing_after went.after) went (counted (names old))

-- ---- parts of the second part

-- the first thread ended by what nothing caught
abbrev pub is_first : Option Unread → Bool
is_first (Some unread) = unread.thread == 0
is_first None = false

-- those that wait on another object
abbrev pub others : ℕ → List Waiter → List Waiter
others object waiters = filter (λ waiter. not (waiter.object == object)) waiters

abbrev pub with_waiting : List Waiter → Isolate → Isolate
with_waiting waiters s = record s { waits = record s.waits { waiters = waiters } }
