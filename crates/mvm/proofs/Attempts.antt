-- Attempts one behind the other, and that there are no more of them than may be.
use native.Mathlib.Omega.{arith}
use Rattle.std.proofs.Common.{◌≡◌, ◌<◌, ◌≤◌, ◌+◌, ◌-◌, ℕ, suc, refl, sym, ◌∙◌, ap, subst}
use Rattle.std.proofs.lemmas.Bool.Decides.{nat_tests}
use Rattle.std.specs.Prelude.{◌≢◌, List, [], ◌∷◌, ◌++◌, Bool, true, false, ◌==◌, ◌&&◌, if◌then◌else◌, Option, Some, None, Result, Ok, Err, is_none, slice_get}
use Rattle.mvm_history.specs.declared.end.End.{End}
use Rattle.mvm_history.specs.declared.end.End.TheVariants.{Exit, Limit}
use Rattle.mvm_history.specs.declared.end.LimitKind.TheVariants.{Steps}
use Rattle.mvm_history.specs.declared.launch.Launch.{Launch}
use Rattle.mvm_isolate.specs.Look.{Look, look_in}
use Rattle.mvm_isolate.specs.declared.stop.Stop.{Stop}
use Rattle.mvm_monitor.specs.Waits.{longest}
use Rattle.mvm_object.specs.Going.{After, does, starts, notifies, acts, ends_uncaught, exits, limited, Went, ready, ended}
use Rattle.mvm_table.specs.Files.{File}
use Rattle.mvm_thread.specs.State.{Thread, State, can_step, can_thread, opened}
use Rattle.mvm_thread.specs.Step.{after_attempt, all_ended, all_notified, attempt_of, come_of, counted, ended_by, followed, notified, notified_by, status_of, step, step_with, uncaught_of, unless_over, wake}
use Rattle.mvm.specs.Running.{after, goes_on, RunsOn}

-- ---- attempts so far

-- the one state is what so many attempts leave of the other, and before each of them one could be made
pub record Made (files : List (List File)) (old new : State) : Type 0 where
  pub attempts : ℕ
  pub left : new ≡ after files old attempts
  pub going : (n : ℕ) → n < attempts → goes_on (after files old n) ≡ true

pub none_made : (files : List (List File)) (old : State) → Made files old old
none_made files old = record { attempts = 0; left = refl; going = λ n less. absurd (omega (arith, less)) }

going_before : (files : List (List File)) (old : State) (made n : ℕ) → ((n : ℕ) → n < made → goes_on (after files old n) ≡ true) → goes_on (after files old made) ≡ true → n < suc made
    → goes_on (after files old n) ≡ true
going_before files old made n going here less = grind (arith, going, here)

pub one_made : (files : List (List File)) (old s new : State) → Made files old s → goes_on s ≡ true → new ≡ step files s 0 → Made files old new
one_made files old s new made goes stepped = record {
  attempts = suc made.attempts;
  left = stepped ∙ ap (λ (t : State). step files t 0) made.left;
  going = λ n less. going_before files old made.attempts n made.going (ap goes_on (sym made.left) ∙ goes) less;
}

pub all_made : (files : List (List File)) (old new : State) → Made files old new → goes_on new ≡ false → RunsOn files old new
all_made files old new made rests = record { attempts = made.attempts; left = made.left; going = made.going; rests = rests }

-- ---- what an attempt leaves of the count

-- the count and the launch are the same
record Stays (s t : State) : Type 0 where
  steps : t.steps ≡ s.steps
  launch : t.launch ≡ s.launch

stays_either : (s t u : State) (test : Bool) → Stays s t → Stays s u → Stays s (if test then t else u)
stays_either s t u true h k = h
stays_either s t u false h k = k

wake_stays : (s : State) (object : ℕ) (woken : Option ℕ) → Stays s (wake object woken s)
wake_stays s object (Some number) = record { steps = refl; launch = refl }
wake_stays s object None = record { steps = refl; launch = refl }

notified_stays : (s : State) (object : ℕ) (all : Bool) → Stays s (notified_by all object s)
unfolding notified all_notified
notified_stays s object false = wake_stays s object (longest object s.isolate.waits.waiters)
notified_stays s object true = record { steps = refl; launch = refl }

-- the thread has ended by what it did not catch
abbrev with_uncaught : ℕ → ℕ → Went → State → State
with_uncaught i object w s = record (after_attempt i ended w s) { uncaught = s.uncaught ++ uncaught_of i object w.isolate ∷ [] }

unless_stays : (s t : State) → Stays s t → Stays s (unless_over t)
unless_stays s t h = stays_either s (ended_by (Exit (status_of t.uncaught)) t) t (all_ended t.threads) (record { steps = h.steps; launch = h.launch }) h

followed_stays : (s : State) (i : ℕ) (w : Went) (todo : After) → Stays s (followed i w s todo)
unfolding followed
followed_stays s i w (does doing) = unless_stays s (after_attempt i doing w s) (record { steps = refl; launch = refl })
followed_stays s i w (starts object) = record { steps = refl; launch = refl }
followed_stays s i w (notifies object all) = (let h = notified_stays (after_attempt i ready w s) object all in record { steps = h.steps; launch = h.launch })
followed_stays s i w (acts act doing) = record { steps = refl; launch = refl }
followed_stays s i w (ends_uncaught object) = unless_stays s (with_uncaught i object w s) (record { steps = refl; launch = refl })
followed_stays s i w (exits status) = record { steps = refl; launch = refl }
followed_stays s i w (limited kind) = record { steps = refl; launch = refl }

come_stays : (s : State) (i : ℕ) (came : Result Went Stop) → Stays s (come_of i s came)
come_stays s i (Ok w) = followed_stays s i w w.after
come_stays s i (Err stop) = record { steps = refl; launch = refl }

attempt_stays : (look : Look) (s : State) (i : ℕ) (thread : Option Thread) → can_thread i s thread ≡ true → Stays (counted s) (attempt_of look i s thread)
attempt_stays look s i (Some thread) can = come_stays (counted s) i _
attempt_stays look s i None can = absurd cc

-- ---- the end of them

-- how many attempts there may still be, and one more for the one that ends it
abbrev pub left_by : Option End → ℕ → ℕ
left_by (Some end) more = 0
left_by None more = more

abbrev pub left_of : State → ℕ
left_of s = left_by s.end (s.launch.limits.steps + 1 - s.steps)

left_most : (end : Option End) (more : ℕ) → left_by end more ≤ more
left_most (Some end) more = omega arith
left_most None more = omega arith

left_all : (end : Option End) (more : ℕ) → end ≡ None → left_by end more ≡ more
left_all end more none = rw none refl

by_limit : (look : Look) (s : State) (i : ℕ) → (s.steps == s.launch.limits.steps) ≡ true → step_with look s i ≡ ended_by (Limit Steps) s
unfolding step_with
by_limit look s i e = rw e refl

by_attempt : (look : Look) (s : State) (i : ℕ) → (s.steps == s.launch.limits.steps) ≡ false → step_with look s i ≡ attempt_of look i s (slice_get s.threads i)
unfolding step_with
by_attempt look s i e = rw e refl

can_some : (s : State) (i : ℕ) → can_step s i ≡ true → can_thread i s (slice_get s.threads i) ≡ true
unfolding can_step
can_some s i can = can

-- the count is within the limit
abbrev pub IsWithin : State → Type 0
IsWithin s = s.steps ≤ s.launch.limits.steps

-- one fewer is left, and the count stays within the limit
pub record IsLater (s t : State) : Type 0 where
  pub fewer : left_of t < left_of s
  pub within : IsWithin t

later_over : (s : State) → s.end ≡ None → s.steps ≡ s.launch.limits.steps → IsLater s (ended_by (Limit Steps) s)
later_over s running over =
    let all = left_all s.end (s.launch.limits.steps + 1 - s.steps) running in
    record { fewer = omega (arith, all, over); within = omega (arith, over) }

later_counted : (s t : State) → s.end ≡ None → IsWithin s → s.steps ≢ s.launch.limits.steps → Stays (counted s) t → IsLater s t
later_counted s t running within more stays =
    let all = left_all s.end (s.launch.limits.steps + 1 - s.steps) running in
    let most = left_most t.end (t.launch.limits.steps + 1 - t.steps) in
    let limit : t.launch.limits.steps ≡ s.launch.limits.steps = ap (λ launch. launch.limits.steps) stays.launch in
    let steps : t.steps ≡ s.steps + 1 = stays.steps in
    let under : s.steps < s.launch.limits.steps = grind (arith, within, more) in
    record { fewer = omega (arith, all, most, limit, steps, under); within = omega (arith, limit, steps, under) }

later_by : (look : Look) (s : State) (i : ℕ) (over : Bool) → (s.steps == s.launch.limits.steps) ≡ over → s.end ≡ None → IsWithin s → can_step s i ≡ true → IsLater s (step_with look s i)
later_by look s i true is running within can =
    let over : s.steps ≡ s.launch.limits.steps = grind (arith, nat_tests) in
    subst (IsLater s) (sym (by_limit look s i is)) (later_over s running over)
later_by look s i false is running within can =
    let more : s.steps ≢ s.launch.limits.steps = grind (arith, nat_tests) in
    subst (IsLater s) (sym (by_attempt look s i is)) (later_counted s _ running within more (attempt_stays look s i _ (can_some s i can)))

pub later : (files : List (List File)) (s new : State) → s.end ≡ None → IsWithin s → can_step s 0 ≡ true → new ≡ step files s 0 → IsLater s new
later files s new running within can stepped = subst (IsLater s) (sym stepped) (later_by (look_in files s.launch.set) s 0 _ refl running within can)

-- ---- the loop

both_first : (a b : Bool) → (a && b) ≡ true → a ≡ true
both_first true b both = refl
both_first false b both = both

both_second : (a b : Bool) → (a && b) ≡ true → b ≡ true
both_second true b both = both
both_second false b both = absurd cc

none_of : (end : Option End) → is_none end ≡ true → end ≡ None
none_of (Some end) none = absurd cc
none_of None none = refl

pub goes_none : (s : State) → goes_on s ≡ true → s.end ≡ None
unfolding goes_on
goes_none s goes = none_of s.end (both_first (is_none s.end) (can_step s 0) goes)

pub goes_can : (s : State) → goes_on s ≡ true → can_step s 0 ≡ true
unfolding goes_on
goes_can s goes = both_second (is_none s.end) (can_step s 0) goes

-- ---- the beginning

pub opened_within : (launch : Launch) (s : State) → s ≡ opened launch → s.steps ≤ s.launch.limits.steps
unfolding opened
opened_within launch s is = subst IsWithin (sym is) (omega arith)
