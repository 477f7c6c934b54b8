-- What a step leaves of the threads of an isolate that made no attempt.
use native.Mathlib.Omega.{arith}
use Rattle.std.proofs.Common.{◌≡◌, ◌≤◌, refl, ◌∙◌, ap}
use Rattle.std.proofs.lemmas.List.{length-append, length-map}
use Rattle.std.specs.Prelude.{ℕ, zero, suc, ◌+◌, List, [], ◌∷◌, ◌++◌, length, map, Bool, true, false, ◌==◌, Option, Some, None, Result, Ok, Err, slice_get, slice_set}
use Rattle.mvm_isolate.specs.Look.{Look}
use Rattle.mvm_isolate.specs.declared.stop.Stop.{Stop}
use Rattle.mvm_mirror.proofs.Changed.{get_set_other}
use Rattle.mvm_monitor.specs.Waits.{longest}
use Rattle.mvm_thread.specs.Attempt.{attempt}
use Rattle.mvm_current.specs.Frames.{bare_frame, starting}
use Rattle.mvm_object.specs.Going.{Doing, ready, entering, waiting, initing, joining, sending, receiving, asking, ended, After, does, starts, notifies, acts, ends_uncaught, exits, limited, Went}
use Rattle.mvm_thread.specs.State.{State, Thread, is_outside}
use Rattle.mvm_thread.specs.Step.{all_ended, unless_over, wake, wake_in, wake_on, awake, awake_on, notified, all_notified, notified_by, thread_started, after_attempt, uncaught_of, followed, counted, come_of, context_of, attempt_of, step_with}

-- ---- lists

pub length_set : {X : Type 0} (xs : List X) (n : ℕ) (x : X) → length (slice_set xs n x) ≡ length xs
length_set [] n x = refl
length_set (z ∷ xs) zero x = refl
length_set (z ∷ xs) (suc n) x = ap suc (length_set xs n x)

get_before : {X : Type 0} (xs ys : List X) (n : ℕ) (x : X) → slice_get xs n ≡ Some x → slice_get (xs ++ ys) n ≡ Some x
get_before [] ys n x e = absurd (let k : None ≡ Some x = e in cc)
get_before (z ∷ xs) ys zero x e = e
get_before (z ∷ xs) ys (suc n) x e = get_before xs ys n x e

-- ---- a thread that waits for the world outside

-- The thread of a number, where it waits for the world outside its isolate, is as it was.
abbrev Stays : ℕ → List Thread → List Thread → Type 0
Stays other old new = (thread : Thread) → slice_get old other ≡ Some thread → is_outside thread.doing ≡ true → slice_get new other ≡ Some thread

after_stays : (other : ℕ) (a b c : List Thread) → Stays other a b → Stays other b c → Stays other a c
after_stays other a b c f g thread e o = g thread (f thread e o) o

woken_stays : (on : ℕ) (thread : Thread) (doing : Doing) → thread.doing ≡ doing → is_outside doing ≡ true → wake_on on thread ≡ thread
woken_stays on thread ready e o = absurd (let k : false ≡ true = o in cc)
woken_stays on thread (entering object count) e o = absurd (let k : false ≡ true = o in cc)
woken_stays on thread (waiting object count) e o = absurd (let k : false ≡ true = o in cc)
woken_stays on thread (initing class) e o = absurd (let k : false ≡ true = o in cc)
woken_stays on thread (joining other) e o = absurd (let k : false ≡ true = o in cc)
woken_stays on thread (sending link) e o = rw e refl
woken_stays on thread (receiving link) e o = rw e refl
woken_stays on thread asking e o = rw e refl
woken_stays on thread ended e o = absurd (let k : false ≡ true = o in cc)

awake_stays : (thread : Thread) (doing : Doing) → thread.doing ≡ doing → is_outside doing ≡ true → record thread { doing = awake thread.doing } ≡ thread
awake_stays thread ready e o = absurd (let k : false ≡ true = o in cc)
awake_stays thread (entering object count) e o = absurd (let k : false ≡ true = o in cc)
awake_stays thread (waiting object count) e o = absurd (let k : false ≡ true = o in cc)
awake_stays thread (initing class) e o = absurd (let k : false ≡ true = o in cc)
awake_stays thread (joining other) e o = absurd (let k : false ≡ true = o in cc)
awake_stays thread (sending link) e o = rw e refl
awake_stays thread (receiving link) e o = rw e refl
awake_stays thread asking e o = rw e refl
awake_stays thread ended e o = absurd (let k : false ≡ true = o in cc)

all_stay : (object other : ℕ) (threads : List Thread) → Stays other threads (map (wake_on object) threads)
all_stay object other [] thread e o = absurd (let k : None ≡ Some thread = e in cc)
all_stay object zero (t ∷ ts) thread e o = let k : t ≡ thread = cc in ap Some (ap (wake_on object) k ∙ woken_stays object thread thread.doing refl o)
all_stay object (suc other) (t ∷ ts) thread e o = all_stay object other ts thread e o

awake_set : (n other : ℕ) (threads : List Thread) (t : Thread) → slice_get threads n ≡ Some t → Stays other threads (slice_set threads n (record t { doing = awake t.doing }))
awake_set n other [] t f thread e o = absurd (let k : None ≡ Some thread = e in cc)
awake_set zero zero (u ∷ us) t f thread e o = let k : t ≡ thread = cc in ap Some (ap (λ (x : Thread). record x { doing = awake x.doing }) k ∙ awake_stays thread thread.doing refl o)
awake_set zero (suc other) (u ∷ us) t f thread e o = e
awake_set (suc n) zero (u ∷ us) t f thread e o = e
awake_set (suc n) (suc other) (u ∷ us) t f thread e o = awake_set n other us t f thread e o

awake_in : (n other : ℕ) (threads : List Thread) (found : Option Thread) → slice_get threads n ≡ found → Stays other threads (wake_in n found threads)
awake_in n other threads (Some t) f thread e o = awake_set n other threads t f thread e o
awake_in n other threads None f thread e o = e

awake_length : (n : ℕ) (threads : List Thread) (found : Option Thread) → length (wake_in n found threads) ≡ length threads
awake_length n threads (Some t) = length_set threads n (record t { doing = awake t.doing })
awake_length n threads None = refl

-- ---- what a part of a step leaves

-- all threads are there; one more may be there; and another one than that of this number, where it waits for the world outside, is as it was
pub record Leaves (number : ℕ) (old new : State) : Type 0 where
  pub few : length old.threads ≤ length new.threads
  pub most : length new.threads ≤ length old.threads + 1
  pub others : (other : ℕ) → (other ≡ number → ⊥) → Stays other old.threads new.threads

-- the same where there are as many threads
record Keeps (number : ℕ) (old new : State) : Type 0 where
  same : length new.threads ≡ length old.threads
  others : (other : ℕ) → (other ≡ number → ⊥) → Stays other old.threads new.threads

kept_leaves : (number : ℕ) (old new : State) → Keeps number old new → Leaves number old new
kept_leaves number old new k = record {
  few = let e : length new.threads ≡ length old.threads = k.same in omega arith;
  most = let e : length new.threads ≡ length old.threads = k.same in omega arith;
  others = k.others;
}

then_keeps : (number : ℕ) (a b c : State) → Keeps number a b → Keeps number b c → Keeps number a c
then_keeps number a b c k l = record {
  same = l.same ∙ k.same;
  others = λ other f. after_stays other a.threads b.threads c.threads (k.others other f) (l.others other f);
}

equal_keeps : (number : ℕ) (old new : State) → new.threads ≡ old.threads → Keeps number old new
equal_keeps number old new e = record { same = ap length e; others = λ other f thread g o. ap (λ (ts : List Thread). slice_get ts other) e ∙ g }

over_by : (number : ℕ) (s : State) (over : Bool) → all_ended s.threads ≡ over → Keeps number s (unless_over s)
over_by number s true e = equal_keeps number s (unless_over s) (rw e refl)
over_by number s false e = equal_keeps number s (unless_over s) (rw e refl)

over_keeps : (number : ℕ) (s : State) → Keeps number s (unless_over s)
over_keeps number s = over_by number s (all_ended s.threads) refl

wake_keeps : (number object : ℕ) (thread : Option ℕ) (s : State) → Keeps number s (wake object thread s)
wake_keeps number object (Some woken) s = record {
  same = awake_length woken s.threads (slice_get s.threads woken);
  others = λ other f. awake_in woken other s.threads (slice_get s.threads woken) refl;
}
wake_keeps number object None s = equal_keeps number s s refl

notified_keeps : (number object : ℕ) (s : State) → Keeps number s (notified object s)
unfolding notified
notified_keeps number object s = wake_keeps number object (longest object s.isolate.waits.waiters) s

all_notified_keeps : (number object : ℕ) (s : State) → Keeps number s (all_notified object s)
unfolding all_notified
all_notified_keeps number object s = record { same = length-map s.threads (wake_on object); others = λ other f. all_stay object other s.threads }

by_keeps : (number : ℕ) (all : Bool) (object : ℕ) (s : State) → Keeps number s (notified_by all object s)
by_keeps number false object s = notified_keeps number object s
by_keeps number true object s = all_notified_keeps number object s

after_keeps : (number : ℕ) (doing : Doing) (w : Went) (s : State) → Keeps number s (after_attempt number doing w s)
after_keeps number doing w s = record {
  same = length_set s.threads number (record { doing = doing; object = w.object; frames = w.frames });
  others = λ other f thread e o. get_set_other s.threads number other (record { doing = doing; object = w.object; frames = w.frames }) f ∙ e;
}

-- a thread more stands behind the others
begun_leaves : (number object : ℕ) (w : Went) (s : State) → Leaves number s (thread_started object (after_attempt number ready w s))
begun_leaves number object w s =
    let begun : Thread = record { doing = ready; object = Some object; frames = bare_frame starting 0 ∷ [] } in
    let was : List Thread = (after_attempt number ready w s).threads in
    let e : length was ≡ length s.threads = (after_keeps number ready w s).same in
    let l : length (was ++ begun ∷ []) ≡ length was + 1 = length-append was (begun ∷ []) in
    record {
      few = omega arith;
      most = omega arith;
      others = λ other f thread g o. get_before was (begun ∷ []) other thread ((after_keeps number ready w s).others other f thread g o);
    }

abbrev died : ℕ → ℕ → Went → State → State
died number object w s = record (after_attempt number ended w s) { uncaught = s.uncaught ++ uncaught_of number object w.isolate ∷ [] }

followed_leaves : (number : ℕ) (w : Went) (s : State) (after : After) → Leaves number s (followed number w s after)
unfolding followed
followed_leaves number w s (does doing) = kept_leaves number s _ (then_keeps number s (after_attempt number doing w s) _ (after_keeps number doing w s) (over_keeps number (after_attempt number doing w s)))
followed_leaves number w s (starts object) = begun_leaves number object w s
followed_leaves number w s (notifies object all) = kept_leaves number s _ (then_keeps number s (after_attempt number ready w s) _ (after_keeps number ready w s) (by_keeps number all object (after_attempt number ready w s)))
followed_leaves number w s (acts act doing) = kept_leaves number s _ (then_keeps number s (after_attempt number doing w s) _ (after_keeps number doing w s) (equal_keeps number (after_attempt number doing w s) _ refl))
followed_leaves number w s (ends_uncaught object) =
    kept_leaves number s _ (then_keeps number s (died number object w s) _
    (then_keeps number s (after_attempt number ended w s) _ (after_keeps number ended w s) (equal_keeps number (after_attempt number ended w s) _ refl))
    (over_keeps number (died number object w s)))
followed_leaves number w s (exits status) = kept_leaves number s _ (then_keeps number s (after_attempt number ready w s) _ (after_keeps number ready w s) (equal_keeps number (after_attempt number ready w s) _ refl))
followed_leaves number w s (limited kind) = kept_leaves number s _ (then_keeps number s (after_attempt number ready w s) _ (after_keeps number ready w s) (equal_keeps number (after_attempt number ready w s) _ refl))

come_leaves : (number : ℕ) (s : State) (r : Result Went Stop) → Leaves number s (come_of number s r)
come_leaves number s (Ok w) = followed_leaves number w s w.after
come_leaves number s (Err stop) = kept_leaves number s s (equal_keeps number s s refl)

of_counted : (number : ℕ) (s t : State) → Leaves number (counted s) t → Leaves number s t
of_counted number s t l = record { few = l.few; most = l.most; others = l.others }

attempt_leaves : (look : Look) (number : ℕ) (s : State) (thread : Option Thread) → Leaves number s (attempt_of look number s thread)
attempt_leaves look number s (Some thread) =
    of_counted number s _ (come_leaves number (counted s) (attempt (context_of look number thread s) thread.doing s.isolate thread.frames))
attempt_leaves look number s None = kept_leaves number s s (equal_keeps number s s refl)

step_by : (look : Look) (s : State) (number : ℕ) (over : Bool) → (s.steps == s.launch.limits.steps) ≡ over → Leaves number s (step_with look s number)
unfolding step_with
step_by look s number true e = rw e (kept_leaves number s _ (equal_keeps number s _ refl))
step_by look s number false e = rw e (attempt_leaves look number s (slice_get s.threads number))

pub step_leaves : (look : Look) (s : State) (number : ℕ) → Leaves number s (step_with look s number)
step_leaves look s number = step_by look s number (s.steps == s.launch.limits.steps) refl
