-- A step offers a message on a link only where no thread is sending on it.
use native.Mathlib.Omega.{arith}
use Rattle.std.proofs.Common.{◌≡◌, ◌<◌, refl, sym, ◌∙◌, ap}
use Rattle.std.proofs.lemmas.Bool.Decides.{nat_tests}
use Rattle.std.specs.Prelude.{◌≢◌, ℕ, zero, suc, ◌+◌, List, [], ◌∷◌, ◌++◌, length, Bool, true, false, ◌==◌, if◌then◌else◌, Option, Some, None, Result, Ok, Err, slice_get}
use Rattle.mvm_history.specs.declared.message.Message.{Message}
use Rattle.mvm_isolate.specs.Look.{Look}
use Rattle.mvm_isolate.specs.declared.stop.Stop.{Stop}
use Rattle.mvm_monitor.specs.Waits.{longest}
use Rattle.mvm_native.specs.Links.{is_another, use_of}
use Rattle.mvm_native.specs.declared.out.Act.{Act}
use Rattle.mvm_native.specs.declared.out.Act.TheVariants.{Offer, Receive, Ask}
use Rattle.mvm_object.specs.Going.{After, Context, Doing, Went, acts, asking, does, ended, ends_uncaught, entering, exits, initing, joining, limited, notifies, ready, receiving, sending, starts, waiting}
use Rattle.mvm_thread.specs.Attempt.{attempt}
use Rattle.mvm_thread.specs.State.{State, Thread, can_step, can_thread, first_from, sends_on, uses_from}
use Rattle.mvm_thread.specs.Step.{after_attempt, all_ended, all_notified, attempt_of, come_of, context_of, counted, followed, notified, notified_by, step_with, uncaught_of, unless_over, wake}
use Rattle.mvm_thread.proofs.OfferingAttempts.{attempt_fine}
use Rattle.mvm_thread.proofs.OfferingFree.{Fine, FreeAct, FreeAfter, IsFree}

-- ---- a state in which no thread wants anything of the world outside

over_by : (s : State) (over : Bool) → all_ended s.threads ≡ over → s.act ≡ None → (unless_over s).act ≡ None
over_by s true e idle = rw e refl
over_by s false e idle = rw e idle

over_idle : (s : State) → s.act ≡ None → (unless_over s).act ≡ None
over_idle s idle = over_by s (all_ended s.threads) refl idle

wake_idle : (object : ℕ) (thread : Option ℕ) (s : State) → s.act ≡ None → (wake object thread s).act ≡ None
wake_idle object (Some number) s idle = idle
wake_idle object None s idle = idle

notified_idle : (all : Bool) (object : ℕ) (s : State) → s.act ≡ None → (notified_by all object s).act ≡ None
unfolding notified all_notified
notified_idle false object s idle = wake_idle object (longest object s.isolate.waits.waiters) s idle
notified_idle true object s idle = idle

-- ---- what is offered by an attempt

module _ (c : Context) (link : ℕ) (message : Message) where
  abbrev Wanted : Option Act → Type 0
  Wanted act = act ≡ Some (Offer link message)

  abbrev IsFor : Type 0
  IsFor = IsFree c.launch c.thread c.links link

  idle_free : (act : Option Act) → act ≡ None → Wanted act → IsFor
  idle_free act idle e = absurd (let k : None ≡ Some (Offer link message) = sym idle ∙ e in cc)

  act_free : (act : Act) → Wanted (Some act) → FreeAct c.launch c.thread c.links act → IsFor
  act_free (Offer other what) e free = let k : other ≡ link = cc in rw (sym k) free
  act_free (Receive other) e free = absurd (let k : Some (Receive other) ≡ Some (Offer link message) = e in cc)
  act_free (Ask ask) e free = absurd (let k : Some (Ask ask) ≡ Some (Offer link message) = e in cc)

  followed_free : (number : ℕ) (w : Went) (s : State) (after : After) → s.act ≡ None → FreeAfter c after → Wanted (followed number w s after).act → IsFor
  unfolding followed
  followed_free number w s (does doing) idle free e = idle_free _ (over_idle (after_attempt number doing w s) idle) e
  followed_free number w s (starts object) idle free e = idle_free _ idle e
  followed_free number w s (notifies object all) idle free e = idle_free _ (notified_idle all object (after_attempt number ready w s) idle) e
  followed_free number w s (acts act doing) idle free e = act_free act e free
  followed_free number w s (ends_uncaught object) idle free e =
      idle_free _ (over_idle (record (after_attempt number ended w s) { uncaught = s.uncaught ++ uncaught_of number object w.isolate ∷ [] }) idle) e
  followed_free number w s (exits status) idle free e = idle_free _ refl e
  followed_free number w s (limited kind) idle free e = idle_free _ refl e

  come_free : (number : ℕ) (s : State) (r : Result Went Stop) → s.act ≡ None → Fine c r → Wanted (come_of number s r).act → IsFor
  come_free number s (Ok w) idle fine e = followed_free number w s w.after idle fine.by e
  come_free number s (Err stop) idle fine e = idle_free _ idle e

-- ---- the link among those of the launch

sender_at : (from n : ℕ) (threads : List Thread) (closed : List Bool) → n < length closed → (use_of (uses_from from threads closed) n).sender ≡ first_from 0 (sends_on (from + n)) threads
sender_at from n threads [] h = absurd (omega (arith, h))
sender_at from zero threads (one ∷ others) h = let e : from + 0 ≡ from = omega arith in rw e refl
sender_at from (suc n) threads (one ∷ others) h =
    let e : from + suc n ≡ from + 1 + n = omega arith in rw e (sender_at (from + 1) n threads others (omega (arith, h)))

-- the first of the threads of which that holds
record FirstAt (holds : Doing → Bool) (start number : ℕ) (threads : List Thread) : Type 0 where
  place : ℕ
  thread : Thread
  is_place : number ≡ start + place
  there : slice_get threads place ≡ Some thread
  holds_there : holds thread.doing ≡ true

later_at : (holds : Doing → Bool) (start number : ℕ) (t : Thread) (ts : List Thread) → FirstAt holds (start + 1) number ts → FirstAt holds start number (t ∷ ts)
later_at holds start number t ts at = record {
  place = suc at.place;
  thread = at.thread;
  is_place = omega (arith, at.is_place);
  there = at.there;
  holds_there = at.holds_there;
}

at_by : (holds : Doing → Bool) (start number : ℕ) (t : Thread) (ts : List Thread) (rest : Option ℕ) (b : Bool) → holds t.doing ≡ b → (rest ≡ Some number → FirstAt holds (start + 1) number ts)
    → (if b then Some start else rest) ≡ Some number → FirstAt holds start number (t ∷ ts)
at_by holds start number t ts rest true h later e =
    let k : start ≡ number = cc in record { place = 0; thread = t; is_place = omega (arith, k); there = refl; holds_there = h }
at_by holds start number t ts rest false h later e = later_at holds start number t ts (later e)

first_at : (holds : Doing → Bool) (start number : ℕ) (threads : List Thread) → first_from start holds threads ≡ Some number → FirstAt holds start number threads
first_at holds start number [] e = absurd (let k : None ≡ Some number = e in cc)
first_at holds start number (t ∷ ts) e = at_by holds start number t ts (first_from (start + 1) holds ts) (holds t.doing) refl (first_at holds (start + 1) number ts) e

-- ---- a thread that is sending makes no step

stuck : (number link : ℕ) (s : State) (thread : Thread) (doing : Doing) → thread.doing ≡ doing → can_thread number s (Some thread) ≡ true → sends_on link doing ≡ true → ⊥
stuck number link s thread (sending other) d can sends = let k : false ≡ true = rw d at can in cc
stuck number link s thread ready d can sends = let k : false ≡ true = sends in cc
stuck number link s thread (entering object count) d can sends = let k : false ≡ true = sends in cc
stuck number link s thread (waiting object count) d can sends = let k : false ≡ true = sends in cc
stuck number link s thread (initing class) d can sends = let k : false ≡ true = sends in cc
stuck number link s thread (joining other) d can sends = let k : false ≡ true = sends in cc
stuck number link s thread (receiving other) d can sends = let k : false ≡ true = sends in cc
stuck number link s thread asking d can sends = let k : false ≡ true = sends in cc
stuck number link s thread ended d can sends = let k : false ≡ true = sends in cc

not_first : (s : State) (number link : ℕ) → can_step s number ≡ true → first_from 0 (sends_on link) s.threads ≡ Some number → ⊥
unfolding can_step
not_first s number link can e =
    let at = first_at (sends_on link) 0 number s.threads e in
    let place : number ≡ at.place = omega (arith, at.is_place) in
    let there : slice_get s.threads number ≡ Some at.thread = ap (λ (n : ℕ). slice_get s.threads n) place ∙ at.there in
    stuck number link s at.thread at.thread.doing refl (rw there at can) at.holds_there

none_by : (s : State) (number link : ℕ) → can_step s number ≡ true → (first : Option ℕ) → first_from 0 (sends_on link) s.threads ≡ first → is_another number first ≡ false → first ≡ None
none_by s number link can None e free = refl
none_by s number link can (Some user) e free = by (user == number) refl where
  by : (b : Bool) → (user == number) ≡ b → Some user ≡ None
  by true same = let k : user ≡ number = grind (arith, nat_tests) in absurd (not_first s number link can (rw k at e))
  by false same = absurd (let k : true ≡ false = rw same at free in cc)

-- ---- the step

free_none : (s : State) (number link : ℕ) → can_step s number ≡ true → length s.closed ≡ length s.launch.links → IsFree s.launch number (uses_from 0 s.threads s.closed) link → first_from 0 (sends_on link) s.threads ≡ None
free_none s number link can as_many free =
    let within : link < length s.closed = rw as_many free.within in
    let number_is : 0 + link ≡ link = omega arith in
    let sender : (use_of (uses_from 0 s.threads s.closed) link).sender ≡ first_from 0 (sends_on link) s.threads = rw number_is at (sender_at 0 link s.threads s.closed within) in
    none_by s number link can (first_from 0 (sends_on link) s.threads) refl (rw sender at free.sender)

attempt_none : (look : Look) (s : State) (number link : ℕ) (message : Message) → can_step s number ≡ true → length s.closed ≡ length s.launch.links → s.act ≡ None → (thread : Option Thread) → (attempt_of look number s thread).act ≡ Some (Offer link message) → first_from 0 (sends_on link) s.threads ≡ None
attempt_none look s number link message can as_many idle (Some thread) e =
    let c = context_of look number thread s in
    let r = attempt c thread.doing s.isolate thread.frames in
    free_none s number link can as_many (come_free c link message number (counted s) r idle (attempt_fine c thread.doing s.isolate thread.frames) e)
attempt_none look s number link message can as_many idle None e = absurd (let k : None ≡ Some (Offer link message) = sym idle ∙ e in cc)

step_by : (look : Look) (s : State) (number link : ℕ) (message : Message) → can_step s number ≡ true → length s.closed ≡ length s.launch.links → s.act ≡ None → (over : Bool) → (s.steps == s.launch.limits.steps) ≡ over → (step_with look s number).act ≡ Some (Offer link message) → first_from 0 (sends_on link) s.threads ≡ None
unfolding step_with
step_by look s number link message can as_many idle true over e = absurd (let k : None ≡ Some (Offer link message) = rw over at e in cc)
step_by look s number link message can as_many idle false over e = attempt_none look s number link message can as_many idle (slice_get s.threads number) (rw over at e)

pub step_none : (look : Look) (s : State) (number link : ℕ) (message : Message) → can_step s number ≡ true → length s.closed ≡ length s.launch.links → s.act ≡ None → (step_with look s number).act ≡ Some (Offer link message) → first_from 0 (sends_on link) s.threads ≡ None
step_none look s number link message can as_many idle e = step_by look s number link message can as_many idle (s.steps == s.launch.limits.steps) refl e

-- ---- the same of each thread

none_head : (start : ℕ) (rest : Option ℕ) (b : Bool) → (if b then Some start else rest) ≡ None → (b ≡ false) × (rest ≡ None)
none_head start rest true e = absurd (let k : Some start ≡ None = e in cc)
none_head start rest false e = (refl, e)

none_holds : (holds : Doing → Bool) (start other : ℕ) (threads : List Thread) (thread : Thread) → first_from start holds threads ≡ None → slice_get threads other ≡ Some thread → holds thread.doing ≡ false
none_holds holds start other [] thread e f = absurd (let k : None ≡ Some thread = f in cc)
none_holds holds start zero (t ∷ ts) thread e f =
    let same : t ≡ thread = cc in ap (λ (x : Thread). holds x.doing) (sym same) ∙ (none_head start (first_from (start + 1) holds ts) (holds t.doing) e).0
none_holds holds start (suc other) (t ∷ ts) thread e f =
    none_holds holds (start + 1) other ts thread (none_head start (first_from (start + 1) holds ts) (holds t.doing) e).1 f

pub step_alone : (look : Look) (s : State) (number link other : ℕ) (message : Message) (thread : Thread) → can_step s number ≡ true → length s.closed ≡ length s.launch.links → s.act ≡ None → (step_with look s number).act ≡ Some (Offer link message) → slice_get s.threads other ≡ Some thread → thread.doing ≢ sending link
step_alone look s number link other message thread can as_many idle e there is =
    let not : sends_on link thread.doing ≡ false = none_holds (sends_on link) 0 other s.threads thread (step_none look s number link message can as_many idle e) there in
    let self : sends_on link thread.doing ≡ true = rw is (grind (arith, nat_tests)) in
    let k : true ≡ false = sym self ∙ not in cc
