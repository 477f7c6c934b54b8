-- A start, in an isolate that grows on its way.
use Rattle.std.proofs.Common.{◌≡◌, ℕ, List, [], ◌∷◌, Bool, true, false, Option, Some, None, Result, Ok, Err, refl, sym, ap, ◌∙◌, subst}
use Rattle.std.specs.Prelude.{IsSome, max}
use Rattle.mvm_base.specs.Answers.{◌>>=◌}
use Rattle.mvm_frame.specs.Parts.{StackParts}
use Rattle.mvm_history.specs.declared.limits.Limits.{Limits}
use Rattle.mvm_isolate.specs.Isolate.{Isolate, stopped, class_object}
use Rattle.mvm_isolate.specs.Look.{Look}
use Rattle.mvm_isolate.specs.Numbered.{Numbered, look_of, named}
use Rattle.mvm_isolate.specs.Sound.{Grows}
use Rattle.mvm_isolate.specs.Types.{of_class}
use Rattle.mvm_isolate.specs.declared.stop.Stop.{Stop}
use Rattle.mvm_member.specs.Members.{MemberName}
use Rattle.mvm_region.specs.declared.monitor.Monitor.{Monitor}
use Rattle.mvm_current.specs.Frames.{has_room}
use Rattle.mvm_current.specs.Keys.{callers_named, frames_named, top_named, AreKeys, IsStackOf}
use Rattle.mvm_current.proofs.Growth.{key_grows, name_grows, runs_grow}
use Rattle.mvm_initialise.specs.Arguments.{arguments_made, called_with, if_fits, main_arguments, main_in, main_known, main_locked}
use Rattle.mvm_locking.specs.Monitors.{once_entered, Enters}
use Rattle.mvm_initialise.specs.Locks.{monitor_entered}
use Rattle.mvm_initialise.specs.declared.arguments.MainCall.{MainCall}
use Rattle.mvm_initialise.specs.declared.arguments.MainLock.{MainLock}
use Rattle.mvm_initialise.specs.declared.arguments.MainLock.TheVariants.{Entered, Waits}
use Rattle.mvm_object.specs.Beginning.{Begins}
use Rattle.mvm_object.specs.Entries.{once_initialised}
use Rattle.mvm_object.specs.Coming.{doing_named, point_of, went_of, IsFor}
use Rattle.mvm_object.specs.Going.{Context, Point, Went, does, in_isolate, ready, stays}
use Rattle.mvm_object.specs.declared.initialised.Once.{Once}
use Rattle.mvm_object.specs.declared.initialised.Once.TheVariants.{Goes, Ends}
use Rattle.mvm_object.specs.declared.state.ThreadState.{ThreadState}
use Rattle.mvm_object.specs.declared.state.ThreadState.TheVariants.{Ready, Entering}
use Rattle.mvm_object.proofs.Initialising.{frames_there}
use Rattle.mvm_invoke.proofs.Telling.{point_grows, point_stays}
use Rattle.mvm_starting.specs.Firsts.{IsFirst}
use Rattle.mvm_starting.specs.Left.{left_named, LeavesState}
use Rattle.mvm_starting.specs.Starting.{by_lock, first_room, head_in, is_synchronized, main_called, main_entered, main_started, main_synchronized, main_unlocked, run_entered, run_locked, run_started, start_main, started, with_arguments}
use Rattle.mvm_starting.specs.declared.firsts.First.{First}
use Rattle.mvm_starting.specs.declared.firsts.Head.{Head}

-- ---- what stays

pub first_grows : (old new : Numbered) (m : MemberName) (first : First) → Grows old new → IsFirst old m first → IsFirst new m first
first_grows old new m first g is = record {
  is_key = key_grows old new first.key g is.is_key;
  runs_one = is.runs_one;
  unlocked = is.unlocked;
  of_class = name_grows old new first.key.mirror g is.is_key.class ∙ is.of_class;
  runs = runs_grow old new first.key 0 g is.is_key ∙ is.runs;
}

pub room_for : (c : Context) (n : Numbered) (thread : ℕ) (head : Head) (s : StackParts) (room : Bool) → IsFor c n thread
    → ((m : Numbered) (limits : Limits) → IsStackOf limits s → room ≡ has_room limits (max head.locals 1) head.depth (callers_named m s)) → IsStackOf n.env.launch.limits s → first_room c head (point_of n s) ≡ room
room_for c n thread head s room is room_is limits =
    ap (λ launch. has_room launch.limits (max head.locals 1) head.depth (callers_named n s)) is.launch ∙ sym (room_is n n.env.launch.limits limits)

-- ---- the first frame, in an isolate that has grown

pub started_in : (c : Context) (old new : Numbered) (m : MemberName) (lock : Option ℕ) (head : Head) (object : ℕ) (s t : StackParts) → Grows old new → AreKeys old s
    → started c m lock head object (point_of new s) ≡ left_named new t c.object Ready → started c m lock head object (in_isolate (named new) (point_of old s)) ≡ left_named new t c.object Ready
started_in c old new m lock head object s t g keys e = ap (started c m lock head object) (sym (point_grows old new s g keys)) ∙ e

stays_frames : (c : Context) (n : Numbered) (object : ℕ) (s : StackParts) → IsSome s.rest.below.key → stays c (doing_named n (Entering object 0)) (point_of n s) ≡ left_named n s c.object (Entering object 0)
stays_frames c n object s some = ap (λ fs. record { isolate = named n; frames = fs; object = c.object; after = does (doing_named n (Entering object 0)) }) (sym (frames_there n s some))

pub stays_in : (c : Context) (old new : Numbered) (object : ℕ) (s : StackParts) → Grows old new → AreKeys old s → IsSome s.rest.below.key
    → stays c (doing_named new (Entering object 0)) (in_isolate (named new) (point_of old s)) ≡ left_named new s c.object (Entering object 0)
stays_in c old new object s g keys some = ap (stays c (doing_named new (Entering object 0))) (sym (point_grows old new s g keys)) ∙ stays_frames c new object s some

-- ---- main without a monitor

unlocked_by : (c : Context) (m : MemberName) (head : Head) (p : Point) (args : List (List ℕ)) (room : Bool) → c.launch.args ≡ args → first_room c head p ≡ room → main_unlocked c m head p ≡ (main_arguments args room p.isolate >>= with_arguments c m head p)
unfolding main_unlocked
unlocked_by c m head p args room e h = ap (λ (a : List (List ℕ)). main_arguments a (first_room c head p) p.isolate >>= with_arguments c m head p) e ∙ ap (λ (r : Bool). main_arguments args r p.isolate >>= with_arguments c m head p) h

pub unlocked_goes : (c : Context) (m : MemberName) (head : Head) (p : Point) (args : List (List ℕ)) (room : Bool) (object : ℕ) (s : Isolate) → c.launch.args ≡ args → first_room c head p ≡ room → main_arguments args room p.isolate ≡ Ok (object, s)
    → main_unlocked c m head p ≡ Ok (started c m None head object (in_isolate s p))
unlocked_goes c m head p args room object s e h is = unlocked_by c m head p args room e h ∙ ap (λ r. r >>= with_arguments c m head p) is

fits_true : (room : Bool) (r : Result (ℕ × Isolate) Stop) (x : ℕ × Isolate) → (r >>= if_fits room) ≡ Ok x → room ≡ true
fits_true true r x e = refl
fits_true false (Ok y) x e = absurd cc
fits_true false (Err stop) x e = absurd cc

pub room_of_arguments : (args : List (List ℕ)) (room : Bool) (s : Isolate) (x : ℕ × Isolate) → main_arguments args room s ≡ Ok x → room ≡ true
unfolding main_arguments
room_of_arguments args room s x e = fits_true room (arguments_made args s) x e

-- ---- main with its monitor

locked_by : (c : Context) (m : MemberName) (head : Head) (p : Point) (args : List (List ℕ)) (room : Bool) (thread : ℕ) (class : List ℕ) → c.launch.args ≡ args → first_room c head p ≡ room → c.thread ≡ thread → class ≡ m.class
    → main_synchronized c m head p ≡ (main_locked args room thread class p.isolate >>= by_lock c m head p)
unfolding main_synchronized
locked_by c m head p args room thread class e h t k =
    ap (λ (a : List (List ℕ)). main_locked a (first_room c head p) c.thread m.class p.isolate >>= by_lock c m head p) e
    ∙ ap (λ (r : Bool). main_locked args r c.thread m.class p.isolate >>= by_lock c m head p) h
    ∙ ap (λ (x : ℕ). main_locked args room x m.class p.isolate >>= by_lock c m head p) t
    ∙ ap (λ (x : List ℕ). main_locked args room thread x p.isolate >>= by_lock c m head p) (sym k)

pub locked_goes : (c : Context) (m : MemberName) (head : Head) (p : Point) (args : List (List ℕ)) (room : Bool) (thread : ℕ) (class : List ℕ) (lock : MainLock) (s : Isolate) → c.launch.args ≡ args → first_room c head p ≡ room → c.thread ≡ thread → class ≡ m.class
    → main_locked args room thread class p.isolate ≡ Ok (lock, s) → main_synchronized c m head p ≡ by_lock c m head p (lock, s)
locked_goes c m head p args room thread class lock s e h t k is = locked_by c m head p args room thread class e h t k ∙ ap (λ r. r >>= by_lock c m head p) is

entered_true : (room : Bool) (object : ℕ) (r : Result (ℕ × Isolate) Stop) (call : MainCall) (s : Isolate) → ((r >>= if_fits room) >>= λ x. Ok (called_with object x)) ≡ Ok (Entered call, s) → room ≡ true
entered_true true object r call s e = refl
entered_true false object (Ok y) call s e = absurd cc
entered_true false object (Err stop) call s e = absurd cc

abbrev lock_in : Result (MainLock × Isolate) Stop → MainLock
lock_in (Ok x) = x.0
lock_in (Err stop) = Waits 0

never_both : (object : ℕ) (call : MainCall) → Waits object ≡ Entered call → ⊥
never_both object call e = absurd cc

room_in : (args : List (List ℕ)) (room : Bool) (object : ℕ) (t : Isolate) (monitor : Option Monitor) (call : MainCall) (s : Isolate) → main_in args room object t monitor ≡ Ok (Entered call, s) → room ≡ true
unfolding main_arguments
room_in args room object t (Some monitor) call s e = entered_true room object _ call s e
room_in args room object t None call s e = absurd (never_both object call (ap lock_in e))

room_known_by : (args : List (List ℕ)) (room : Bool) (object : ℕ) (t : Isolate) (r : Result (Option Monitor) Stop) (call : MainCall) (s : Isolate) → (r >>= main_in args room object t) ≡ Ok (Entered call, s) → room ≡ true
room_known_by args room object t (Ok monitor) call s e = room_in args room object t monitor call s e
room_known_by args room object t (Err stop) call s e = absurd cc

room_known : (args : List (List ℕ)) (room : Bool) (thread object : ℕ) (t : Isolate) (call : MainCall) (s : Isolate) → main_known args room thread object t ≡ Ok (Entered call, s) → room ≡ true
unfolding main_known
room_known args room thread object t call s e = room_known_by args room object t (monitor_entered thread object t) call s e

room_locked_by : (args : List (List ℕ)) (room : Bool) (thread : ℕ) (r : Result (ℕ × Isolate) Stop) (call : MainCall) (s : Isolate) → (r >>= λ x. main_known args room thread x.0 x.1) ≡ Ok (Entered call, s) → room ≡ true
room_locked_by args room thread (Ok x) call s e = room_known args room thread x.0 x.1 call s e
room_locked_by args room thread (Err stop) call s e = absurd cc

pub room_of_lock : (args : List (List ℕ)) (room : Bool) (thread : ℕ) (class : List ℕ) (t : Isolate) (call : MainCall) (s : Isolate) → main_locked args room thread class t ≡ Ok (Entered call, s) → room ≡ true
unfolding main_locked
room_of_lock args room thread class t call s e = room_locked_by args room thread (class_object (of_class class) t) call s e

-- ---- with what the method has

pub leaves_by : (r : Result ThreadState Stop) (d e : Result Went Stop) (n : Numbered) (s : StackParts) (o : Option ℕ) → d ≡ e → LeavesState r e n s o → LeavesState r d n s o
leaves_by r d e n s o h l = subst (λ (x : Result Went Stop). LeavesState r x n s o) (sym h) l

pub main_with : (c : Context) (look : Look) (m : MemberName) (head : Head) (p q : Point) → c.look ≡ look → head_in look m ≡ Ok head → q ≡ p → main_started c p m ≡ main_entered c m q head
unfolding main_started
main_with c look m head p q e h k = ap (λ (l : Look). head_in l m >>= main_entered c m p) e ∙ ap (λ r. r >>= main_entered c m p) h ∙ ap (λ (x : Point). main_entered c m x head) (sym k)

pub run_with : (c : Context) (look : Look) (m : MemberName) (object : ℕ) (head : Head) (p q : Point) → c.look ≡ look → head_in look m ≡ Ok head → q ≡ p → run_started c object p m ≡ run_entered c m object q head
unfolding run_started
run_with c look m object head p q e h k = ap (λ (l : Look). head_in l m >>= run_entered c m object p) e ∙ ap (λ r. r >>= run_entered c m object p) h ∙ ap (λ (x : Point). run_entered c m object x head) (sym k)

-- ---- run with its monitor

abbrev run_on : Context → MemberName → Head → ℕ → Point → Isolate → Result Went Stop
run_on c m head object p s = Ok (started c m (Some object) head object (in_isolate s p))

run_enters : (c : Context) (m : MemberName) (head : Head) (object : ℕ) (p : Point) → is_synchronized head ≡ true → run_locked c m head object p ≡ once_entered c object p (run_on c m head object p)
unfolding run_locked
run_enters c m head object p e = rw e refl

pub run_goes : (c : Context) (m : MemberName) (head : Head) (object : ℕ) (p : Point) (s : Isolate) → is_synchronized head ≡ true → ((go : Isolate → Result Went Stop) → once_entered c object p go ≡ go s) → run_locked c m head object p ≡ Ok (started c m (Some object) head object (in_isolate s p))
run_goes c m head object p s e enters = run_enters c m head object p e ∙ enters (run_on c m head object p)

pub run_waits : (c : Context) (m : MemberName) (head : Head) (object : ℕ) (p : Point) (w : Went) → is_synchronized head ≡ true → ((go : Isolate → Result Went Stop) → once_entered c object p go ≡ Ok w) → run_locked c m head object p ≡ Ok w
run_waits c m head object p w e enters = run_enters c m head object p e ∙ enters (run_on c m head object p)

pub stays_before : (c : Context) (old new : Numbered) (object : ℕ) (s : StackParts) → Grows old new → AreKeys old s → IsSome s.rest.below.key → named new ≡ named old
    → stays c (doing_named new (Entering object 0)) (point_of old s) ≡ left_named new s c.object (Entering object 0)
stays_before c old new object s g keys some same = ap (stays c (doing_named new (Entering object 0))) (sym (point_stays old new s g keys same)) ∙ stays_frames c new object s some

pub enters_true : (b : Bool) (d : Result Went Stop) (go : Isolate → Result Went Stop) (w : Went) (s : Isolate) → b ≡ true → Enters (Ok b) d go w s → d ≡ go s
enters_true b d go w s e is = subst (λ (x : Bool). Enters (Ok x) d go w s) e is

pub enters_false : (b : Bool) (d : Result Went Stop) (go : Isolate → Result Went Stop) (w : Went) (s : Isolate) → b ≡ false → Enters (Ok b) d go w s → d ≡ Ok w
enters_false b d go w s e is = subst (λ (x : Bool). Enters (Ok x) d go w s) e is

pub with_lock : (x y : MainLock) (s : Isolate) (r : Result (MainLock × Isolate) Stop) → x ≡ y → r ≡ Ok (x, s) → r ≡ Ok (y, s)
with_lock x y s r e h = h ∙ ap (λ (l : MainLock). Ok (l, s)) e

-- ---- the main class is not initialised yet

left_frames : (c : Context) (n : Numbered) (s : StackParts) (state : ThreadState) → IsSome s.rest.below.key → went_of n s c.object (doing_named n state) ≡ left_named n s c.object state
left_frames c n s state some = ap (λ fs. record { isolate = named n; frames = fs; object = c.object; after = does (doing_named n state) }) (sym (frames_there n s some))

pub main_ends : (c : Context) (class : List ℕ) (p : Point) (once : Once) (state : ThreadState) (n : Numbered) (s : StackParts) → class ≡ c.launch.main → once ≡ Ends state
    → Begins (Ok once) (once_initialised c class p (main_called c)) (main_called c) n s c.object → IsSome s.rest.below.key → start_main c p ≡ Ok (left_named n s c.object state)
unfolding start_main
main_ends c class p once state n s e h begins some =
    let went : once_initialised c class p (main_called c) ≡ Ok (went_of n s c.object (doing_named n state)) = subst (λ (x : Once). Begins (Ok x) (once_initialised c class p (main_called c)) (main_called c) n s c.object) h begins in
    ap (λ (name : List ℕ). once_initialised c name p (main_called c)) (sym e) ∙ went ∙ ap Ok (left_frames c n s state some)
