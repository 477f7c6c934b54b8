-- Threads that are woken, by their rows and by names.
use native.Mathlib.Omega.{arith}
use Rattle.std.proofs.Common.{◌≡◌, ◌≤◌, ◌<◌, refl, sym, ◌∙◌, ap}
use Rattle.std.proofs.Math.Seq.{take-set-lt}
use Rattle.std.proofs.lemmas.List.{length-map, length-set, drop-set-lt}
use Rattle.std.proofs.lemmas.List.Elements.{All-set, All-map, All-weaker}
use Rattle.std.specs.Prelude.{is_some, ℕ, zero, suc, ◌+◌, List, [], ◌∷◌, ◌++◌, length, map, take, drop, Bool, true, false, not, ◌==◌, if◌then◌else◌, Option, Some, None, slice_get, slice_set}
use Rattle.std.specs.Option.{option_map}
use Rattle.mvm_isolate.specs.Isolate.{Isolate}
use Rattle.mvm_isolate.specs.Monitors.{without_waiter}
use Rattle.mvm_isolate.specs.Numbered.{Numbered, named}
use Rattle.mvm_isolate.specs.Sound.{Grows}
use Rattle.mvm_monitor.specs.Waits.{longest, woken}
use Rattle.mvm_monitor.specs.declared.waits.Waiter.{Waiter}
use Rattle.mvm_object.specs.Coming.{doing_named, IsState}
use Rattle.mvm_object.specs.Going.{Doing}
use Rattle.mvm_object.specs.Going as doing
use Rattle.mvm_object.specs.declared.state.ThreadState.{ThreadState}
use Rattle.mvm_object.specs.declared.state.ThreadState.TheVariants as state
use Rattle.mvm_thread.specs.State.{Thread, sends_on, receives_on, use_by, uses_from}
use Rattle.mvm_thread.specs.Step.{awake, awake_on, wake, wake_in, wake_on, notified, all_notified}
use Rattle.mvm_interp.proofs.Attempting.{Is, these_same}
use Rattle.mvm_interp.proofs.Bits.{bits_same, bits_map}
use Rattle.mvm_interp.proofs.Growing.{set_named, threads_grow, all_at}
use Rattle.mvm_interp.proofs.Links.{first_same, first_map, uses_same}
use Rattle.mvm_interp.proofs.Threads.{get_taken, get_named, get_past}
use Rattle.mvm_interp.specs.Finishing.{others, with_waiting}
use Rattle.mvm_interp.specs.Names.{TaskParts, names, thread_named, threads_named, closed_in, ended_bits, is_over, uncaught_named, with_unread}
use Rattle.mvm_interp.specs.Sound.{IsRow, IsIdle, IsTask}
use Rattle.mvm_interp.specs.Waking.{awake_state, awake_on_state, awake_row, woken_at}
use Rattle.mvm_interp.specs.declared.row.ThreadRow.{ThreadRow}

-- ---- by names

awake_named : (n : Numbered) (s : ThreadState) → doing_named n (awake_state s) ≡ awake (doing_named n s)
awake_named n state.Ready = refl
awake_named n (state.Entering object times) = refl
awake_named n (state.Waiting object times) = refl
awake_named n (state.Initing mirror) = refl
awake_named n (state.Joining thread) = refl
awake_named n (state.Sending link) = refl
awake_named n (state.Receiving link) = refl
awake_named n state.Asking = refl
awake_named n state.Ended = refl

on_by : (n : Numbered) (object times : ℕ) (b : Bool) → doing_named n (if b then state.Entering object times else state.Waiting object times) ≡ (if b then doing.entering object times else doing.waiting object times)
on_by n object times true = refl
on_by n object times false = refl

awake_on_named : (n : Numbered) (object : ℕ) (s : ThreadState) → doing_named n (awake_on_state object s) ≡ awake_on object (doing_named n s)
awake_on_named n object state.Ready = refl
awake_on_named n object (state.Entering other times) = refl
awake_on_named n object (state.Waiting other times) = on_by n other times (other == object)
awake_on_named n object (state.Initing mirror) = refl
awake_on_named n object (state.Joining thread) = refl
awake_on_named n object (state.Sending link) = refl
awake_on_named n object (state.Receiving link) = refl
awake_on_named n object state.Asking = refl
awake_on_named n object state.Ended = refl

woken_by : (n : Numbered) (count i : ℕ) (rows : List ThreadRow) (found : Option ThreadRow) → i < count → slice_get rows i ≡ found
    → threads_named n count (woken_at i found rows) ≡ wake_in i (option_map (thread_named n) found) (threads_named n count rows)
woken_by n count i rows (Some row) h e =
    set_named n count i rows (record row { state = awake_state row.state }) h
    ∙ ap (λ (d : Doing). slice_set (threads_named n count rows) i (record (thread_named n row) { doing = d })) (awake_named n row.state)
woken_by n count i rows None h e = refl

pub woken_named : (n : Numbered) (count i : ℕ) (rows : List ThreadRow) → i < count
    → threads_named n count (woken_at i (slice_get rows i) rows) ≡ wake_in i (slice_get (threads_named n count rows) i) (threads_named n count rows)
woken_named n count i rows h =
    woken_by n count i rows (slice_get rows i) h refl
    ∙ ap (λ (found : Option Thread). wake_in i found (threads_named n count rows)) (sym (get_named n count i rows h))

pub unwoken_named : (n : Numbered) (count i : ℕ) (rows : List ThreadRow) → count ≤ i → threads_named n count rows ≡ wake_in i (slice_get (threads_named n count rows) i) (threads_named n count rows)
unwoken_named n count i rows h = ap (λ (found : Option Thread). wake_in i found (threads_named n count rows)) (sym (get_past n count i rows h))

take_map : {X Y : Type 0} (f : X → Y) (n : ℕ) (xs : List X) → take n (map f xs) ≡ map f (take n xs)
take_map f zero [] = refl
take_map f (suc n) [] = refl
take_map f zero (x ∷ xs) = refl
take_map f (suc n) (x ∷ xs) = ap (λ (ys : List _). f x ∷ ys) (take_map f n xs)

drop_map : {X Y : Type 0} (f : X → Y) (n : ℕ) (xs : List X) → drop n (map f xs) ≡ map f (drop n xs)
drop_map f zero [] = refl
drop_map f (suc n) [] = refl
drop_map f zero (x ∷ xs) = refl
drop_map f (suc n) (x ∷ xs) = drop_map f n xs

all_by : (n : Numbered) (object : ℕ) (rows : List ThreadRow) → map (thread_named n) (map (awake_row object) rows) ≡ map (wake_on object) (map (thread_named n) rows)
all_by n object [] = refl
all_by n object (row ∷ rows) =
    ap (λ (d : Doing). record (thread_named n row) { doing = d } ∷ map (thread_named n) (map (awake_row object) rows)) (awake_on_named n object row.state)
    ∙ ap (λ (ts : List Thread). wake_on object (thread_named n row) ∷ ts) (all_by n object rows)

pub all_named : (n : Numbered) (count object : ℕ) (rows : List ThreadRow) → threads_named n count (map (awake_row object) rows) ≡ map (wake_on object) (threads_named n count rows)
all_named n count object rows = ap (map (thread_named n)) (take_map (awake_row object) count rows) ∙ all_by n object (take count rows)

-- ---- what is kept

-- a thread that does the one or the other has ended, sends and receives alike
record Alike (n : Numbered) (old new : ThreadState) : Type 0 where
  over : is_over new ≡ is_over old
  state_is : IsState n old → IsState n new
  sends : (link : ℕ) → sends_on link (doing_named n new) ≡ sends_on link (doing_named n old)
  receives : (link : ℕ) → receives_on link (doing_named n new) ≡ receives_on link (doing_named n old)

alike_same : (n : Numbered) (s : ThreadState) → Alike n s s
alike_same n s = record { over = refl; state_is = λ is. is; sends = λ link. refl; receives = λ link. refl }

alike_woken : (n : Numbered) (object times : ℕ) → Alike n (state.Waiting object times) (state.Entering object times)
alike_woken n object times = record { over = refl; state_is = λ is. is; sends = λ link. refl; receives = λ link. refl }

alike_awake : (n : Numbered) (s : ThreadState) → Alike n s (awake_state s)
alike_awake n state.Ready = alike_same n state.Ready
alike_awake n (state.Entering object times) = alike_same n (state.Entering object times)
alike_awake n (state.Waiting object times) = alike_woken n object times
alike_awake n (state.Initing mirror) = alike_same n (state.Initing mirror)
alike_awake n (state.Joining thread) = alike_same n (state.Joining thread)
alike_awake n (state.Sending link) = alike_same n (state.Sending link)
alike_awake n (state.Receiving link) = alike_same n (state.Receiving link)
alike_awake n state.Asking = alike_same n state.Asking
alike_awake n state.Ended = alike_same n state.Ended

alike_if : (n : Numbered) (object times : ℕ) (b : Bool) → Alike n (state.Waiting object times) (if b then state.Entering object times else state.Waiting object times)
alike_if n object times true = alike_woken n object times
alike_if n object times false = alike_same n (state.Waiting object times)

alike_on : (n : Numbered) (object : ℕ) (s : ThreadState) → Alike n s (awake_on_state object s)
alike_on n object state.Ready = alike_same n state.Ready
alike_on n object (state.Entering other times) = alike_same n (state.Entering other times)
alike_on n object (state.Waiting other times) = alike_if n other times (other == object)
alike_on n object (state.Initing mirror) = alike_same n (state.Initing mirror)
alike_on n object (state.Joining thread) = alike_same n (state.Joining thread)
alike_on n object (state.Sending link) = alike_same n (state.Sending link)
alike_on n object (state.Receiving link) = alike_same n (state.Receiving link)
alike_on n object state.Asking = alike_same n state.Asking
alike_on n object state.Ended = alike_same n state.Ended

row_awake : (n : Numbered) (row : ThreadRow) (s : ThreadState) → Alike n row.state s → IsRow n row → IsRow n (record row { state = s })
row_awake n row s alike is = record { keys = is.keys; limits = is.limits; state = alike.state_is is.state }

state_keeps : (n : Numbered) (rows : List ThreadRow) (count ended steps i : ℕ) (row : ThreadRow) (s : ThreadState) → Alike n row.state s → IsTask n rows count ended steps → slice_get rows i ≡ Some row → i < count
    → IsTask n (slice_set rows i (record row { state = s })) count ended steps
state_keeps n rows count ended steps i row s alike is there below =
    let next : ThreadRow = record row { state = s } in
    let ts = threads_named n count rows in
    let closed = closed_in n.env.links in
    let e : slice_get (take count rows) i ≡ Some row = get_taken rows i count below ∙ there in
    let f : slice_get ts i ≡ Some (thread_named n row) = get_named n count i rows below ∙ ap (option_map (thread_named n)) there in
    let one : (link : ℕ) (c : Bool) → use_by (slice_set ts i (thread_named n next)) link c ≡ use_by ts link c = λ link c.
    rw (first_same (sends_on link) 0 i ts (thread_named n row) (thread_named n next) f (alike.sends link), first_same (receives_on link) 0 i ts (thread_named n row) (thread_named n next) f (alike.receives link)) refl in
    record {
      sound = All-set (IsRow n) rows i next (row_awake n row s alike (all_at (IsRow n) i rows row there is.sound)) is.sound;
      idle = rw (drop-set-lt count rows i next below) is.idle;
      most = length-set rows i next ∙ is.most;
      few = is.few;
      frames = is.frames;
      begun = rw (length-set rows i next) is.begun;
      bits = is.bits ∙ sym (bits_same (take count rows) i row next e alike.over) ∙ sym (ap ended_bits (take-set-lt count rows i next below));
      links = is.links ∙ sym (uses_same 0 ts (slice_set ts i (thread_named n next)) closed (λ link c h. one link c))
          ∙ ap (λ (us : List Thread). uses_from 0 us closed) (sym (set_named n count i rows next below));
      within = is.within;
    }

keeps_by : (n : Numbered) (rows : List ThreadRow) (count ended steps i : ℕ) (found : Option ThreadRow) → IsTask n rows count ended steps → slice_get rows i ≡ found → i < count → IsTask n (woken_at i found rows) count ended steps
keeps_by n rows count ended steps i (Some row) is there below = state_keeps n rows count ended steps i row (awake_state row.state) (alike_awake n row.state) is there below
keeps_by n rows count ended steps i None is there below = is

pub woken_keeps : (n : Numbered) (rows : List ThreadRow) (count ended steps i : ℕ) → IsTask n rows count ended steps → i < count → IsTask n (woken_at i (slice_get rows i) rows) count ended steps
woken_keeps n rows count ended steps i is below = keeps_by n rows count ended steps i (slice_get rows i) is refl below

sends_if : (link object times : ℕ) (b : Bool) → sends_on link (if b then doing.entering object times else doing.waiting object times) ≡ false
sends_if link object times true = refl
sends_if link object times false = refl

receives_if : (link object times : ℕ) (b : Bool) → receives_on link (if b then doing.entering object times else doing.waiting object times) ≡ false
receives_if link object times true = refl
receives_if link object times false = refl

sends_still : (link object : ℕ) (d : Doing) → sends_on link (awake_on object d) ≡ sends_on link d
sends_still link object doing.ready = refl
sends_still link object (doing.entering other count) = refl
sends_still link object (doing.waiting other count) = sends_if link other count (other == object)
sends_still link object (doing.initing class) = refl
sends_still link object (doing.joining thread) = refl
sends_still link object (doing.sending other) = refl
sends_still link object (doing.receiving other) = refl
sends_still link object doing.asking = refl
sends_still link object doing.ended = refl

receives_still : (link object : ℕ) (d : Doing) → receives_on link (awake_on object d) ≡ receives_on link d
receives_still link object doing.ready = refl
receives_still link object (doing.entering other count) = refl
receives_still link object (doing.waiting other count) = receives_if link other count (other == object)
receives_still link object (doing.initing class) = refl
receives_still link object (doing.joining thread) = refl
receives_still link object (doing.sending other) = refl
receives_still link object (doing.receiving other) = refl
receives_still link object doing.asking = refl
receives_still link object doing.ended = refl

pub all_keep : (n : Numbered) (rows : List ThreadRow) (count ended steps object : ℕ) → IsTask n rows count ended steps → IsTask n (map (awake_row object) rows) count ended steps
all_keep n rows count ended steps object is =
    let f : ThreadRow → ThreadRow = awake_row object in
    let ts = threads_named n count rows in
    let closed = closed_in n.env.links in
    let one : (link : ℕ) (c : Bool) → use_by (map (wake_on object) ts) link c ≡ use_by ts link c = λ link c.
    rw (first_map (sends_on link) (wake_on object) (λ t. sends_still link object t.doing) 0 ts, first_map (receives_on link) (wake_on object) (λ t. receives_still link object t.doing) 0 ts) refl in
    record {
      sound = All-map (IsRow n) f rows (All-weaker (IsRow n) (λ row. IsRow n (f row)) (λ row r. row_awake n row (awake_on_state object row.state) (alike_on n object row.state) r) rows is.sound);
      idle = rw (drop_map f count rows) (All-map (IsIdle n) f (drop count rows) is.idle);
      most = length-map rows f ∙ is.most;
      few = is.few;
      frames = is.frames;
      begun = rw (length-map rows f) is.begun;
      bits = is.bits ∙ sym (bits_map f (λ row. (alike_on n object row.state).over) (take count rows)) ∙ sym (ap ended_bits (take_map f count rows));
      links = is.links ∙ sym (uses_same 0 ts (map (wake_on object) ts) closed (λ link c h. one link c))
          ∙ ap (λ (us : List Thread). uses_from 0 us closed) (sym (all_named n count object rows));
      within = is.within;
    }

-- ---- those that wait

none_by : (object : ℕ) (waiter : Waiter) (waiters : List Waiter) (b : Bool) → (longest object waiters ≡ None → woken object waiters ≡ waiters)
    → (if b then Some waiter.thread else longest object waiters) ≡ None → (if b then waiters else waiter ∷ woken object waiters) ≡ waiter ∷ waiters
none_by object waiter waiters true f e = absurd (let k : Some waiter.thread ≡ None = e in cc)
none_by object waiter waiters false f e = ap (λ (ws : List Waiter). waiter ∷ ws) (f e)

pub none_woken : (object : ℕ) (waiters : List Waiter) → longest object waiters ≡ None → woken object waiters ≡ waiters
none_woken object [] e = refl
none_woken object (waiter ∷ waiters) e = none_by object waiter waiters (waiter.object == object) (none_woken object waiters) e

-- ---- states

changed_names : (t : TaskParts) (new : Numbered) (rows : List ThreadRow) (s : Isolate) (ts : List Thread) → t.unread ≡ None → Grows t.isolate new → new.env.links ≡ t.isolate.env.links
    → named new ≡ s → threads_named new t.count rows ≡ ts → names (record t { isolate = new; rows = rows }) ≡ record (names t) { isolate = s; threads = ts }
changed_names t new rows s ts read grows links same threads =
    let ones = map uncaught_named t.uncaught in
    let uncaught : with_unread (named new) ones t.unread ≡ with_unread (named t.isolate) ones t.unread = ap (with_unread (named new) ones) read ∙ sym (ap (with_unread (named t.isolate) ones) read) in
    these_same (names (record t { isolate = new; rows = rows })) _ _ _ _ _ _ _ _ grows.launch (ap closed_in links) threads uncaught
    ∙ ap (λ (x : Isolate). record (names t) { isolate = x; threads = ts }) same

pub notified_is : (t : TaskParts) (new : Numbered) (rows : List ThreadRow) (object thread : ℕ) → Is t → t.unread ≡ None → Grows t.isolate new → new.env.links ≡ t.isolate.env.links
    → Some thread ≡ longest object (named t.isolate).waits.waiters → named new ≡ without_waiter object (named t.isolate)
    → threads_named new t.count rows ≡ wake_in thread (slice_get (threads_named new t.count t.rows) thread) (threads_named new t.count t.rows)
    → names (record t { isolate = new; rows = rows }) ≡ notified object (names t)
unfolding notified
notified_is t new rows object thread is read grows links first same threads =
    let ts = threads_named t.isolate t.count t.rows in
    let all = ap (λ (us : List Thread). wake_in thread (slice_get us thread) us) (threads_grow t.isolate new t.count t.rows grows is.sound) in
    changed_names t new rows (without_waiter object (named t.isolate)) (wake_in thread (slice_get ts thread) ts) read grows links same (threads ∙ all)
    ∙ ap (λ (one : Option ℕ). wake object one (names t)) first

pub nobody_is : (t : TaskParts) (new : Numbered) (object : ℕ) → Is t → t.unread ≡ None → Grows t.isolate new → new.env.links ≡ t.isolate.env.links
    → None ≡ longest object (named t.isolate).waits.waiters → named new ≡ without_waiter object (named t.isolate)
    → names (record t { isolate = new }) ≡ notified object (names t)
unfolding notified
nobody_is t new object is read grows links first same =
    let s : named new ≡ named t.isolate = same ∙ ap (λ (waiters : List Waiter). with_waiting waiters (named t.isolate)) (none_woken object (named t.isolate).waits.waiters (sym first)) in
    changed_names t new t.rows (named t.isolate) (threads_named t.isolate t.count t.rows) read grows links s (threads_grow t.isolate new t.count t.rows grows is.sound)
    ∙ ap (λ (one : Option ℕ). wake object one (names t)) first

pub all_notified_is : (t : TaskParts) (new : Numbered) (rows : List ThreadRow) (object : ℕ) → Is t → t.unread ≡ None → Grows t.isolate new → new.env.links ≡ t.isolate.env.links
    → named new ≡ with_waiting (others object (named t.isolate).waits.waiters) (named t.isolate)
    → threads_named new t.count rows ≡ map (wake_on object) (threads_named new t.count t.rows)
    → names (record t { isolate = new; rows = rows }) ≡ all_notified object (names t)
unfolding all_notified
all_notified_is t new rows object is read grows links same threads =
    changed_names t new rows (with_waiting (others object (named t.isolate).waits.waiters) (named t.isolate)) (map (wake_on object) (threads_named t.isolate t.count t.rows)) read grows links same
    (threads ∙ ap (map (wake_on object)) (threads_grow t.isolate new t.count t.rows grows is.sound))

-- ---- taken out one by one

kept_by : (object : ℕ) (waiter : Waiter) (waiters : List Waiter) (b : Bool) → others object (woken object waiters) ≡ others object waiters
    → (waiter.object == object) ≡ b → others object (if b then waiters else waiter ∷ woken object waiters) ≡ (if not b then waiter ∷ others object waiters else others object waiters)
kept_by object waiter waiters true e f = refl
kept_by object waiter waiters false e f = rw (f, e) refl

pub others_woken : (object : ℕ) (waiters : List Waiter) → others object (woken object waiters) ≡ others object waiters
others_woken object [] = refl
others_woken object (waiter ∷ waiters) = kept_by object waiter waiters (waiter.object == object) (others_woken object waiters) refl

rest_by : (object : ℕ) (waiter : Waiter) (waiters : List Waiter) (b : Bool) → (longest object waiters ≡ None → others object waiters ≡ waiters)
    → (if b then Some waiter.thread else longest object waiters) ≡ None → (if not b then waiter ∷ others object waiters else others object waiters) ≡ waiter ∷ waiters
rest_by object waiter waiters true f e = absurd (let k : Some waiter.thread ≡ None = e in cc)
rest_by object waiter waiters false f e = ap (λ (ws : List Waiter). waiter ∷ ws) (f e)

pub others_none : (object : ℕ) (waiters : List Waiter) → longest object waiters ≡ None → others object waiters ≡ waiters
others_none object [] e = refl
others_none object (waiter ∷ waiters) e = rest_by object waiter waiters (waiter.object == object) (others_none object waiters) e

fewer_by : (object : ℕ) (waiter : Waiter) (waiters : List Waiter) (b : Bool) (thread : ℕ) → (longest object waiters ≡ Some thread → length (woken object waiters) < length waiters)
    → (if b then Some waiter.thread else longest object waiters) ≡ Some thread → length (if b then waiters else waiter ∷ woken object waiters) < length (waiter ∷ waiters)
fewer_by object waiter waiters true thread f e = omega arith
fewer_by object waiter waiters false thread f e = omega (arith, f e)

pub fewer_woken : (object thread : ℕ) (waiters : List Waiter) → longest object waiters ≡ Some thread → length (woken object waiters) < length waiters
fewer_woken object thread [] e = absurd (let k : None ≡ Some thread = e in cc)
fewer_woken object thread (waiter ∷ waiters) e = fewer_by object waiter waiters (waiter.object == object) thread (fewer_woken object thread waiters) e

pub others_after : (object : ℕ) (s t : Isolate) → t ≡ without_waiter object s → with_waiting (others object t.waits.waiters) t ≡ with_waiting (others object s.waits.waiters) s
others_after object s t e =
    ap (λ (x : Isolate). with_waiting (others object x.waits.waiters) x) e
    ∙ ap (λ (ws : List Waiter). with_waiting ws s) (others_woken object s.waits.waiters)

pub fewer_some : (object : ℕ) (s t : Isolate) (first : Option ℕ) → first ≡ longest object s.waits.waiters → t ≡ without_waiter object s → is_some first ≡ true → length t.waits.waiters < length s.waits.waiters
fewer_some object s t (Some thread) e f g =
    let h : length t.waits.waiters ≡ length (woken object s.waits.waiters) = ap (λ (x : Isolate). length x.waits.waiters) f in
    omega (arith, h, fewer_woken object thread s.waits.waiters (sym e))
fewer_some object s t None e f g = absurd (let k : false ≡ true = g in cc)

pub others_done : (object : ℕ) (s t : Isolate) (first : Option ℕ) → first ≡ longest object s.waits.waiters → t ≡ without_waiter object s → is_some first ≡ false → t ≡ with_waiting (others object s.waits.waiters) s
others_done object s t (Some thread) e f g = absurd (let k : true ≡ false = g in cc)
others_done object s t None e f g =
    f ∙ ap (λ (ws : List Waiter). with_waiting ws s) (none_woken object s.waits.waiters (sym e) ∙ sym (others_none object s.waits.waiters (sym e)))

-- what is put back whole
pub put_back : (rows all : List ThreadRow) (n : ℕ) → n ≡ length rows → take n (rows ++ all) ≡ rows
put_back [] all n e = rw e refl
put_back (row ∷ rows) all n e = rw e (ap (λ (xs : List ThreadRow). row ∷ xs) (put_back rows all (length rows) refl))

pub none_found : (found : Option ℕ) → ((x : ℕ) → found ≡ Some x → ⊥) → None ≡ found
none_found None f = refl
none_found (Some x) f = absurd (f x refl)
