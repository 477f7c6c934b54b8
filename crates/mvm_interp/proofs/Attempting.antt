-- The first part of a step, over tasks as contracts see them.
use native.Mathlib.Omega.{arith}
use Rattle.std.proofs.Common.{◌≡◌, ◌<◌, refl, sym, ◌∙◌, ap, subst}
use Rattle.std.proofs.lemmas.Option.{slice_get_within}
use Rattle.std.specs.Prelude.{ℕ, zero, suc, ◌+◌, List, [], ◌∷◌, length, map, Bool, true, false, Option, Some, None, Result, Ok, Err, slice_get, slice_set}
use Rattle.std.specs.Option.{option_map}
use Rattle.std.specs.Result.{OnErr}
use Rattle.mvm_history.specs.declared.launch.Launch.{Launch}
use Rattle.mvm_isolate.specs.Isolate.{Isolate}
use Rattle.mvm_isolate.specs.Numbered.{Numbered, look_of, named}
use Rattle.mvm_isolate.specs.Sound.{Grows}
use Rattle.mvm_isolate.specs.declared.stop.Stop.{Stop}
use Rattle.mvm_current.specs.Frames.{Frame}
use Rattle.mvm_current.specs.Keys.{frames_named}
use Rattle.mvm_current.proofs.Growth.{frames_grow}
use Rattle.mvm_object.specs.Coming.{doing_named, IsState}
use Rattle.mvm_object.specs.Going.{Doing, ready, entering, waiting, initing, joining, sending, receiving, asking, ended, After, does, acts, Went}
use Rattle.mvm_invoke.specs.Leaving.{after_named}
use Rattle.mvm_invoke.specs.declared.left.After.{After as LeftAfter}
use Rattle.mvm_invoke.specs.declared.left.After.TheVariants as left
use Rattle.mvm_thread.specs.Attempt.{attempt}
use Rattle.mvm_thread.specs.State as by_name
use Rattle.mvm_thread.specs.State.{Thread, State, can_do, can_thread, can_step, has_ended, is_outside}
use Rattle.mvm_thread.specs.Step.{context_of}
use Rattle.mvm_interp.proofs.Growing.{doing_grows, threads_grow, set_named, length_named}
use Rattle.mvm_interp.proofs.Links.{closed_linked}
use Rattle.mvm_interp.proofs.Threads.{get_named, over_is}
use Rattle.mvm_interp.specs.Finishing.{doing_after, state_after, went_of, Attempted}
use Rattle.mvm_interp.specs.Linking.{linked}
use Rattle.mvm_interp.specs.Names.{TaskParts, names, thread_named, threads_named, closed_in, is_over, uncaught_named, with_unread}
use Rattle.mvm_interp.specs.Sound.{IsRow, IsTask}
use Rattle.mvm_interp.specs.declared.row.ThreadRow.{ThreadRow}
use Rattle.mvm_interp.specs.declared.task_state.TaskState.TheInside.{Inside}

abbrev pub held : Inside → TaskParts
held i = record {
  isolate = i.isolate;
  rows = i.rows.items;
  count = i.count;
  ended = i.ended;
  last = i.last;
  steps = i.steps;
  message_bytes = i.message_bytes;
  uncaught = i.uncaught;
  unread = i.unread;
  act = i.act;
  end = i.end;
}

abbrev pub Is : TaskParts → Type 0
Is t = IsTask t.isolate t.rows t.count t.ended t.steps

-- ---- a thread that can make an attempt

pub record Can (t : TaskParts) (i : ℕ) (row : ThreadRow) : Type 0 where
  pub there : slice_get t.rows i ≡ Some row
  pub found : slice_get (names t).threads i ≡ Some (thread_named t.isolate row)
  pub below : i < t.count
  pub inside : is_outside (doing_named t.isolate row.state) ≡ false
  pub going : is_over row.state ≡ false

inside_by : (number : ℕ) (s : State) (doing : Doing) → can_do number doing s ≡ true → (is_outside doing ≡ false) × (has_ended doing ≡ false)
inside_by number s ready c = (refl, refl)
inside_by number s (entering object count) c = (refl, refl)
inside_by number s (waiting object count) c = (refl, refl)
inside_by number s (initing class) c = (refl, refl)
inside_by number s (joining thread) c = (refl, refl)
inside_by number s (sending link) c = absurd (let k : false ≡ true = c in cc)
inside_by number s (receiving link) c = absurd (let k : false ≡ true = c in cc)
inside_by number s asking c = absurd (let k : false ≡ true = c in cc)
inside_by number s ended c = absurd (let k : false ≡ true = c in cc)

below_by : (t : TaskParts) (i : ℕ) (found : Option Thread) → Is t → slice_get (names t).threads i ≡ found → can_thread i (names t) found ≡ true → i < t.count
below_by t i (Some x) is e c =
    let w : i < length (names t).threads = slice_get_within (names t).threads i x e in
    let l : length (names t).threads ≡ t.count = length_named t.isolate t.count t.rows is.begun in
    omega (arith, w, l)
below_by t i None is e c = absurd (let k : false ≡ true = c in cc)

pub can_below : (t : TaskParts) (i : ℕ) → Is t → can_step (names t) i ≡ true → i < t.count
unfolding can_step
can_below t i is c = below_by t i (slice_get (names t).threads i) is refl c

pub can_row : (t : TaskParts) (i : ℕ) (row : ThreadRow) → Is t → can_step (names t) i ≡ true → slice_get t.rows i ≡ Some row → Can t i row
unfolding can_step
can_row t i row is c there =
    let below : i < t.count = can_below t i is c in
    let e : slice_get (names t).threads i ≡ Some (thread_named t.isolate row) = get_named t.isolate t.count i t.rows below ∙ ap (option_map (thread_named t.isolate)) there in
    let d : can_thread i (names t) (Some (thread_named t.isolate row)) ≡ true = ap (can_thread i (names t)) (sym e) ∙ c in
    let x = inside_by i (names t) (doing_named t.isolate row.state) d in
    record { there = there; found = e; below = below; inside = x.0; going = sym (over_is t.isolate row.state) ∙ x.1 }

-- ---- what an attempt leaves

pub doing_is : (n : Numbered) (todo : LeftAfter) → doing_named n (state_after todo) ≡ doing_after (after_named n todo)
doing_is n (left.Does state) = refl
doing_is n (left.Starts object) = refl
doing_is n (left.Notifies object all) = refl
doing_is n (left.Acts act state) = refl
doing_is n (left.EndsUncaught object) = refl
doing_is n (left.Exits status) = refl
doing_is n (left.Limited kind) = refl

after_grows : (old new : Numbered) (todo : LeftAfter) → Grows old new → IsState old (state_after todo) → after_named new todo ≡ after_named old todo
after_grows old new (left.Does state) grows is = ap does (doing_grows old new state grows is)
after_grows old new (left.Starts object) grows is = refl
after_grows old new (left.Notifies object all) grows is = refl
after_grows old new (left.Acts act state) grows is = ap (acts act) (doing_grows old new state grows is)
after_grows old new (left.EndsUncaught object) grows is = refl
after_grows old new (left.Exits status) grows is = refl
after_grows old new (left.Limited kind) grows is = refl

went_grows : (old new : Numbered) (row : ThreadRow) (todo : LeftAfter) → Grows old new → named new ≡ named old → IsRow old row → row.state ≡ state_after todo → went_of old row todo ≡ went_of new row todo
went_grows old new row todo grows same is e =
    let f : Isolate → List Frame → After → Went = λ s fs after. record { isolate = s; frames = fs; object = row.object; after = after } in
    let state : IsState old (state_after todo) = subst (IsState old) e is.state in
    ap (λ (s : Isolate). f s (frames_named old row.stack) (after_named old todo)) (sym same)
    ∙ ap (λ (fs : List Frame). f (named new) fs (after_named old todo)) (sym (frames_grow old new row.stack grows is.keys))
    ∙ ap (λ (after : After). f (named new) (frames_named new row.stack) after) (sym (after_grows old new todo grows state))

abbrev pub Ones : Type 0
Ones = List by_name.Uncaught

-- a state with other of these
abbrev pub with_these : State → Launch → List Bool → List Thread → Ones → State
with_these s launch closed threads ones = record s { launch = launch; closed = closed; threads = threads; uncaught = ones }

pub these_same : (s : State) (l m : Launch) (c d : List Bool) (t u : List Thread) (o p : Ones) → l ≡ m → c ≡ d → t ≡ u → o ≡ p → with_these s l c t o ≡ with_these s m d u p
these_same s l m c d t u o p e f g h =
    ap (λ (x : Launch). with_these s x c t o) e ∙ ap (λ (x : List Bool). with_these s m x t o) f ∙ ap (λ (x : List Thread). with_these s m d x o) g ∙ ap (λ (x : Ones). with_these s m d u x) h

abbrev pub moved : TaskParts → Numbered → ℕ → ThreadRow → ℕ → TaskParts
moved t last i next bits = record t { isolate = last; rows = slice_set t.rows i next; ended = bits; steps = t.steps + 1 }

pub attempted_is : (t : TaskParts) (mid last : Numbered) (i bits : ℕ) (row next : ThreadRow) (todo : LeftAfter)
    → Is t → Can t i row → t.unread ≡ None → Grows t.isolate mid → Grows t.isolate last → Grows mid last → named last ≡ named mid → IsRow mid next → next.state ≡ state_after todo
    → last.env.links ≡ linked i next.state t.isolate.env.links
    → attempt (context_of (look_of t.isolate) i (thread_named t.isolate row) (names t)) (doing_named t.isolate row.state) (named t.isolate) (frames_named t.isolate row.stack) ≡ Ok (went_of mid next todo)
    → Attempted t (moved t last i next bits) i todo
attempted_is t mid last i bits row next todo is can read to_mid to_last grows same is_row state links came =
    let new = moved t last i next bits in
    let went = went_of last next todo in
    let ok : Went → Result Went Stop = λ w. Ok w in
    let ones = map uncaught_named t.uncaught in
    let thread : Thread = record { doing = doing_after went.after; object = went.object; frames = went.frames } in
    let one : thread_named last next ≡ thread = ap (λ (d : Doing). record (thread_named last next) { doing = d }) (ap (doing_named last) state ∙ doing_is last todo) in
    let threads : threads_named last t.count (slice_set t.rows i next) ≡ slice_set (threads_named t.isolate t.count t.rows) i thread =
    set_named last t.count i t.rows next can.below
    ∙ ap (λ (ts : List Thread). slice_set ts i (thread_named last next)) (threads_grow t.isolate last t.count t.rows to_last is.sound)
    ∙ ap (slice_set (threads_named t.isolate t.count t.rows) i) one in
    let closed : closed_in last.env.links ≡ closed_in t.isolate.env.links = ap closed_in links ∙ closed_linked i next.state t.isolate.env.links in
    let uncaught : with_unread (named last) ones t.unread ≡ with_unread (named t.isolate) ones t.unread = ap (with_unread (named last) ones) read ∙ sym (ap (with_unread (named t.isolate) ones) read) in
    record {
      was = thread_named t.isolate row;
      there = can.found;
      went = went;
      does = came ∙ ap ok (went_grows mid last next todo grows same is_row state);
      after = refl;
      leaves = these_same (names new) _ _ _ _ _ _ _ _ to_last.launch closed threads uncaught;
    }

-- ---- a refused one

set_own : {X : Type 0} (xs : List X) (i : ℕ) (x : X) → slice_get xs i ≡ Some x → slice_set xs i x ≡ xs
set_own [] i x e = refl
set_own (y ∷ ys) zero x e = let s : x ≡ y = cc in ap (λ (z : _). z ∷ ys) s
set_own (y ∷ ys) (suc i) x e = ap (λ (zs : _). y ∷ zs) (set_own ys i x e)

pub rows_same : (rows : List ThreadRow) (i : ℕ) (row next : ThreadRow) → slice_get rows i ≡ Some row → next ≡ row → slice_set rows i next ≡ rows
rows_same rows i row next there e = ap (slice_set rows i) e ∙ set_own rows i row there

pub grown_names : (t : TaskParts) (new : Numbered) → Is t → t.unread ≡ None → Grows t.isolate new → named new ≡ named t.isolate → new.env.links ≡ t.isolate.env.links → names (record t { isolate = new }) ≡ names t
grown_names t new is read grows same links =
    let ones = map uncaught_named t.uncaught in
    let uncaught : with_unread (named new) ones t.unread ≡ with_unread (named t.isolate) ones t.unread = ap (with_unread (named new) ones) read ∙ sym (ap (with_unread (named t.isolate) ones) read) in
    these_same (names (record t { isolate = new })) _ _ _ _ _ _ _ _ grows.launch (ap closed_in links) (threads_grow t.isolate new t.count t.rows grows is.sound) uncaught
    ∙ ap (λ (s : Isolate). record (names t) { isolate = s }) same

pub on_err_any : {T E P : Type 0} (r : Result T E) → P → OnErr r P
on_err_any (Ok x) p = tt
on_err_any (Err e) p = p
