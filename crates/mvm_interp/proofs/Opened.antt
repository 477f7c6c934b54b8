-- What an isolate begins with.
use native.Mathlib.Omega.{arith}
use Rattle.std.proofs.Common.{◌≡◌, ◌≤◌, ◌<◌, refl, sym, ◌∙◌, ap}
use Rattle.std.proofs.lemmas.Bool.Decides.{nat_tests}
use Rattle.std.proofs.lemmas.List.Elements.{All-weaker}
use Rattle.std.specs.Prelude.{ℕ, zero, suc, ◌+◌, List, [], ◌∷◌, ◌++◌, length, map, take, drop, replicate, Bool, true, false, if◌then◌else◌, All, Some, None, Result, Ok, Err, slice_get, slice_set}
use Rattle.mvm_heap.specs.Heap.{free, placed}
use Rattle.mvm_heap.specs.Objects.{State as HeapState}
use Rattle.mvm_heap.specs.declared.kind.AllocFault.{AllocFault}
use Rattle.mvm_heap.specs.declared.kind.AllocFault.TheVariants.{Full}
use Rattle.mvm_history.specs.Limits.{allowed}
use Rattle.mvm_history.specs.declared.launch.Launch.{Launch}
use Rattle.mvm_history.specs.declared.launch.LinkRow.{LinkRow}
use Rattle.mvm_history.specs.declared.limits.Limits.{Limits}
use Rattle.mvm_monitor.specs.Waits.{Waits}
use Rattle.mvm_isolate.specs.Beginning.{bare, unseen}
use Rattle.mvm_isolate.specs.Isolate.{Isolate, allocated, new_object}
use Rattle.mvm_isolate.specs.Numbered.{Numbered, named}
use Rattle.mvm_isolate.specs.Thrown.{name_of_thrown}
use Rattle.mvm_isolate.specs.Types.{of_class}
use Rattle.mvm_current.specs.Frames.{bare_frame, starting}
use Rattle.mvm_native.specs.declared.env.Env.{Env}
use Rattle.mvm_native.specs.declared.env.LinkUse.{LinkUse}
use Rattle.mvm_native.specs.declared.out.Thrown.{Thrown}
use Rattle.mvm_native.specs.declared.out.Thrown.TheVariants.{OutOfMemoryError, StackOverflowError}
use Rattle.mvm_object.specs.Going.{ready}
use Rattle.mvm_object.specs.declared.state.ThreadState.TheVariants as state
use Rattle.mvm_thread.specs.State as begun
use Rattle.mvm_thread.specs.State.{State, Thread, opened, uses_from}
use Rattle.mvm_interp.proofs.Beginning.{idle_keys, idle_limits, start_keeps}
use Rattle.mvm_interp.proofs.Growing.{all_at, more_named}
use Rattle.mvm_interp.specs.Names.{ended_bits, thread_named, threads_named, closed_in}
use Rattle.mvm_interp.specs.Opening.{unused, with_set_aside, IsUnused}
use Rattle.mvm_interp.specs.Sound.{IsRow, IsIdle, IsTask}
use Rattle.mvm_interp.specs.declared.row.ThreadRow.{ThreadRow}

-- ---- an object that is set aside

abbrev with_object : Isolate → HeapState
with_object s = record s.heap { objects = s.heap.objects ++ begun.set_aside ∷ []; monitors = s.heap.monitors ++ free ∷ [] }

abbrev by_words : Bool → Isolate → Result (ℕ × HeapState) AllocFault
by_words missing s = if missing then Err Full else Ok (length s.heap.objects, with_object s)

by_room : (missing : Bool) (thrown : Thrown) (k : ℕ) (s t : Isolate) → allocated (of_class (name_of_thrown thrown)) s (by_words missing s) ≡ Ok (k, t) → t ≡ with_set_aside thrown s
by_room true thrown k s t e = absurd cc
by_room false thrown k s t e =
    let p : (length s.heap.objects, with_set_aside thrown s) ≡ (k, t) = cc in sym (ap (λ (x : ℕ × Isolate). x.1) p)

pub set_aside_is : (thrown : Thrown) (name : List ℕ) (k : ℕ) (s t : Isolate) → name ≡ name_of_thrown thrown → new_object name 2 s ≡ Ok (k, t) → t ≡ with_set_aside thrown s
unfolding new_object placed
set_aside_is thrown name k s t e f =
    let g : new_object (name_of_thrown thrown) 2 s ≡ Ok (k, t) = ap (λ (x : List ℕ). new_object x 2 s) (sym e) ∙ f in
    by_room _ thrown k s t g

-- ---- limits

pub record Ranges (limits : Limits) : Type 0 where
  pub threads_least : 1 ≤ limits.threads
  pub threads_most : limits.threads ≤ 64
  pub frames_least : 1 ≤ limits.frames
  pub frames_most : limits.frames ≤ 1024
  pub heap_most : limits.heap ≤ 4194304

pub ranges : (limits : Limits) → allowed limits ≡ true → Ranges limits
ranges limits e = record {
  threads_least = grind (arith, nat_tests);
  threads_most = grind (arith, nat_tests);
  frames_least = grind (arith, nat_tests);
  frames_most = grind (arith, nat_tests);
  heap_most = grind (arith, nat_tests);
}

-- ---- rows that no thread has

pub row_idle : (n : Numbered) (frames : ℕ) (rows : List ThreadRow) (row : ThreadRow) → n.env.launch.limits.frames ≡ frames → All (IsUnused frames) rows → slice_get rows 0 ≡ Some row → IsIdle n row
row_idle n frames rows row e all there = rw e (all_at (IsUnused frames) 0 rows row there all).stack

unused_is : (n : Numbered) (frames : ℕ) (row : ThreadRow) → n.env.launch.limits.frames ≡ frames → IsUnused frames row → IsRow n row
unused_is n frames row e is = record {
  keys = idle_keys n frames row.stack is.stack;
  limits = idle_limits n row.stack (rw e is.stack);
  state = rw is.state tt;
}

take_none : {X : Type 0} (xs : List X) → take 0 xs ≡ []
take_none [] = refl
take_none (x ∷ xs) = refl

drop_none : {X : Type 0} (xs : List X) → drop 0 xs ≡ xs
drop_none [] = refl
drop_none (x ∷ xs) = refl

-- links on which no thread sends or receives
uses_none : (count link : ℕ) → replicate count unused ≡ uses_from link [] (closed_in (replicate count unused))
uses_none zero link = refl
uses_none (suc n) link = ap (λ (uses : List LinkUse). unused ∷ uses) (uses_none n (link + 1))

closed_none : (links : List LinkRow) → closed_in (replicate (length links) unused) ≡ map (λ link. false) links
closed_none [] = refl
closed_none (link ∷ links) = ap (λ (closed : List Bool). false ∷ closed) (closed_none links)

-- an isolate of which no thread has begun
nobody_keeps : (n : Numbered) (launch : Launch) (rows : List ThreadRow) (links : ℕ) → n.env.launch ≡ launch → Ranges launch.limits → n.env.links ≡ replicate links unused
    → length rows ≡ launch.limits.threads → All (IsUnused launch.limits.frames) rows → IsTask n rows 0 0 0
unfolding ended_bits
nobody_keeps n launch rows links e in_range free_links all_there all =
    let frames : n.env.launch.limits.frames ≡ launch.limits.frames = ap (λ (l : Launch). l.limits.frames) e in
    let nobody : threads_named n 0 rows ≡ [] = ap (map (thread_named n)) (take_none rows) in
    record {
      sound = All-weaker (IsUnused launch.limits.frames) (IsRow n) (λ row is. unused_is n launch.limits.frames row frames is) rows all;
      idle = rw (drop_none rows) (All-weaker (IsUnused launch.limits.frames) (IsIdle n) (λ row is. rw frames is.stack) rows all);
      most = all_there ∙ sym (ap (λ (l : Launch). l.limits.threads) e);
      few = rw e in_range.threads_most;
      frames = rw e in_range.frames_least;
      begun = omega arith;
      bits = sym (ap ended_bits (take_none rows));
      links = free_links ∙ uses_none links 0
          ∙ ap (λ (ts : List Thread). uses_from 0 ts (closed_in (replicate links unused))) (sym nobody)
          ∙ ap (λ (uses : List LinkUse). uses_from 0 (threads_named n 0 rows) (closed_in uses)) (sym free_links);
      within = omega arith;
    }

pub first_keeps : (n : Numbered) (launch : Launch) (rows : List ThreadRow) (links : ℕ) (row : ThreadRow) → n.env.launch ≡ launch → Ranges launch.limits → n.env.links ≡ replicate links unused
    → length rows ≡ launch.limits.threads → All (IsUnused launch.limits.frames) rows → IsRow n row → row.state ≡ state.Ready → IsTask n (slice_set rows 0 row) 1 0 0
first_keeps n launch rows links row e in_range free_links all_there all is begins =
    start_keeps n rows 0 0 0 row (nobody_keeps n launch rows links e in_range free_links all_there all) (omega (arith, all_there, in_range.threads_least)) is begins

-- ---- the whole, by names

abbrev begun_with : HeapState → List ℕ → Waits → Isolate
begun_with heap output waits =
    with_set_aside StackOverflowError (with_set_aside OutOfMemoryError (record { heap = heap; types = []; classes = unseen; arrays = λ shape. None; output = output; waits = waits }))

pub isolate_is : (env : Env) (first n : Numbered) (heap : HeapState) (output : List ℕ) (waits : Waits) → env.heap.state ≡ heap → env.output ≡ output → env.waits ≡ waits → named first ≡ bare env
    → named n ≡ with_set_aside StackOverflowError (with_set_aside OutOfMemoryError (named first)) → named n ≡ begun_with heap output waits
unfolding bare
isolate_is env first n heap output waits e f g h k =
    k
    ∙ ap (λ (s : Isolate). with_set_aside StackOverflowError (with_set_aside OutOfMemoryError s)) h
    ∙ ap (λ (x : HeapState). begun_with x env.output env.waits) e
    ∙ ap (λ (x : List ℕ). begun_with heap x env.waits) f
    ∙ ap (begun_with heap output) g

abbrev pub at_start : Thread
at_start = record { doing = ready; object = None; frames = bare_frame starting 0 ∷ [] }

first_named : (n : Numbered) (rows : List ThreadRow) (row : ThreadRow) → 0 < length rows → thread_named n row ≡ at_start → threads_named n 1 (slice_set rows 0 row) ≡ at_start ∷ []
first_named n rows row h e =
    more_named n 0 rows row h
    ∙ ap (λ (none : List ThreadRow). map (thread_named n) none ++ thread_named n row ∷ []) (take_none rows)
    ∙ ap (λ (t : Thread). t ∷ []) e

abbrev state_with : Isolate → Launch → List Bool → List Thread → State
state_with s launch closed threads = record {
  isolate = s;
  launch = launch;
  closed = closed;
  threads = threads;
  last = None;
  steps = 0;
  message_bytes = 0;
  uncaught = [];
  act = None;
  end = None;
}

abbrev pub heap_of : ℕ → HeapState
heap_of size = record { objects = []; monitors = []; texts = []; size = size }

abbrev begun_heap : Launch → HeapState
begun_heap launch = heap_of (launch.limits.heap + 8)

abbrev begun_waits : Launch → Waits
begun_waits launch = record { threads = launch.limits.threads; waiters = [] }

pub opened_is : (n : Numbered) (launch : Launch) (rows : List ThreadRow) (row : ThreadRow) → n.env.launch ≡ launch → n.env.links ≡ replicate (length launch.links) unused
    → named n ≡ begun_with (begun_heap launch) [] (begun_waits launch) → 0 < length rows → thread_named n row ≡ at_start
    → state_with (named n) n.env.launch (closed_in n.env.links) (threads_named n 1 (slice_set rows 0 row)) ≡ opened launch
unfolding opened
opened_is n launch rows row e links isolate h start =
    let closed : closed_in n.env.links ≡ map (λ link. false) launch.links = ap closed_in links ∙ closed_none launch.links in
    let threads = first_named n rows row h start in
    ap (λ (s : Isolate). state_with s n.env.launch (closed_in n.env.links) (threads_named n 1 (slice_set rows 0 row))) isolate
    ∙ ap (λ (l : Launch). state_with (begun_with (begun_heap launch) [] (begun_waits launch)) l (closed_in n.env.links) (threads_named n 1 (slice_set rows 0 row))) e
    ∙ ap (λ (c : List Bool). state_with (begun_with (begun_heap launch) [] (begun_waits launch)) launch c (threads_named n 1 (slice_set rows 0 row))) closed
    ∙ ap (λ (t : List Thread). state_with (begun_with (begun_heap launch) [] (begun_waits launch)) launch (map (λ link. false) launch.links) t) threads
