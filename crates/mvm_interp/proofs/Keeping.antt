-- What every task keeps, kept by each part of a step.
use native.Mathlib.Omega.{arith}
use Rattle.std.proofs.Common.{◌≡◌, ◌≤◌, ◌<◌, refl, sym, ◌∙◌, ap}
use Rattle.std.proofs.Math.Seq.{take-set-lt}
use Rattle.std.proofs.Math.Nat.{pow-le-pow_right}
use Rattle.std.proofs.lemmas.List.{length-set, drop-set-lt}
use Rattle.std.proofs.lemmas.List.Elements.{All-set}
use Rattle.std.proofs.lemmas.Option.{slice_get-map}
use Rattle.std.specs.Prelude.{◌≢◌, ℕ, ◌+◌, ◌^◌, List, length, take, drop, Bool, true, false, Option, Some, None, IfSome, slice_get, slice_set}
use Rattle.std.specs.Option.{option_map}
use Rattle.mvm_isolate.specs.Numbered.{Numbered, look_of}
use Rattle.mvm_isolate.specs.Sound.{Grows}
use Rattle.mvm_invoke.specs.Leaving.{has_bit, IsTold}
use Rattle.mvm_native.specs.declared.env.LinkUse.{LinkUse}
use Rattle.mvm_object.specs.Coming.{doing_named}
use Rattle.mvm_object.specs.declared.state.ThreadState.TheVariants as state
use Rattle.mvm_thread.specs.State.{Thread, is_outside, is_ended, uses_from}
use Rattle.mvm_thread.specs.Step.{context_of}
use Rattle.mvm_interp.proofs.Bits.{bits_few, bit_at, bit_past, bits_same, bits_one_more}
use Rattle.mvm_interp.proofs.Growing.{rows_grow, idle_grows, threads_grow, set_named, length_named, taken_length}
use Rattle.mvm_interp.proofs.Links.{uses_set, closed_linked}
use Rattle.mvm_interp.proofs.Threads.{get_taken, get_named, over_is}
use Rattle.mvm_interp.specs.Finishing.{with_bit}
use Rattle.mvm_interp.specs.Linking.{linked}
use Rattle.mvm_interp.specs.Names.{TaskParts, names, thread_named, threads_named, closed_in, ended_bits, is_over}
use Rattle.mvm_interp.specs.Sound.{IsRow, IsTask}
use Rattle.mvm_interp.specs.declared.row.ThreadRow.{ThreadRow}

-- ---- an isolate that grows

pub grown_keeps : (n new : Numbered) (rows : List ThreadRow) (count ended steps : ℕ) → IsTask n rows count ended steps → Grows n new → new.env.links ≡ n.env.links → IsTask new rows count ended steps
grown_keeps n new rows count ended steps is grows links = record {
  sound = rows_grow n new rows grows is.sound;
  idle = idle_grows n new (drop count rows) grows is.idle;
  most = rw grows.launch is.most;
  few = rw grows.launch is.few;
  frames = rw grows.launch is.frames;
  begun = is.begun;
  bits = is.bits;
  links = links ∙ is.links
      ∙ ap (λ (ts : List Thread). uses_from 0 ts (closed_in n.env.links)) (sym (threads_grow n new count rows grows is.sound))
      ∙ ap (λ (uses : List LinkUse). uses_from 0 (threads_named new count rows) (closed_in uses)) (sym links);
  within = rw grows.launch is.within;
}

-- ---- bits

pub bits_fit : (n : Numbered) (rows : List ThreadRow) (count ended steps i : ℕ) (row : ThreadRow) → IsTask n rows count ended steps → i < count → slice_get rows i ≡ Some row → is_over row.state ≡ false → ended + 2 ^ i < 2 ^ 64
bits_fit n rows count ended steps i row is below there going =
    let ending : ThreadRow = record row { state = state.Ended } in
    let e : slice_get (take count rows) i ≡ Some row = get_taken rows i count below ∙ there in
    let all = slice_set (take count rows) i ending in
    let b : ended_bits all ≡ ended_bits (take count rows) + 2 ^ i = bits_one_more (take count rows) i row ending e going refl in
    let l : length all ≡ count = length-set (take count rows) i ending ∙ taken_length count rows is.begun in
    let f : ended_bits all < 2 ^ length all = bits_few all in
    let p : 2 ^ length all ≤ 2 ^ 64 = pow-le-pow_right {n = 2} (omega arith) {i = length all} {j = 64} (omega (arith, l, is.begun, is.most, is.few)) in
    omega (arith, b, f, p, is.bits)

-- ---- an attempt

bits_by : (rows : List ThreadRow) (i : ℕ) (row next : ThreadRow) (over : Bool) → slice_get rows i ≡ Some row → is_over row.state ≡ false → is_over next.state ≡ over → with_bit (ended_bits rows) i over ≡ ended_bits (slice_set rows i next)
bits_by rows i row next true there going e = sym (bits_one_more rows i row next there going e)
bits_by rows i row next false there going e = sym (bits_same rows i row next there (e ∙ sym going))

module _ (n new : Numbered) (rows : List ThreadRow) (count ended steps i : ℕ) (row next : ThreadRow) (is : IsTask n rows count ended steps) (grows : Grows n new) (below : i < count) (there : slice_get rows i ≡ Some row) where
  set_bits : is_over row.state ≡ false → with_bit ended i (is_over next.state) ≡ ended_bits (take count (slice_set rows i next))
  set_bits going =
      let e : slice_get (take count rows) i ≡ Some row = get_taken rows i count below ∙ there in
      ap (λ (bits : ℕ). with_bit bits i (is_over next.state)) is.bits
      ∙ bits_by (take count rows) i row next (is_over next.state) e going refl
      ∙ sym (ap ended_bits (take-set-lt count rows i next below))

  set_threads : threads_named new count (slice_set rows i next) ≡ slice_set (threads_named n count rows) i (thread_named new next)
  set_threads = set_named new count i rows next below ∙ ap (λ (ts : List Thread). slice_set ts i (thread_named new next)) (threads_grow n new count rows grows is.sound)

  found : slice_get (threads_named n count rows) i ≡ Some (thread_named n row)
  found = get_named n count i rows below ∙ ap (option_map (thread_named n)) there

  set_links : is_outside (doing_named n row.state) ≡ false → new.env.links ≡ linked i next.state n.env.links → new.env.links ≡ uses_from 0 (threads_named new count (slice_set rows i next)) (closed_in new.env.links)
  set_links inside links =
      let closed : closed_in new.env.links ≡ closed_in n.env.links = ap closed_in links ∙ closed_linked i next.state n.env.links in
      let ts = threads_named n count rows in
      let uses : uses_from 0 (slice_set ts i (thread_named new next)) (closed_in n.env.links) ≡ linked i next.state (uses_from 0 ts (closed_in n.env.links)) =
      uses_set i ts (thread_named n row) (thread_named new next) found inside new next.state (closed_in n.env.links) refl in
      links ∙ ap (linked i next.state) is.links ∙ sym uses
      ∙ ap (λ (us : List Thread). uses_from 0 us (closed_in n.env.links)) (sym set_threads)
      ∙ ap (uses_from 0 (threads_named new count (slice_set rows i next))) (sym closed)

  pub attempt_keeps : is_outside (doing_named n row.state) ≡ false → is_over row.state ≡ false → IsRow new next → new.env.links ≡ linked i next.state n.env.links → steps ≢ n.env.launch.limits.steps
      → IsTask new (slice_set rows i next) count (with_bit ended i (is_over next.state)) (steps + 1)
  attempt_keeps inside going row_is links more = record {
    sound = All-set (IsRow new) rows i next row_is (rows_grow n new rows grows is.sound);
    idle = rw (drop-set-lt count rows i next below) (idle_grows n new (drop count rows) grows is.idle);
    most = length-set rows i next ∙ rw grows.launch is.most;
    few = rw grows.launch is.few;
    frames = rw grows.launch is.frames;
    begun = rw (length-set rows i next) is.begun;
    bits = set_bits going;
    links = set_links inside links;
    within = rw grows.launch (omega (arith, is.within, more));
  }

-- ---- what an attempt is told

told_bit : (n : Numbered) (rows : List ThreadRow) (other : ℕ) (row : Option ThreadRow) → slice_get rows other ≡ row → length rows ≤ 64 → is_ended (option_map (thread_named n) row) ≡ has_bit (ended_bits rows) other
told_bit n rows other (Some row) e few = over_is n row.state ∙ sym (bit_at rows other row e few)
told_bit n rows other None e few = sym (bit_past rows other e)

pub told_is : (t : TaskParts) (i : ℕ) (row : ThreadRow) → IsTask t.isolate t.rows t.count t.ended t.steps
    → IsTold (context_of (look_of t.isolate) i (thread_named t.isolate row) (names t)) t.isolate (record { thread = i; threads = t.count; ended = t.ended; object = row.object })
told_is t i row is = record {
  look = refl;
  launch = refl;
  number = refl;
  threads = length_named t.isolate t.count t.rows is.begun;
  ended = λ other.
      ap is_ended (slice_get-map (thread_named t.isolate) (take t.count t.rows) other)
      ∙ told_bit t.isolate (take t.count t.rows) other (slice_get (take t.count t.rows) other) refl (omega (arith, taken_length t.count t.rows is.begun, is.begun, is.most, is.few))
      ∙ ap (λ (bits : ℕ). has_bit bits other) (sym is.bits);
  links = sym is.links;
  object = refl;
}

pub told_found : (t : TaskParts) (i : ℕ) (row : ThreadRow) → IsTask t.isolate t.rows t.count t.ended t.steps → i < t.count → slice_get t.rows i ≡ Some row
    → IfSome (slice_get (names t).threads i) (λ was. IsTold (context_of (look_of t.isolate) i was (names t)) t.isolate (record { thread = i; threads = t.count; ended = t.ended; object = row.object }))
told_found t i row is below there =
    let e : slice_get (names t).threads i ≡ Some (thread_named t.isolate row) = get_named t.isolate t.count i t.rows below ∙ ap (option_map (thread_named t.isolate)) there in
    rw e (told_is t i row is)
