-- Threads that begin.
use native.Mathlib.Omega.{arith}
use Rattle.std.proofs.Common.{◌≡◌, ◌<◌, refl, sym, ◌∙◌, ap}
use Rattle.std.proofs.lemmas.List.{take_more_set, length-set, drop-set-lt}
use Rattle.std.proofs.lemmas.List.Elements.{All-nil, All-set, All-drop}
use Rattle.std.specs.Prelude.{ℕ, zero, suc, ◌+◌, List, [], ◌∷◌, ◌++◌, length, take, drop, Bool, slice_set}
use Rattle.mvm_frame.specs.Parts.{StackParts, stack_with}
use Rattle.mvm_isolate.specs.Numbered.{Numbered}
use Rattle.mvm_current.specs.Keys.{frames_named, AreKeys, IsStackOf}
use Rattle.mvm_current.specs.declared.limits.TheConstants.{MOST_FRAME_WORDS}
use Rattle.mvm_object.specs.declared.state.ThreadState.TheVariants as state
use Rattle.mvm_thread.specs.State.{Thread, sends_on, receives_on, use_by, uses_from}
use Rattle.mvm_interp.proofs.Bits.{bits_behind}
use Rattle.mvm_interp.proofs.Growing.{more_named}
use Rattle.mvm_interp.proofs.Links.{first_behind, uses_same}
use Rattle.mvm_interp.specs.Names.{thread_named, threads_named, closed_in, ended_bits}
use Rattle.mvm_interp.specs.Sound.{IsRow, IsIdle, IsTask}
use Rattle.mvm_interp.specs.declared.row.ThreadRow.{ThreadRow}

-- ---- a stack that no thread has

pub idle_frames : (n : Numbered) (frames : ℕ) (s : StackParts) → s ≡ stack_with [] frames MOST_FRAME_WORDS → frames_named n s ≡ []
unfolding frames_named
idle_frames n frames s e = rw e refl

pub idle_keys : (n : Numbered) (frames : ℕ) (s : StackParts) → s ≡ stack_with [] frames MOST_FRAME_WORDS → AreKeys n s
idle_keys n frames s e = rw e (record { top = tt; callers = All-nil _ })

pub idle_limits : (n : Numbered) (s : StackParts) → s ≡ stack_with [] n.env.launch.limits.frames MOST_FRAME_WORDS → IsStackOf n.env.launch.limits s
idle_limits n s e = rw e (record { frames = refl; words = refl })

-- ---- one thread more

drop_more : {X : Type 0} (n : ℕ) (xs : List X) → drop 1 (drop n xs) ≡ drop (suc n) xs
drop_more zero [] = refl
drop_more (suc n) [] = refl
drop_more zero (x ∷ xs) = refl
drop_more (suc n) (x ∷ xs) = drop_more n xs

pub start_keeps : (n : Numbered) (rows : List ThreadRow) (count ended steps : ℕ) (next : ThreadRow) → IsTask n rows count ended steps → count < length rows → IsRow n next → next.state ≡ state.Ready
    → IsTask n (slice_set rows count next) (count + 1) ended steps
start_keeps n rows count ended steps next is more row e =
    let ts = threads_named n count rows in
    let closed = closed_in n.env.links in
    let s : count + 1 ≡ suc count = omega arith in
    let one : (link : ℕ) (c : Bool) → use_by (ts ++ thread_named n next ∷ []) link c ≡ use_by ts link c = λ link c.
    rw (first_behind (sends_on link) 0 ts (thread_named n next) (rw e refl), first_behind (receives_on link) 0 ts (thread_named n next) (rw e refl)) refl in
    record {
      sound = All-set (IsRow n) rows count next row is.sound;
      idle = rw (drop-set-lt (count + 1) rows count next (omega arith), s, ← drop_more count rows) (All-drop (IsIdle n) 1 (drop count rows) is.idle);
      most = length-set rows count next ∙ is.most;
      few = is.few;
      frames = is.frames;
      begun = rw (length-set rows count next) (omega (arith, more));
      bits = is.bits ∙ sym (bits_behind (take count rows) next (rw e refl)) ∙ sym (ap ended_bits (take_more_set rows count next more));
      links = is.links ∙ sym (uses_same 0 ts (ts ++ thread_named n next ∷ []) closed (λ link c h. one link c))
          ∙ ap (λ (us : List Thread). uses_from 0 us closed) (sym (more_named n count rows next more));
      within = is.within;
    }
