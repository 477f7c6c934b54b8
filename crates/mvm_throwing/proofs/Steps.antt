-- One frame of the way of a throw, of a stack in memory.
use Rattle.std.proofs.Common.{◌≡◌, ℕ, ◌<◌, ◌≤◌, List, [], ◌∷◌, length, Bool, true, false, Option, Some, None, refl, sym, ap, ◌∙◌, arith}
use Rattle.std.specs.Prelude.{◌≢◌, ◌+◌, IfSome, IsOk, map, Result, Ok, Err}
use Rattle.mvm_base.specs.Answers.{◌>>=◌}
use Rattle.mvm_frame.specs.Parts.{Below, StackParts, frames_of}
use Rattle.mvm_frame.specs.declared.key.FrameKey.{FrameKey}
use Rattle.mvm_isolate.specs.Isolate.{Isolate, type_at}
use Rattle.mvm_isolate.specs.Look.{Look}
use Rattle.mvm_isolate.specs.Numbered.{Numbered, look_of, named}
use Rattle.mvm_isolate.specs.Sound.{Grows}
use Rattle.mvm_isolate.specs.Types.{ReferenceType}
use Rattle.mvm_isolate.specs.declared.stop.Stop.{Stop}
use Rattle.mvm_current.specs.Frames.{Runs, Frame}
use Rattle.mvm_current.specs.Keys.{callers_named, frame_named, frames_named, runs_by, runs_of, top_named, RunsMethod}
use Rattle.mvm_current.specs.declared.key.TheConstants.{NO_METHOD}
use Rattle.mvm_current.proofs.Entering.{frames_are}
use Rattle.mvm_throwing.specs.Throwing.{Passing, Unwound, caught, caught_or, frame_left, handler_for, unwound}
use Rattle.mvm_throwing.proofs.Handled.{no_handler}

-- ---- over the definition alone

frame_catches : (look : Look) (thread handler object : ℕ) (f : Frame) (fs : List Frame) (s : Isolate) → handler_for look f.runs f.body.pc (type_at s object) ≡ Some handler → unwound look thread (f ∷ fs) (object, s) ≡ Ok (record { isolate = s; object = object; frames = caught handler object f ∷ fs })
unfolding unwound
frame_catches look thread handler object f fs s e = rw e refl

frame_goes : (look : Look) (thread object : ℕ) (f : Frame) (fs : List Frame) (s : Isolate) → handler_for look f.runs f.body.pc (type_at s object) ≡ None → unwound look thread (f ∷ fs) (object, s) ≡ (frame_left look thread f (object, s) >>= unwound look thread fs)
unfolding unwound
frame_goes look thread object f fs s e = rw e refl

none_goes : (look : Look) (thread object : ℕ) (s : Isolate) → unwound look thread [] (object, s) ≡ Ok (record { isolate = s; object = object; frames = [] })
unfolding unwound
none_goes look thread object s = refl

first_ok : {A B E : Type 0} (r : Result A E) (f : A → Result B E) → IsOk (r >>= f) → IsOk r
first_ok (Ok x) f ok = refl
first_ok (Err x) f ok = ok

-- ---- the current frame of a stack

-- what the current frame does with an object of this type
abbrev Handles : Numbered → FrameKey → ℕ → Option ReferenceType → Option ℕ → Type 0
Handles n key pc type handler = handler ≡ handler_for (look_of n) (runs_of n key pc) pc type

handler_of_top : (n : Numbered) (s : StackParts) (key : FrameKey) (object pc : ℕ) (type : Option ReferenceType) (handler : Option ℕ) → s.rest.below.key ≡ Some key → pc ≡ s.rest.pc → type ≡ type_at (named n) object → Handles n key pc type handler → handler_for (look_of n) (top_named n s).runs s.rest.pc (type_at (named n) object) ≡ handler
handler_of_top n s key object pc type handler e at is handles =
    ap (λ (r : Option FrameKey). handler_for (look_of n) (runs_by n r s.rest.pc) s.rest.pc (type_at (named n) object)) e
    ∙ sym (handles ∙ rw (at, is) refl)

-- a frame that has a handler runs a method
pub runs_method : (n : Numbered) (s : StackParts) (key : FrameKey) (pc handler : ℕ) (type : Option ReferenceType) → s.rest.below.key ≡ Some key → Handles n key pc type (Some handler) → RunsMethod s
runs_method n s key pc handler type e handles = rw e other
  where
    other : key.method ≢ NO_METHOD
    other bare = absurd (let k : None ≡ Some handler = no_handler n key pc (look_of n) type bare ∙ sym handles in cc)

callers_same : (n : Numbered) (s new : StackParts) → new.rest.below ≡ s.rest.below → callers_named n new ≡ callers_named n s
unfolding callers_named
callers_same n s new e = ap (λ (b : Below). map (frame_named n) b.callers) e

-- it catches
pub caught_step : (n : Numbered) (s new : StackParts) (key : FrameKey) (thread object handler pc : ℕ) (type : Option ReferenceType) → s.rest.below.key ≡ Some key → pc ≡ s.rest.pc → type ≡ type_at (named n) object → Handles n key pc type (Some handler) → top_named n new ≡ caught handler object (top_named n s) → new.rest.below ≡ s.rest.below → unwound (look_of n) thread (frames_named n s) (object, named n) ≡ Ok (record { isolate = named n; object = object; frames = frames_named n new })
caught_step n s new key thread object handler pc type e at is handles top below =
    let frames : frames_named n new ≡ caught handler object (top_named n s) ∷ callers_named n s = frames_are n new key (ap (λ (b : Below). b.key) below ∙ e) ∙ rw (top, callers_same n s new below) refl in
    rw (frames_are n s key e, frames)
    (frame_catches (look_of n) thread handler object (top_named n s) (callers_named n s) (named n) (handler_of_top n s key object pc type (Some handler) e at is handles))

-- it is left,
top_goes : (n : Numbered) (s : StackParts) (key : FrameKey) (thread object pc : ℕ) (type : Option ReferenceType) → s.rest.below.key ≡ Some key → pc ≡ s.rest.pc → type ≡ type_at (named n) object → Handles n key pc type None → unwound (look_of n) thread (frames_named n s) (object, named n) ≡ (frame_left (look_of n) thread (top_named n s) (object, named n) >>= unwound (look_of n) thread (callers_named n s))
top_goes n s key thread object pc type e at is handles =
    rw (frames_are n s key e)
    (frame_goes (look_of n) thread object (top_named n s) (callers_named n s) (named n) (handler_of_top n s key object pc type None e at is handles))

-- for which the words are there,
pub left_ok : (n : Numbered) (s : StackParts) (key : FrameKey) (thread object pc : ℕ) (type : Option ReferenceType) (all : Result Unwound Stop) → s.rest.below.key ≡ Some key → pc ≡ s.rest.pc → type ≡ type_at (named n) object → Handles n key pc type None → unwound (look_of n) thread (frames_named n s) (object, named n) ≡ all → IsOk all → IsOk (frame_left (look_of n) thread (top_named n s) (object, named n))
left_ok n s key thread object pc type all e at is handles same ok =
    let going : IsOk (unwound (look_of n) thread (frames_named n s) (object, named n)) = rw (sym same) at ok in
    first_ok (frame_left (look_of n) thread (top_named n s) (object, named n)) (unwound (look_of n) thread (callers_named n s)) (rw (top_goes n s key thread object pc type e at is handles) at going)

-- and the way goes on
pub left_step : (old new : Numbered) (s rest : StackParts) (key : FrameKey) (thread object passed pc : ℕ) (type : Option ReferenceType) (all : Result Unwound Stop) → s.rest.below.key ≡ Some key → pc ≡ s.rest.pc → type ≡ type_at (named old) object → Handles old key pc type None → frame_left (look_of old) thread (top_named old s) (object, named old) ≡ Ok (passed, named new) → frames_named new rest ≡ callers_named old s → Grows old new → unwound (look_of old) thread (frames_named old s) (object, named old) ≡ all → unwound (look_of new) thread (frames_named new rest) (passed, named new) ≡ all
left_step old new s rest key thread object passed pc type all e at is handles left frames grows same =
    let looks : look_of new ≡ look_of old = rw (grows.files, grows.launch) refl in
    rw (frames, looks) (sym (top_goes old s key thread object pc type e at is handles ∙ rw left refl) ∙ same)

-- it has fewer frames
pub fewer : (old new : Numbered) (s rest : StackParts) (key : FrameKey) → s.rest.below.key ≡ Some key → frames_named new rest ≡ callers_named old s → length (frames_named new rest) < length (frames_named old s)
fewer old new s rest key e frames = rw (frames, frames_are old s key e) (omega arith)

-- no frame is left
pub no_frames : (n : Numbered) (s : StackParts) → s.rest.below.key ≡ None → frames_named n s ≡ []
unfolding frames_named
no_frames n s e = rw e refl

pub end_step : (n : Numbered) (s : StackParts) (thread object : ℕ) → s.rest.below.key ≡ None → unwound (look_of n) thread (frames_named n s) (object, named n) ≡ Ok (record { isolate = named n; object = object; frames = frames_named n s })
end_step n s thread object e = rw (no_frames n s e) (none_goes (look_of n) thread object (named n))
