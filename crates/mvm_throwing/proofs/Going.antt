-- The way of a throw through the frames, frame by frame.
use Rattle.std.proofs.Common.{◌≡◌, ℕ, List, [], ◌∷◌, Bool, true, false, Option, Some, None, refl, sym, ap, ◌∙◌}
use Rattle.std.specs.Prelude.{◌≢◌, ◌==◌, not, ◌&&◌, if◌then◌else◌, IfSome, IsOk, Result, Ok, Err}
use Rattle.mvm_base.specs.Answers.{◌>>=◌}
use Rattle.mvm_frame.specs.Parts.{Rest, StackParts}
use Rattle.mvm_frame.specs.declared.key.FrameKey.{FrameKey}
use Rattle.mvm_isolate.specs.Initialise.{failed}
use Rattle.mvm_isolate.specs.Isolate.{Isolate, type_at}
use Rattle.mvm_isolate.specs.Look.{Look}
use Rattle.mvm_isolate.specs.Numbered.{Numbered, look_of, name_at, named, IsClass}
use Rattle.mvm_isolate.specs.Types.{ReferenceType}
use Rattle.mvm_isolate.specs.Sound.{Grows}
use Rattle.mvm_isolate.specs.declared.stop.Stop.{Stop}
use Rattle.mvm_locking.specs.Monitors.{released}
use Rattle.mvm_current.specs.Frames.{Runs, method, starting, initialising, Frame, LAST}
use Rattle.mvm_current.specs.Keys.{runs_bare, runs_of, runs_by, top_named, callers_named, frames_named, IsKey, AreKeys, RunsMethod}
use Rattle.mvm_current.specs.declared.key.TheConstants.{NO_METHOD}
use Rattle.mvm_current.proofs.Growth.{name_grows, runs_grow}
use Rattle.mvm_current.proofs.KeyLaws.{HasMethod, body_tells, initialiser_runs, start_runs, named_runs, method_of_key, top_key}
use Rattle.mvm_throwing.specs.Throwing.{Passing, Unwound, alone, caught, caught_or, class_failed, frame_left, handler_for, is_error, through_frame, through_initialiser, unwound, wrapped}
use Rattle.mvm_throwing.specs.Unwinding.{wraps}

-- ---- through a frame

method_passes : (look : Look) (n : Numbered) (key : FrameKey) (pc : ℕ) (x : Passing) → key.method ≢ NO_METHOD → IsKey n key → through_frame look (runs_of n key pc) pc x ≡ Ok x
method_passes look n key pc x other is = let has = method_of_key n key other is in ap (λ (r : Runs). through_frame look r pc x) (named_runs n key pc other has)

-- an object goes through the frame of a method as it is,
pub passes_method : (look : Look) (n : Numbered) (key : FrameKey) (pc object : ℕ) (s : Isolate) → key.method ≢ NO_METHOD → IsKey n key → through_frame look (runs_of n key pc) pc (object, s) ≡ Ok (object, s)
passes_method look n key pc object s other is = method_passes look n key pc (object, s) other is

-- and through that of a start
pub passes_start : (look : Look) (n : Numbered) (key : FrameKey) (pc object : ℕ) (s : Isolate) → key.method ≡ NO_METHOD → pc ≡ 0 → through_frame look (runs_of n key pc) pc (object, s) ≡ Ok (object, s)
passes_start look n key pc object s e h = ap (λ (r : Runs). through_frame look r pc (object, s)) (start_runs n key pc e h)

-- the way through the frame of an initialisation
abbrev pub through : Look → List ℕ → ℕ → Passing → Result Passing Stop
through look class stage x = through_initialiser look stage x >>= class_failed class

pub passes_initialiser : (look : Look) (n : Numbered) (key : FrameKey) (pc : ℕ) (x : Passing) → key.method ≡ NO_METHOD → pc ≢ 0 → through_frame look (runs_of n key pc) pc x ≡ through look (name_at n key.mirror) pc x
passes_initialiser look n key pc x e h = ap (λ (r : Runs). through_frame look r pc x) (initialiser_runs n key pc e h)

wraps_as : (look : Look) (n : Numbered) (key : FrameKey) (pc object : ℕ) (s : Isolate) → key.method ≡ NO_METHOD → pc ≢ 0 → wraps look (runs_of n key pc) pc (type_at s object) ≡ (pc == LAST && not (is_error look (type_at s object)))
wraps_as look n key pc object s e h = ap (λ (r : Runs). wraps look r pc (type_at s object)) (initialiser_runs n key pc e h)

-- where it is wrapped,
pub when_wrapped : (look : Look) (n : Numbered) (key : FrameKey) (pc object : ℕ) (s : Isolate) (type : Option ReferenceType) → key.method ≡ NO_METHOD → pc ≢ 0 → type ≡ type_at s object → wraps look (runs_of n key pc) pc type ≡ true → through_initialiser look pc (object, s) ≡ wrapped (object, s)
when_wrapped look n key pc object s type e h same w =
    let test : (pc == LAST && not (is_error look (type_at s object))) ≡ true = sym (wraps_as look n key pc object s e h) ∙ (rw same at w) in
    rw test refl

-- and where it is not
pub when_whole : (look : Look) (n : Numbered) (key : FrameKey) (pc object : ℕ) (s : Isolate) (type : Option ReferenceType) → key.method ≡ NO_METHOD → pc ≢ 0 → type ≡ type_at s object → wraps look (runs_of n key pc) pc type ≡ false → through_initialiser look pc (object, s) ≡ Ok (object, s)
when_whole look n key pc object s type e h same w =
    let test : (pc == LAST && not (is_error look (type_at s object))) ≡ false = sym (wraps_as look n key pc object s e h) ∙ (rw same at w) in
    rw test refl

first_ok : {A B E : Type 0} (r : Result A E) (f : A → Result B E) → IsOk (r >>= f) → IsOk r
first_ok (Ok x) f ok = refl
first_ok (Err x) f ok = ok

-- the words for that are there,
pub initialiser_ok : (look : Look) (n : Numbered) (key : FrameKey) (pc : ℕ) (x : Passing) → key.method ≡ NO_METHOD → pc ≢ 0 → IsOk (through_frame look (runs_of n key pc) pc x) → IsOk (through_initialiser look pc x)
initialiser_ok look n key pc x e h ok = first_ok (through_initialiser look pc x) (class_failed (name_at n key.mirror)) (rw (passes_initialiser look n key pc x e h) at ok)

-- and then the initialisation has failed
pub passes_on : (old mid new : Numbered) (key : FrameKey) (pc passed : ℕ) (x : Passing) → key.method ≡ NO_METHOD → pc ≢ 0 → IsClass old key.mirror → Grows old mid → through_initialiser (look_of old) pc x ≡ Ok (passed, named mid) → named new ≡ failed (name_at mid key.mirror) (named mid) → through_frame (look_of old) (runs_of old key pc) pc x ≡ Ok (passed, named new)
passes_on old mid new key pc passed x e h is grows made fails =
    passes_initialiser (look_of old) old key pc x e h ∙ rw (made, fails, name_grows old mid key.mirror grows is) refl

-- ---- a frame is left

pub left_as : (old new : Numbered) (s : StackParts) (key : FrameKey) (thread object : ℕ) → s.rest.below.key ≡ Some key → AreKeys old s → Grows old new → named new ≡ released thread key.lock (named old) → frame_left (look_of old) thread (top_named old s) (object, named old) ≡ through_frame (look_of new) (runs_of new key s.rest.pc) s.rest.pc (object, named new)
unfolding frame_left
left_as old new s key thread object e keys grows is =
    rw (e, is, runs_grow old new key s.rest.pc grows (top_key old key s.rest.below.key e keys.top), grows.files, grows.launch) refl

-- ---- a frame that catches

pub caught_as : (n : Numbered) (old new : StackParts) (handler object : ℕ) → new.rest ≡ record old.rest { pc = handler } → new.operands ≡ record old.operands { slots = alone old.operands.depth object } → RunsMethod old → top_named n new ≡ caught handler object (top_named n old)
caught_as n old new handler object e h is = body_tells n old new (ap (λ (r : Rest). r.below) e) is ∙ rw (e, h) refl
