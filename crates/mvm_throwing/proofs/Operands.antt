-- Of the operands of the current frame only the depth matters to a throw.
use Rattle.std.proofs.Common.{◌≡◌, ℕ, List, [], ◌∷◌, Option, Some, None, refl, sym, ap, ◌∙◌}
use Rattle.std.specs.Prelude.{IsSome, map, Result, Ok, Err}
use Rattle.mvm_base.specs.Answers.{◌>>=◌}
use Rattle.mvm_frame.specs.Parts.{Below, Operands, Rest, StackParts}
use Rattle.mvm_frame.specs.declared.key.FrameKey.{FrameKey}
use Rattle.mvm_frame.specs.declared.slot.Slot.{Slot}
use Rattle.mvm_native.specs.declared.out.Thrown.TheVariants.{OutOfMemoryError}
use Rattle.mvm_isolate.specs.Isolate.{Isolate, type_at}
use Rattle.mvm_isolate.specs.Look.{Look}
use Rattle.mvm_isolate.specs.Numbered.{Numbered}
use Rattle.mvm_isolate.specs.declared.stop.Stop.{Stop}
use Rattle.mvm_isolate.specs.declared.stop.Stop.TheVariants as stop
use Rattle.mvm_current.specs.Frames.{Runs, Frame}
use Rattle.mvm_current.specs.Keys.{callers_named, frame_named, frames_named, lock_by, runs_by, top_named}
use Rattle.mvm_current.proofs.Entering.{frames_are}
use Rattle.mvm_throwing.specs.Throwing.{Passing, Unwound, caught_or, frame_left, handler_for, or_words_missing, throw, throwing, thrown_object, unwound}

abbrev with_slots : List Slot → Frame → Frame
with_slots slots f = record f { body = record f.body { operands = record f.body.operands { slots = slots } } }

caught_same : (handler : Option ℕ) (slots : List Slot) (f : Frame) (fs : List Frame) (x : Passing) (others : Result Unwound Stop) → caught_or handler (with_slots slots f) fs x others ≡ caught_or handler f fs x others
caught_same (Some handler) slots f fs x others = refl
caught_same None slots f fs x others = refl

unwound_same : (look : Look) (thread : ℕ) (slots : List Slot) (f : Frame) (fs : List Frame) (x : Passing) → unwound look thread (with_slots slots f ∷ fs) x ≡ unwound look thread (f ∷ fs) x
unfolding unwound frame_left
unwound_same look thread slots f fs x = caught_same (handler_for look f.runs f.body.pc (type_at x.1 x.0)) slots f fs x (frame_left look thread f x >>= unwound look thread fs)

bind_same : {A B E : Type 0} (r : Result A E) (f g : A → Result B E) → ((x : A) → f x ≡ g x) → (r >>= f) ≡ (r >>= g)
bind_same (Ok x) f g same = same x
bind_same (Err x) f g same = refl

throwing_same : (look : Look) (thread : ℕ) (why : Stop) (s : Isolate) (slots : List Slot) (f : Frame) (fs : List Frame) → throwing look thread why s (with_slots slots f ∷ fs) ≡ throwing look thread why s (f ∷ fs)
unfolding throwing
throwing_same look thread why s slots f fs = bind_same (thrown_object why s) (unwound look thread (with_slots slots f ∷ fs)) (unwound look thread (f ∷ fs)) (unwound_same look thread slots f fs)

throw_same : (look : Look) (thread : ℕ) (why : Stop) (s : Isolate) (slots : List Slot) (f : Frame) (fs : List Frame) → throw look thread why s (with_slots slots f ∷ fs) ≡ throw look thread why s (f ∷ fs)
unfolding throw
throw_same look thread why s slots f fs = rw (throwing_same look thread why s slots f fs, throwing_same look thread (stop.Throw OutOfMemoryError) s slots f fs) refl

-- ---- stacks

abbrev top_by : Numbered → Rest → Operands → Frame
top_by n rest operands = record { runs = runs_by n rest.below.key rest.pc; lock = lock_by rest.below.key; body = record { pc = rest.pc; locals = rest.locals; operands = operands } }

abbrev frames_by : Numbered → Rest → Operands → List Frame
frames_by n rest operands = top_by n rest operands ∷ map (frame_named n) rest.below.callers

frames_as : (n : Numbered) (s : StackParts) (key : FrameKey) → s.rest.below.key ≡ Some key → frames_named n s ≡ frames_by n s.rest s.operands
unfolding callers_named
frames_as n s key e = frames_are n s key e

throw_by : (n : Numbered) (old new : StackParts) (look : Look) (thread : ℕ) (why : Stop) (s : Isolate) (key : FrameKey) → old.rest.below.key ≡ Some key → new.rest ≡ old.rest → new.operands.depth ≡ old.operands.depth → throw look thread why s (frames_named n new) ≡ throw look thread why s (frames_named n old)
throw_by n old new look thread why s key e rest depth =
    let operands : new.operands ≡ record old.operands { slots = new.operands.slots } = ap (λ (d : ℕ). record new.operands { depth = d }) depth in
    let frames : frames_named n new ≡ with_slots new.operands.slots (top_by n old.rest old.operands) ∷ map (frame_named n) old.rest.below.callers =
    frames_as n new key (ap (λ (r : Rest). r.below.key) rest ∙ e) ∙ ap (λ (r : Rest). frames_by n r new.operands) rest ∙ ap (frames_by n old.rest) operands in
    ap (throw look thread why s) frames
    ∙ throw_same look thread why s new.operands.slots (top_by n old.rest old.operands) (map (frame_named n) old.rest.below.callers)
    ∙ sym (ap (throw look thread why s) (frames_as n old key e))

key_there : (k : Option FrameKey) → IsSome k → (key : FrameKey) × (k ≡ Some key)
key_there (Some key) is = (key, refl)
key_there None is = absurd cc

pub same_operands : (n : Numbered) (old new : StackParts) (look : Look) (thread : ℕ) (why : Stop) (s : Isolate) → IsSome old.rest.below.key → new.rest ≡ old.rest → new.operands.depth ≡ old.operands.depth → throw look thread why s (frames_named n new) ≡ throw look thread why s (frames_named n old)
same_operands n old new look thread why s is rest depth = let key = key_there old.rest.below.key is in throw_by n old new look thread why s key.0 key.1 rest depth
