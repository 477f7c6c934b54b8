-- The object on top of the operands, where it is taken off.
use Rattle.std.proofs.Common.{◌≡◌, ℕ, ◌≤◌, List, [], ◌∷◌, length, drop, refl, arith}
use Rattle.std.specs.Prelude.{Result, Ok}
use Rattle.mvm_base.specs.Answers.{◌>>=◌}
use Rattle.mvm_base.specs.declared.value.Kind.TheVariants as kind
use Rattle.mvm_base.specs.declared.value.Word.{Word}
use Rattle.mvm_base.specs.declared.value.Word.TheVariants as word
use Rattle.mvm_frame.specs.Calls.{pop, pop_one, a_ref}
use Rattle.mvm_frame.specs.Parts.{StackParts}
use Rattle.mvm_frame.specs.declared.slot.Slot.{Slot}
use Rattle.mvm_frame.specs.declared.slot.Slot.TheVariants as slot
use Rattle.mvm_isolate.specs.Numbered.{Numbered}
use Rattle.mvm_isolate.specs.declared.stop.Stop.{Stop}
use Rattle.mvm_current.specs.Frames.{Frame, popped, verified, with_operands, without}
use Rattle.mvm_current.specs.Keys.{top_named}
use Rattle.mvm_current.specs.Values.{not_null}
use Rattle.mvm_object.specs.Objects.{top_object, value_of}

-- a reference is popped from these slots
abbrev popped_from : Frame → List Slot → Result (Word × Frame) Stop
popped_from f slots = verified (pop_one a_ref f.body.operands.depth slots) >>= λ x. Ok (x.0, with_operands x.1 f)

off_by : (f : Frame) (slots : List Slot) (object : ℕ) → (value_of (popped_from f slots) >>= not_null) ≡ Ok object → popped_from f slots ≡ Ok (word.Ref object, with_operands (record { depth = f.body.operands.depth; slots = drop 1 slots }) f)
off_by f [] object e = absurd cc
off_by f (slot.Ref n ∷ slots) object e = let same : n ≡ object = cc in rw same refl
off_by f (slot.Null ∷ slots) object e = absurd cc
off_by f (slot.Unset ∷ slots) object e = absurd cc
off_by f (slot.Half ∷ slots) object e = absurd cc
off_by f (slot.Int n ∷ slots) object e = absurd cc
off_by f (slot.Long n ∷ slots) object e = absurd cc

there_by : (f : Frame) (slots : List Slot) (object : ℕ) → (value_of (popped_from f slots) >>= not_null) ≡ Ok object → 1 ≤ length slots
there_by f [] object e = absurd cc
there_by f (s ∷ slots) object e = omega arith

pub top_off : (f : Frame) (object : ℕ) → top_object f ≡ Ok object → popped kind.Ref f ≡ Ok (word.Ref object, without 1 f)
unfolding popped pop
top_off f object e = off_by f f.body.operands.slots object e

pub top_there : (f : Frame) (object : ℕ) → top_object f ≡ Ok object → 1 ≤ length f.body.operands.slots
unfolding popped pop
top_there f object e = there_by f f.body.operands.slots object e

-- so many operands less
pub dropped : (n : Numbered) (count : ℕ) (old new : StackParts) → new.operands ≡ record old.operands { slots = drop count old.operands.slots } → new.rest ≡ old.rest → top_named n new ≡ without count (top_named n old)
dropped n count old new e h = rw (e, h) refl
