-- The frame that waits for the current one goes on with a result.
use Rattle.std.proofs.Common.{◌≡◌, ℕ, ◌+◌, ◌-◌, ◌<◌, ◌≤◌, List, [], ◌∷◌, length, true, false, Option, Some, refl, sym, ap, ◌∙◌, arith}
use Rattle.std.specs.Prelude.{nat_lt, map, is_some, IsSome, Result, Ok, Err}
use Rattle.std.proofs.lemmas.Bool.Decides.{nat_tests}
use Rattle.mvm_base.specs.Answers.{◌>>=◌}
use Rattle.mvm_base.specs.declared.value.Word.{Word}
use Rattle.mvm_base.specs.declared.value.Word.TheVariants as word
use Rattle.mvm_frame.proofs.Framed.{framed_some}
use Rattle.mvm_frame.specs.Calls.{framed, push, put_one}
use Rattle.mvm_frame.specs.Parts.{Below, Operands, Rest, StackParts, stack_with}
use Rattle.mvm_frame.specs.Parts.{Frame as KeyedFrame}
use Rattle.mvm_frame.specs.declared.refused.Refused.{Refused}
use Rattle.mvm_frame.specs.declared.slot.Slot.{Slot}
use Rattle.mvm_frame.specs.declared.slot.Slot.TheVariants as slot
use Rattle.mvm_isolate.specs.Numbered.{Numbered}
use Rattle.mvm_isolate.specs.declared.stop.Stop.{Stop}
use Rattle.mvm_current.proofs.Entering.{frames_are, left_frames, left_keys}
use Rattle.mvm_current.specs.Frames.{Frame, pushed}
use Rattle.mvm_current.specs.Keys.{frame_named, frames_named, top_named, callers_named, AreKeys}
use Rattle.mvm_current.specs.Values.{kind_of, width}
use Rattle.mvm_locking.specs.Returns.{moved_on, returned_to, with_result}

-- ---- a value that fits

less : (a d w : ℕ) → w < d - a → nat_lt (a + w) d ≡ true
less a d w h = let le : a + w < d = omega (arith, h) in grind (arith, nat_tests)

less_one : (a d : ℕ) → 1 ≤ d - a → nat_lt a d ≡ true
less_one a d h = let le : a < d = omega (arith, h) in grind (arith, nat_tests)

one_put : (s : Slot) (o : Operands) → 1 ≤ o.depth - length o.slots → put_one s o ≡ Ok (record o { slots = s ∷ o.slots })
one_put s o h = rw (less_one (length o.slots) o.depth h) refl

fits_word : (word : Word) (o : Operands) → width (kind_of word) ≤ o.depth - length o.slots → (new : Operands) × (push word o ≡ Ok new)
unfolding push
fits_word (word.Int n) o h = (record o { slots = slot.Int n ∷ o.slots }, one_put (slot.Int n) o h)
fits_word (word.Long n) o h =
    let two : 2 ≤ o.depth - length o.slots = h in (record o { slots = slot.Half ∷ slot.Long n ∷ o.slots }, rw (less (length o.slots) o.depth 1 (omega (arith, two))) refl)
fits_word (word.Ref n) o h = (record o { slots = slot.Ref n ∷ o.slots }, one_put (slot.Ref n) o h)
fits_word word.Null o h = (record o { slots = slot.Null ∷ o.slots }, one_put slot.Null o h)

pub never_over : (below : Below) (word : Word) (o : Operands) (fault : Refused) → IsSome below.key → width (kind_of word) ≤ o.depth - length o.slots → framed below (push word o) ≡ Err fault → ⊥
never_over below word o fault some h e =
    let x = fits_word word o h in
    let both : Ok x.0 ≡ Err fault = sym x.1 ∙ sym (framed_some below (push word o) some) ∙ e in absurd cc

pub put_is : (n : Numbered) (old new : StackParts) (word : Word) → IsSome old.rest.below.key → framed old.rest.below (push word old.operands) ≡ Ok new.operands → new.rest ≡ old.rest → with_result (Some word) (top_named n old) ≡ Ok (top_named n new)
unfolding pushed
put_is n old new word some e rest =
    let p : push word old.operands ≡ Ok new.operands = sym (framed_some old.rest.below (push word old.operands) some) ∙ e in rw (p, rest) refl

-- ---- once the current frame is left

abbrev left : StackParts → StackParts
left s = stack_with s.rest.below.callers s.rest.below.most s.rest.below.words

goes_by : (n : Numbered) (callers : List KeyedFrame) (most words : ℕ) (put new : StackParts) (value : Option Word) (next : Option ℕ) → IsSome (stack_with callers most words).rest.below.key → with_result value (top_named n (stack_with callers most words)) ≡ Ok (top_named n put)
    → put.rest ≡ (stack_with callers most words).rest → top_named n new ≡ moved_on next (top_named n put) → new.rest.below ≡ put.rest.below → returned_to value next (map (frame_named n) callers) ≡ Ok (frames_named n new)
unfolding returned_to callers_named
goes_by n [] most words put new value next some e rest top below = absurd cc
goes_by n (f ∷ fs) most words put new value next some e rest top below =
    let is : new.rest.below ≡ (stack_with (f ∷ fs) most words).rest.below = below ∙ ap (λ (r : Rest). r.below) rest in
    let key : new.rest.below.key ≡ Some f.key = ap (λ (b : Below). b.key) is in
    let callers : callers_named n new ≡ map (frame_named n) fs = ap (λ (b : Below). map (frame_named n) b.callers) is in
    let frames : frames_named n new ≡ moved_on next (top_named n put) ∷ map (frame_named n) fs = frames_are n new f.key key ∙ ap (λ (g : Frame). g ∷ callers_named n new) top ∙ ap (λ (gs : List Frame). moved_on next (top_named n put) ∷ gs) callers in
    let put_so : with_result value (frame_named n f) ≡ Ok (top_named n put) = e in
    ap (λ (r : Result Frame Stop). r >>= λ g. Ok (moved_on next g ∷ map (frame_named n) fs)) put_so ∙ ap Ok (sym frames)

pub goes_on : (n : Numbered) (old mid put new : StackParts) (value : Option Word) (next : Option ℕ) → mid ≡ left old → IsSome mid.rest.below.key → with_result value (top_named n mid) ≡ Ok (top_named n put)
    → put.rest ≡ mid.rest → top_named n new ≡ moved_on next (top_named n put) → new.rest.below ≡ put.rest.below → returned_to value next (callers_named n old) ≡ Ok (frames_named n new)
unfolding callers_named
goes_on n old mid put new value next is some e rest top below = goes_by n old.rest.below.callers old.rest.below.most old.rest.below.words put new value next (rw is at some) (rw is at e) (rest ∙ ap (λ (s : StackParts). s.rest) is) top below

ends_by : (n : Numbered) (callers : List KeyedFrame) (most words : ℕ) (value : Option Word) (next : Option ℕ) → is_some (stack_with callers most words).rest.below.key ≡ false → returned_to value next (map (frame_named n) callers) ≡ Ok (map (frame_named n) callers)
unfolding returned_to
ends_by n [] most words value next e = refl
ends_by n (f ∷ fs) most words value next e = absurd cc

pub ends : (n : Numbered) (old mid : StackParts) (value : Option Word) (next : Option ℕ) → mid ≡ left old → is_some mid.rest.below.key ≡ false → returned_to value next (callers_named n old) ≡ Ok (frames_named n mid)
unfolding callers_named
ends n old mid value next is none = ends_by n old.rest.below.callers old.rest.below.most old.rest.below.words value next (rw is at none) ∙ ap Ok (sym (left_frames n old mid is))

-- ---- what is kept

pub keys_here : (n : Numbered) (old mid put new : StackParts) → mid ≡ left old → put.rest ≡ mid.rest → new.rest.below ≡ put.rest.below → AreKeys n old → AreKeys n new
keys_here n old mid put new is rest below keys = rw (below, rest) (left_keys n old mid is keys)
