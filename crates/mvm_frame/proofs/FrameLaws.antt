-- What entering a frame does to the list of frames.
use Rattle.std.proofs.Common.{◌≡◌, ℕ, ◌+◌, ◌-◌, ◌<◌, ◌≤◌, List, [], ◌∷◌, ◌++◌, length, take, reverse, replicate, Bool, true, false, refl, arith}
use Rattle.std.specs.Prelude.{nat_lt, nat_le, ◌&&◌, if◌then◌else◌, Option, Some, None, Ok, Err}
use Rattle.std.proofs.lemmas.Bool.Decides.{nat_tests}
use Rattle.std.proofs.lemmas.Grind.{common_steps}
use Rattle.mvm_frame.specs.declared.key.FrameKey.{FrameKey}
use Rattle.mvm_frame.specs.declared.slot.Slot.{Slot}
use Rattle.mvm_frame.specs.declared.slot.Slot.TheVariants.{Unset}
use Rattle.mvm_frame.specs.declared.refused.Refused.TheVariants.{Full}
use Rattle.mvm_frame.specs.Parts.{Frame, StackParts, frames_by, frames_of, stack_with}
use Rattle.mvm_frame.specs.Calls.{enter, fits, fresh, with_frame, without, reached}

pub whole_law : (frames : List Frame) (most words : ℕ) → frames_of (stack_with frames most words) ≡ frames
whole_law [] most words = refl
whole_law (f ∷ fs) most words = refl

-- what was answered, and why
answered : (b : Bool) (x new : StackParts) → (if b then Ok x else Err Full) ≡ Ok new → (b ≡ true) × (x ≡ new)
answered true x new e = (refl, cc)
answered false x new e = absurd cc

entered : (key : FrameKey) (locals depth args : ℕ) (old new : StackParts) → enter key locals depth args old ≡ Ok new → (fits locals depth old ≡ true) × (with_frame key locals depth args old ≡ new)
unfolding enter
entered key locals depth args old new e = answered (fits locals depth old) (with_frame key locals depth args old) new e

pub entered_law : (key : FrameKey) (locals depth args : ℕ) (old new : StackParts) → enter key locals depth args old ≡ Ok new → frames_of new ≡ fresh key locals depth args old.operands.slots ∷ frames_of (without args old)
entered_law key locals depth args old new e = let h = (entered key locals depth args old new e).1 in rw (← h) refl

pub both : (a b : Bool) → (a && b) ≡ true → (a ≡ true) × (b ≡ true)
both true b e = (refl, e)
both false b e = absurd cc

as_many : (key : Option FrameKey) (n : ℕ) (s : StackParts) → length (frames_by key (without n s)) ≡ length (frames_by key s)
as_many None n s = refl
as_many (Some key) n s = refl

as_wide : (key : Option FrameKey) (n : ℕ) (s : StackParts) → reached (frames_by key (without n s)) ≡ reached (frames_by key s)
as_wide None n s = refl
as_wide (Some key) n s = refl

locals_are : (n locals : ℕ) (slots : List Slot) → n ≤ locals → length (reverse (take n slots) ++ replicate (locals - n) Unset) ≤ locals
locals_are n locals slots h = grind (arith, common_steps)

pub limits_law : (key : FrameKey) (locals depth args : ℕ) (old new : StackParts) → args ≤ locals → enter key locals depth args old ≡ Ok new → (length (frames_of new) ≤ new.rest.below.most) × (reached (frames_of new) ≤ new.rest.below.words)
limits_law key locals depth args old new few e =
    let h = entered key locals depth args old new e in
    let tests = both (nat_lt (length (frames_of old)) old.rest.below.most) (nat_le (reached (frames_of old) + locals + depth) old.rest.below.words) h.0 in
    let one : length (frames_of old) < old.rest.below.most = grind (arith, nat_tests, tests.0) in
    let two : reached (frames_of old) + locals + depth ≤ old.rest.below.words = grind (arith, nat_tests, tests.1) in
    let count = as_many old.rest.below.key args old in
    let width = as_wide old.rest.below.key args old in
    let size = locals_are args locals old.operands.slots few in
    rw (← h.1) (omega (arith, one, count), omega (arith, two, width, size))
