-- The list of frames after each call, from the clauses of the call. The premise `frames_of old ≡ f ∷ fs` says which frames
-- there were before it.
use Rattle.std.proofs.Common.{◌≡◌, ℕ, zero, suc, ◌+◌, ◌-◌, ◌≤◌, List, [], ◌∷◌, length, drop, replicate, refl, sym, ap, ◌∙◌, subst, arith}
use Rattle.std.specs.Prelude.{true, ◌&&◌, nat_lt, nat_le, slice_get, option_map, Option, Some, None, Result, Ok}
use Rattle.std.proofs.lemmas.Bool.Decides.{nat_tests}
use Rattle.std.proofs.lemmas.List.{length-replicate}
use Rattle.mvm_base.specs.declared.value.Word.TheVariants as word
use Rattle.mvm_frame.specs.declared.key.FrameKey.{FrameKey}
use Rattle.mvm_frame.specs.declared.slot.Slot.{Slot}
use Rattle.mvm_frame.specs.declared.slot.Slot.TheVariants.{Unset, Ref}
use Rattle.mvm_frame.specs.declared.refused.Refused.{Refused}
use Rattle.mvm_frame.specs.Parts.{Operands, Frame, StackParts, frames_by, frames_of, stack_with}
use Rattle.mvm_frame.specs.Calls.{enter, fits, fresh, unset_frame, place_of, without, reach, reached, framed, freed, store}
use Rattle.mvm_frame.proofs.FrameLaws.{whole_law, entered_law, both}

listed_by : (key : Option FrameKey) (s : StackParts) (f : Frame) (fs : List Frame) → s.rest.below.key ≡ key → frames_by key s ≡ f ∷ fs → s ≡ stack_with (f ∷ fs) s.rest.below.most s.rest.below.words
listed_by None s f fs k e = absurd cc
listed_by (Some key) s f fs k e = subst (λ (xs : List Frame). s ≡ stack_with xs s.rest.below.most s.rest.below.words) e (rw (← k) refl)

-- a stack with a frame is the stack made of its frames
pub listed : (s : StackParts) (f : Frame) (fs : List Frame) → frames_of s ≡ f ∷ fs → s ≡ stack_with (f ∷ fs) s.rest.below.most s.rest.below.words
listed s f fs e = listed_by s.rest.below.key s f fs refl e

pub key_is : (s : StackParts) (f : Frame) (fs : List Frame) → frames_of s ≡ f ∷ fs → s.rest.below.key ≡ Some f.key
key_is s f fs e = ap (λ (x : StackParts). x.rest.below.key) (listed s f fs e)

pub callers_are : (s : StackParts) (f : Frame) (fs : List Frame) → frames_of s ≡ f ∷ fs → s.rest.below.callers ≡ fs
callers_are s f fs e = ap (λ (x : StackParts). x.rest.below.callers) (listed s f fs e)

pub operands_are : (s : StackParts) (f : Frame) (fs : List Frame) → frames_of s ≡ f ∷ fs → s.operands ≡ f.operands
operands_are s f fs e = ap (λ (x : StackParts). x.operands) (listed s f fs e)

pub locals_of-frames : (s : StackParts) (f : Frame) (fs : List Frame) → frames_of s ≡ f ∷ fs → s.rest.locals ≡ f.locals
locals_of-frames s f fs e = ap (λ (x : StackParts). x.rest.locals) (listed s f fs e)

-- with a frame no call is refused for want of one
pub framed_here : {A : Type 0} (s : StackParts) (f : Frame) (fs : List Frame) (r : Result A Refused) → frames_of s ≡ f ∷ fs → framed s.rest.below r ≡ r
unfolding framed
framed_here s f fs r e = rw (key_is s f fs e) refl

-- so what a call on the operands answers is what its definition gives for the top frame
pub answered_here : {A : Type 0} (s : StackParts) (f : Frame) (fs : List Frame) (call : Operands → Result A Refused) (answer : Result A Refused) → frames_of s ≡ f ∷ fs → framed s.rest.below (call s.operands) ≡ answer → call f.operands ≡ answer
answered_here s f fs call answer e h = ap call (sym (operands_are s f fs e)) ∙ sym (framed_here s f fs (call s.operands) e) ∙ h

-- `caller` tells of the frames below the top one
pub callers-frames : (s : StackParts) (f : Frame) (fs : List Frame) (at : ℕ) → frames_of s ≡ f ∷ fs → option_map place_of (slice_get s.rest.below.callers at) ≡ option_map place_of (slice_get (frames_of s) (suc at))
callers-frames s f fs at e = rw (e, callers_are s f fs e) refl

-- ---- the top frame alone is changed

-- `push`, `pop`, `shuffle`, `clear` and `drop_slots`
pub frames_of-operands : (old new : StackParts) (f : Frame) (fs : List Frame) → frames_of old ≡ f ∷ fs → new.rest ≡ old.rest → frames_of new ≡ record f { operands = new.operands } ∷ fs
frames_of-operands old new f fs e same = rw (same ∙ ap (λ (x : StackParts). x.rest) (listed old f fs e)) refl

-- `set_pc`
pub frames_of-set_pc : (old new : StackParts) (f : Frame) (fs : List Frame) (pc : ℕ) → frames_of old ≡ f ∷ fs → new.operands ≡ old.operands → new.rest ≡ record old.rest { pc = pc } → frames_of new ≡ record f { pc = pc } ∷ fs
frames_of-set_pc old new f fs pc e same set = rw (set, same, listed old f fs e) refl

-- `store`
pub frames_of-store : (old new : StackParts) (f : Frame) (fs : List Frame) (locals : List Slot) → frames_of old ≡ f ∷ fs → new.operands ≡ old.operands → new.rest ≡ record old.rest { locals = locals } → frames_of new ≡ record f { locals = locals } ∷ fs
frames_of-store old new f fs locals e same set = rw (set, same, listed old f fs e) refl

-- ---- a frame goes, and a frame comes

pub frames_of-leave : (old new : StackParts) (f : Frame) (fs : List Frame) → frames_of old ≡ f ∷ fs → new ≡ stack_with old.rest.below.callers old.rest.below.most old.rest.below.words → frames_of new ≡ fs
frames_of-leave old new f fs e left = rw left (whole_law old.rest.below.callers old.rest.below.most old.rest.below.words ∙ callers_are old f fs e)

fresh_unset : (key : FrameKey) (locals depth : ℕ) (slots : List Slot) → fresh key locals depth 0 slots ≡ unset_frame key locals depth
fresh_unset key locals depth slots = let e : locals - 0 ≡ locals = omega arith in rw e refl

without_none : (s : StackParts) → without 0 s ≡ s
without_none s = refl

pub frames_of-enter : (key : FrameKey) (locals depth : ℕ) (old new : StackParts) → enter key locals depth 0 old ≡ Ok new → frames_of new ≡ unset_frame key locals depth ∷ frames_of old
frames_of-enter key locals depth old new e = entered_law key locals depth 0 old new e ∙ rw (fresh_unset key locals depth old.operands.slots, without_none old) refl

pub frames_of-enter_with : (key : FrameKey) (locals depth args : ℕ) (old new : StackParts) (f : Frame) (fs : List Frame) → frames_of old ≡ f ∷ fs → enter key locals depth args old ≡ Ok new
    → frames_of new ≡ fresh key locals depth args f.operands.slots ∷ record f { operands = record f.operands { slots = drop args f.operands.slots } } ∷ fs
frames_of-enter_with key locals depth args old new f fs e entered = entered_law key locals depth args old new entered ∙ rw (listed old f fs e) refl

-- a frame in the place of the top one, by `leave` and then `enter`
pub frames_of-replaced : (key : FrameKey) (locals depth : ℕ) (old left new : StackParts) (f : Frame) (fs : List Frame) → frames_of old ≡ f ∷ fs
    → left ≡ stack_with old.rest.below.callers old.rest.below.most old.rest.below.words → enter key locals depth 0 left ≡ Ok new → frames_of new ≡ unset_frame key locals depth ∷ fs
frames_of-replaced key locals depth old left new f fs e gone entered = frames_of-enter key locals depth left new entered ∙ ap (λ (xs : List Frame). unset_frame key locals depth ∷ xs) (frames_of-leave old left f fs e gone)

most_of : (fs : List Frame) (most words : ℕ) → (stack_with fs most words).rest.below.most ≡ most
most_of [] most words = refl
most_of (f ∷ fs) most words = refl

words_of : (fs : List Frame) (most words : ℕ) → (stack_with fs most words).rest.below.words ≡ words
words_of [] most words = refl
words_of (f ∷ fs) most words = refl

fits_by : (locals depth : ℕ) (s : StackParts) (fs : List Frame) (most words : ℕ) → frames_of s ≡ fs → s.rest.below.most ≡ most → s.rest.below.words ≡ words → fits locals depth s ≡ (nat_lt (length fs) most && nat_le (reached fs + locals + depth) words)
fits_by locals depth s fs most words e m w = rw (e, m, w) refl

fits_left : (locals depth : ℕ) (old left : StackParts) (f : Frame) (fs : List Frame) → frames_of old ≡ f ∷ fs → left ≡ stack_with old.rest.below.callers old.rest.below.most old.rest.below.words
    → fits locals depth left ≡ (nat_lt (length fs) old.rest.below.most && nat_le (reached fs + locals + depth) old.rest.below.words)
fits_left locals depth old left f fs e gone =
    let b = old.rest.below in
    let m : left.rest.below.most ≡ b.most = ap (λ (x : StackParts). x.rest.below.most) gone ∙ most_of b.callers b.most b.words in
    let w : left.rest.below.words ≡ b.words = ap (λ (x : StackParts). x.rest.below.words) gone ∙ words_of b.callers b.most b.words in
    fits_by locals depth left fs b.most b.words (frames_of-leave old left f fs e gone) m w

-- what fits on top of a frame fits in its place
pub fits-leave : (locals depth : ℕ) (old left : StackParts) (f : Frame) (fs : List Frame) → frames_of old ≡ f ∷ fs
    → left ≡ stack_with old.rest.below.callers old.rest.below.most old.rest.below.words → fits locals depth old ≡ true → fits locals depth left ≡ true
fits-leave locals depth old left f fs e gone room =
    let b = old.rest.below in
    let tests = both (nat_lt (length (f ∷ fs)) b.most) (nat_le (reached (f ∷ fs) + locals + depth) b.words) (sym (fits_by locals depth old (f ∷ fs) b.most b.words e refl refl) ∙ room) in
    let one : nat_lt (length fs) b.most ≡ true = grind (arith, nat_tests, tests.0) in
    let two : nat_le (reached fs + locals + depth) b.words ≡ true = grind (arith, nat_tests, tests.1) in
    rw (fits_left locals depth old left f fs e gone, one, two) refl

-- where one frame stands alone and takes no word, as a start frame does, and two frames may be, the same fits on top of it and in its place
pub fits-leave_first : (locals depth : ℕ) (old left : StackParts) (f : Frame) → frames_of old ≡ f ∷ [] → reach f ≡ 0 → 2 ≤ old.rest.below.most
    → left ≡ stack_with old.rest.below.callers old.rest.below.most old.rest.below.words → fits locals depth left ≡ fits locals depth old
fits-leave_first locals depth old left f e none two gone =
    let b = old.rest.below in
    let a : nat_lt 0 b.most ≡ true = grind (arith, nat_tests) in
    let d : nat_lt 1 b.most ≡ true = grind (arith, nat_tests) in
    rw (fits_left locals depth old left f [] e gone, fits_by locals depth old (f ∷ []) b.most b.words e refl refl, none, a, d) refl

-- ---- a frame whose arguments come from outside

-- the first local variable of a frame whose local variables are unset is set to an object
pub store-unset : (locals object : ℕ) → 1 ≤ locals → store 0 (word.Ref object) (replicate locals Unset) ≡ Ok (Ref object ∷ replicate (locals - 1) Unset)
unfolding store freed
store-unset zero object some = absurd (omega arith)
store-unset (suc n) object some =
    let e : suc n - 1 ≡ n = omega arith in
    let l = length-replicate (suc n) Unset in
    let lt : nat_lt 0 (length (replicate (suc n) Unset)) ≡ true = grind (arith, nat_tests, l) in
    rw (e, lt) refl

-- the same by the clauses of `store`, after `enter`
pub frames_of-store-unset : (key : FrameKey) (locals depth object : ℕ) (old new : StackParts) (fs : List Frame) → frames_of old ≡ unset_frame key locals depth ∷ fs → 1 ≤ locals
    → new.operands ≡ old.operands → new.rest ≡ record old.rest { locals = new.rest.locals } → framed old.rest.below (store 0 (word.Ref object) old.rest.locals) ≡ Ok new.rest.locals
    → frames_of new ≡ record (unset_frame key locals depth) { locals = Ref object ∷ replicate (locals - 1) Unset } ∷ fs
frames_of-store-unset key locals depth object old new fs e some same set does =
    let f = unset_frame key locals depth in
    let here : store 0 (word.Ref object) old.rest.locals ≡ Ok new.rest.locals = sym (framed_here old f fs (store 0 (word.Ref object) old.rest.locals) e) ∙ does in
    let unset : store 0 (word.Ref object) old.rest.locals ≡ Ok (Ref object ∷ replicate (locals - 1) Unset) = rw (locals_of-frames old f fs e) (store-unset locals object some) in
    let is : new.rest.locals ≡ Ref object ∷ replicate (locals - 1) Unset = cc in
    frames_of-store old new f fs new.rest.locals e same set ∙ rw is refl
