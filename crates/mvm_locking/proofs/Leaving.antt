-- What a return leaves, of its steps.
use Rattle.std.proofs.Common.{◌≡◌, ℕ, List, [], ◌∷◌, Option, Some, None, refl, sym, ap, ◌∙◌}
use Rattle.std.specs.Prelude.{OnOk, Result, Ok, Err}
use Rattle.std.specs.Option.{option_map}
use Rattle.mvm_base.specs.Answers.{◌>>=◌, Does}
use Rattle.mvm_base.specs.declared.value.Kind.{Kind}
use Rattle.mvm_base.specs.declared.value.Kind.TheVariants as kind
use Rattle.mvm_base.specs.declared.value.Word.{Word}
use Rattle.mvm_base.specs.declared.value.Word.TheVariants as word
use Rattle.mvm_frame.specs.Calls.{pop, pop_one, pop_two, an_int, a_ref, room_of}
use Rattle.mvm_frame.specs.Parts.{StackParts}
use Rattle.mvm_frame.specs.declared.slot.Slot.{Slot}
use Rattle.mvm_frame.specs.declared.slot.Slot.TheVariants as slot
use Rattle.mvm_isolate.specs.Numbered.{Numbered, named}
use Rattle.mvm_isolate.specs.Sound.{Grows}
use Rattle.mvm_isolate.specs.declared.stop.Stop.{Stop}
use Rattle.mvm_current.proofs.Growth.{frames_grow}
use Rattle.mvm_current.specs.Frames.{Frame, popped, verified, with_operands}
use Rattle.mvm_current.specs.Keys.{callers_named, frames_named, lock_by, top_named, AreKeys, IsStackOf}
use Rattle.mvm_current.specs.Values.{kind_of}
use Rattle.mvm_object.specs.Coming.{point_of}
use Rattle.mvm_object.specs.Going.{Context, Point}
use Rattle.mvm_locking.specs.Monitors.{unlocked}
use Rattle.mvm_locking.specs.Returned.{HasRoom, LeavesFrames}
use Rattle.mvm_locking.specs.Returns.{popped_result, returned_from, returned_to}

-- ---- the kind of what was popped

int_kind : (f : Frame) (depth : ℕ) (slots : List Slot) (x : Word × Frame) → (verified (pop_one an_int depth slots) >>= λ y. Ok (y.0, with_operands y.1 f)) ≡ Ok x → kind_of x.0 ≡ kind.Int
int_kind f depth [] x e = absurd cc
int_kind f depth (slot.Int n ∷ slots) x e = let same : (word.Int n, with_operands (record { depth = depth; slots = slots }) f) ≡ x = cc in rw (← same) refl
int_kind f depth (slot.Ref n ∷ slots) x e = absurd cc
int_kind f depth (slot.Null ∷ slots) x e = absurd cc
int_kind f depth (slot.Unset ∷ slots) x e = absurd cc
int_kind f depth (slot.Half ∷ slots) x e = absurd cc
int_kind f depth (slot.Long n ∷ slots) x e = absurd cc

ref_kind : (f : Frame) (depth : ℕ) (slots : List Slot) (x : Word × Frame) → (verified (pop_one a_ref depth slots) >>= λ y. Ok (y.0, with_operands y.1 f)) ≡ Ok x → kind_of x.0 ≡ kind.Ref
ref_kind f depth [] x e = absurd cc
ref_kind f depth (slot.Int n ∷ slots) x e = absurd cc
ref_kind f depth (slot.Ref n ∷ slots) x e = let same : (word.Ref n, with_operands (record { depth = depth; slots = slots }) f) ≡ x = cc in rw (← same) refl
ref_kind f depth (slot.Null ∷ slots) x e = let same : (word.Null, with_operands (record { depth = depth; slots = slots }) f) ≡ x = cc in rw (← same) refl
ref_kind f depth (slot.Unset ∷ slots) x e = absurd cc
ref_kind f depth (slot.Half ∷ slots) x e = absurd cc
ref_kind f depth (slot.Long n ∷ slots) x e = absurd cc

long_kind : (f : Frame) (depth : ℕ) (slots : List Slot) (x : Word × Frame) → (verified (pop_two depth slots) >>= λ y. Ok (y.0, with_operands y.1 f)) ≡ Ok x → kind_of x.0 ≡ kind.Long
long_kind f depth [] x e = absurd cc
long_kind f depth (s ∷ []) x e = absurd cc
long_kind f depth (slot.Half ∷ slot.Long n ∷ slots) x e = let same : (word.Long n, with_operands (record { depth = depth; slots = slots }) f) ≡ x = cc in rw (← same) refl
long_kind f depth (slot.Half ∷ slot.Int n ∷ slots) x e = absurd cc
long_kind f depth (slot.Half ∷ slot.Ref n ∷ slots) x e = absurd cc
long_kind f depth (slot.Half ∷ slot.Null ∷ slots) x e = absurd cc
long_kind f depth (slot.Half ∷ slot.Unset ∷ slots) x e = absurd cc
long_kind f depth (slot.Half ∷ slot.Half ∷ slots) x e = absurd cc
long_kind f depth (slot.Int n ∷ t ∷ slots) x e = absurd cc
long_kind f depth (slot.Ref n ∷ t ∷ slots) x e = absurd cc
long_kind f depth (slot.Null ∷ t ∷ slots) x e = absurd cc
long_kind f depth (slot.Unset ∷ t ∷ slots) x e = absurd cc
long_kind f depth (slot.Long n ∷ t ∷ slots) x e = absurd cc

popped_kind : (k : Kind) (f : Frame) (x : Word × Frame) → popped k f ≡ Ok x → kind_of x.0 ≡ k
unfolding popped pop
popped_kind kind.Int f x e = int_kind f f.body.operands.depth f.body.operands.slots x e
popped_kind kind.Ref f x e = ref_kind f f.body.operands.depth f.body.operands.slots x e
popped_kind kind.Long f x e = long_kind f f.body.operands.depth f.body.operands.slots x e

some_kind : (k : Kind) (r : Result (Word × Frame) Stop) (value : Option Word) → ((x : Word × Frame) → r ≡ Ok x → kind_of x.0 ≡ k) → (r >>= λ x. Ok (Some x.0)) ≡ Ok value → option_map kind_of value ≡ Some k
some_kind k (Ok x) value is e = let same : Some x.0 ≡ value = cc in rw (← same) (ap Some (is x refl))
some_kind k (Err stop) value is e = absurd cc

pub kind_popped : (k : Option Kind) (f : Frame) (value : Option Word) → popped_result k f ≡ Ok value → option_map kind_of value ≡ k
kind_popped (Some k) f value e = some_kind k (popped k f) value (popped_kind k f) e
kind_popped None f value e = let same : None ≡ value = cc in rw (← same) refl

-- ---- the steps

pub frames_left : (old new : Numbered) (u : StackParts) (r : Result (List Frame) Stop) → Grows old new → AreKeys old u → r ≡ Ok (frames_named old u) → r ≡ Ok (frames_named new u)
frames_left old new u r g keys e = e ∙ ap Ok (sym (frames_grow old new u g keys))

pub limits_stay : (old new : Numbered) (s : StackParts) → Grows old new → IsStackOf old.env.launch.limits s → IsStackOf new.env.launch.limits s
limits_stay old new s g is = rw g.launch is

pub left_so : (c : Context) (thread : ℕ) (k : Option Kind) (next : Option ℕ) (value : Option Word) (old new : Numbered) (s mid u : StackParts) (r : Result (Unit {0}) Stop) → c.thread ≡ thread → popped_result k (top_named old s) ≡ Ok value → mid.rest ≡ s.rest
    → Does r (unlocked thread (lock_by mid.rest.below.key) (named old)) (named new) → OnOk r (returned_to value next (callers_named old mid) ≡ Ok (frames_named new u)) → LeavesFrames r (returned_from c k next (point_of old s)) new u c.object
unfolding returned_from callers_named
left_so c thread k next value old new s mid u (Ok done) is e rest unlocks returns =
    let b : unlocked c.thread (lock_by s.rest.below.key) (named old) ≡ Ok (named new) = rw (is, ← rest) unlocks in
    let t : returned_to value next (callers_named old s) ≡ Ok (frames_named new u) = rw (← rest) returns in
    rw (e, b, t) refl
left_so c thread k next value old new s mid u (Err stop) is e rest unlocks returns =
    let b : unlocked c.thread (lock_by s.rest.below.key) (named old) ≡ Err stop = rw (is, ← rest) unlocks in
    λ other. rw (e, b) refl

pub unpopped : (c : Context) (k : Option Kind) (next : Option ℕ) (stop : Stop) (p : Point) → popped_result k p.frame ≡ Err stop → returned_from c k next p ≡ Err stop
unfolding returned_from
unpopped c k next stop p e = rw e refl

-- ---- once the value is popped

pub room_rest : (k : Option Kind) (f : Frame) (value : Option Word) (old mid : StackParts) → popped_result k f ≡ Ok value → mid.rest ≡ old.rest → HasRoom k (room_of old.rest.below.callers) → HasRoom (option_map kind_of value) (room_of mid.rest.below.callers)
room_rest k f value old mid e rest h = rw (kind_popped k f value e, rest) h
