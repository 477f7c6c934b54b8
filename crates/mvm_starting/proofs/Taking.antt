-- The frame of a method takes the place of that of a start.
use Rattle.std.proofs.Common.{◌≡◌, ℕ, ◌<◌, List, [], ◌∷◌, length, replicate, suc, slice_get, slice_set, Bool, true, false, Option, Some, None, Result, Ok, Err, refl, sym, ap, ◌∙◌, arith}
use Rattle.std.proofs.lemmas.List.Elements.{All-nil}
use Rattle.std.specs.Prelude.{◌≢◌, ◌-◌, max, nat_lt, if◌then◌else◌, All, IsSome, map}
use Rattle.std.proofs.lemmas.Bool.Decides.{nat_tests}
use Rattle.mvm_base.specs.declared.value.Word.TheVariants as word
use Rattle.mvm_frame.specs.Calls.{enter, fits, framed, framed_by, freed, store, unset_frame, with_frame}
use Rattle.mvm_frame.specs.Parts.{Below, Operands, Rest, StackParts, frames_of, stack_with}
use Rattle.mvm_frame.specs.Parts.{Frame as KeyedFrame}
use Rattle.mvm_frame.specs.declared.key.FrameKey.{FrameKey}
use Rattle.mvm_frame.specs.declared.refused.Refused.{Refused}
use Rattle.mvm_frame.specs.declared.refused.Refused.TheVariants.{Full}
use Rattle.mvm_frame.specs.declared.slot.Slot.{Slot}
use Rattle.mvm_frame.specs.declared.slot.Slot.TheVariants.{Unset, Ref}
use Rattle.mvm_history.specs.declared.limits.Limits.{Limits}
use Rattle.mvm_isolate.specs.Faults.{looked_up}
use Rattle.mvm_isolate.specs.Look.{Look}
use Rattle.mvm_isolate.specs.Members.{method_in}
use Rattle.mvm_isolate.specs.Isolate.{Isolate}
use Rattle.mvm_isolate.specs.Numbered.{Numbered, name_at, named}
use Rattle.mvm_isolate.specs.declared.stop.Stop.{Stop}
use Rattle.mvm_member.specs.Members.{MemberName}
use Rattle.mvm_current.specs.Frames.{Frame, Runs, has_room, method}
use Rattle.mvm_object.specs.Going.{Went, does, ready}
use Rattle.mvm_current.specs.Keys.{callers_named, frame_named, frames_named, runs_of, IsKey, IsStackOf}
use Rattle.mvm_current.specs.declared.key.TheConstants.{NO_METHOD}
use Rattle.mvm_current.proofs.Entering.{full, room_is}
use Rattle.mvm_invoke.proofs.Calling.{key_class}
use Rattle.mvm_starting.specs.Firsts.{IsFirst}
use Rattle.mvm_starting.specs.Starting.{first_frame, head_in}
use Rattle.mvm_starting.specs.declared.firsts.First.{First}

-- ---- the method

pub no_head : (look : Look) (m : MemberName) (stop : Stop) → method_in look m.class m.name m.desc ≡ Err stop → head_in look m ≡ Err stop
unfolding head_in
no_head look m stop e = rw e refl

pub no_class : (look : Look) (m : MemberName) (stop : Stop) → looked_up (look.class m.class) ≡ Err stop → head_in look m ≡ Err stop
unfolding head_in method_in
no_class look m stop e = rw e refl

pub class_of_key : (n : Numbered) (key : FrameKey) (class name desc : List ℕ) → IsKey n key → key.method ≢ NO_METHOD → ((pc : ℕ) → runs_of n key pc ≡ method class name desc) → name_at n key.mirror ≡ class
class_of_key n key class name desc is other runs = key_class n (stack_with [] 0 0) key class name desc (record { top = tt; callers = All-nil (λ f. IsKey n f.key) }) is other runs

pub same_method : (a b c x y z : List ℕ) → a ≡ x → b ≡ y → c ≡ z → method a b c ≡ method x y z
same_method a b c x y z e h k = cc

pub same_search : (look : Look) (a b c x y z : List ℕ) → a ≡ x → b ≡ y → c ≡ z → method_in look a b c ≡ method_in look x y z
same_search look a b c x y z e h k = cc

-- ---- the room

frames_with : (fs : List KeyedFrame) (most words : ℕ) → frames_of (stack_with fs most words) ≡ fs
frames_with [] most words = refl
frames_with (f ∷ fs) most words = refl

abbrev most_of : StackParts → ℕ
most_of s = s.rest.below.most

most_with : (fs : List KeyedFrame) (most words : ℕ) → most_of (stack_with fs most words) ≡ most
most_with [] most words = refl
most_with (f ∷ fs) most words = refl

abbrev words_of : StackParts → ℕ
words_of s = s.rest.below.words

words_with : (fs : List KeyedFrame) (most words : ℕ) → words_of (stack_with fs most words) ≡ words
words_with [] most words = refl
words_with (f ∷ fs) most words = refl

pub limits_with : (limits : Limits) (s : StackParts) (fs : List KeyedFrame) → IsStackOf limits s → IsStackOf limits (stack_with fs s.rest.below.most s.rest.below.words)
limits_with limits s fs is = record { frames = most_with fs s.rest.below.most s.rest.below.words ∙ is.frames; words = words_with fs s.rest.below.most s.rest.below.words ∙ is.words }

callers_with : (n : Numbered) (s : StackParts) → frames_named n (stack_with s.rest.below.callers s.rest.below.most s.rest.below.words) ≡ callers_named n s
unfolding frames_named callers_named
callers_with n s = ap (map (frame_named n)) (frames_with s.rest.below.callers s.rest.below.most s.rest.below.words)

pub room_left : (n : Numbered) (limits : Limits) (locals depth : ℕ) (s : StackParts) → IsStackOf limits s → fits locals depth (stack_with s.rest.below.callers s.rest.below.most s.rest.below.words) ≡ has_room limits locals depth (callers_named n s)
room_left n limits locals depth s is =
    room_is n limits locals depth (stack_with s.rest.below.callers s.rest.below.most s.rest.below.words) (limits_with limits s s.rest.below.callers is)
    ∙ ap (has_room limits locals depth) (callers_with n s)

-- ---- the frame

abbrev with_unset : FrameKey → ℕ → ℕ → List KeyedFrame → ℕ → ℕ → StackParts
with_unset key locals depth fs most words = stack_with (unset_frame key locals depth ∷ fs) most words

less_none : (n : ℕ) → n - 0 ≡ n
less_none n = omega arith

unset_with : (key : FrameKey) (locals depth : ℕ) (fs : List KeyedFrame) (most words : ℕ) → with_frame key locals depth 0 (stack_with fs most words) ≡ with_unset key locals depth fs most words
unset_with key locals depth [] most words = ap (λ (k : ℕ). with_unset key k depth [] most words) (less_none locals)
unset_with key locals depth (f ∷ fs) most words = ap (λ (k : ℕ). with_unset key k depth (f ∷ fs) most words) (less_none locals)

enter_fits : (key : FrameKey) (locals depth : ℕ) (s : StackParts) → fits locals depth s ≡ true → enter key locals depth 0 s ≡ Ok (with_frame key locals depth 0 s)
unfolding enter
enter_fits key locals depth s e = rw e refl

pub enters : (key : FrameKey) (locals depth : ℕ) (fs : List KeyedFrame) (most words : ℕ) (s : StackParts) → s ≡ stack_with fs most words → fits locals depth (stack_with fs most words) ≡ true → enter key locals depth 0 s ≡ Ok (with_unset key locals depth fs most words)
enters key locals depth fs most words s e h = ap (enter key locals depth 0) e ∙ enter_fits key locals depth (stack_with fs most words) h ∙ ap Ok (unset_with key locals depth fs most words)

-- ---- its argument

freed_unset : (locals : List Slot) → slice_get locals 0 ≡ Some Unset → freed 0 locals ≡ locals
unfolding freed
freed_unset locals e = rw e refl

store_fits : (object : ℕ) (locals : List Slot) (b : Bool) → nat_lt 0 (length locals) ≡ b → b ≡ true → slice_get locals 0 ≡ Some Unset → store 0 (word.Ref object) locals ≡ Ok (slice_set locals 0 (Ref object))
unfolding store
store_fits object locals b e h u = rw (e, h, freed_unset locals u) refl

is_less : (n : ℕ) → 0 < n → nat_lt 0 n ≡ true
is_less n h = grind (arith, nat_tests, h)

pub stores : (object : ℕ) (locals : List Slot) → 0 < length locals → slice_get locals 0 ≡ Some Unset → store 0 (word.Ref object) locals ≡ Ok (slice_set locals 0 (Ref object))
stores object locals h u = store_fits object locals (nat_lt 0 (length locals)) refl (is_less (length locals) h) u

-- ---- what was answered

pub given : {A E : Type 0} (x y : A) (r : Result A E) → r ≡ Ok x → r ≡ Ok y → x ≡ y
given x y r e h = let k : Ok x ≡ Ok y = sym e ∙ h in cc

pub never_refused : {A E : Type 0} (x : A) (fault : E) (r : Result A E) → r ≡ Ok x → r ≡ Err fault → ⊥
never_refused x fault r e h = absurd (let k : Ok x ≡ Err fault = sym e ∙ h in cc)

-- ---- with a frame

framed_key : {A : Type 0} (key : Option FrameKey) (r : Result A Refused) → IsSome key → framed_by key r ≡ r
framed_key (Some key) r some = refl
framed_key None r some = absurd (let k : false ≡ true = some in cc)

pub framed_some : {A : Type 0} (below : Below) → IsSome below.key → (r : Result A Refused) → framed below r ≡ r
unfolding framed
framed_some below some r = framed_key below.key r some

pub with_locals : (r : Rest) {a b : List Slot} → a ≡ b → ◌≡◌ {A = Rest} (record r { locals = a }) (record r { locals = b })
with_locals r e = ap (λ (locals : List Slot). record r { locals = locals }) e

-- ---- the frame by names

abbrev with_argument : FrameKey → ℕ → ℕ → ℕ → List KeyedFrame → ℕ → ℕ → StackParts
with_argument key locals depth object fs most words =
    stack_with (record { key = key; pc = 0; locals = slice_set (replicate locals Unset) 0 (Ref object); operands = record { depth = depth; slots = [] } } ∷ fs) most words

parts : (s : StackParts) (o : Operands) (r : Rest) → s.operands ≡ o → s.rest ≡ r → s ≡ record { operands = o; rest = r }
parts s o r e h = rw (← e, ← h) refl

argument_set : (key : FrameKey) (locals depth object : ℕ) (fs : List KeyedFrame) (most words : ℕ) (t new : StackParts) → t ≡ with_unset key locals depth fs most words → new.operands ≡ t.operands → new.rest ≡ record t.rest { locals = slice_set t.rest.locals 0 (Ref object) }
    → new ≡ with_argument key locals depth object fs most words
argument_set key locals depth object fs most words t new e o r =
    let x = with_argument key locals depth object fs most words in
    parts new x.operands x.rest (o ∙ ap (λ (u : StackParts). u.operands) e) (r ∙ ap (λ (u : StackParts). record u.rest { locals = slice_set u.rest.locals 0 (Ref object) }) e)

width : (l : ℕ) → max l 1 ≡ suc (l - 1)
width l = omega arith

first_set : (w k object : ℕ) → w ≡ suc k → slice_set (replicate w Unset) 0 (Ref object) ≡ Ref object ∷ replicate k Unset
first_set w k object e = rw e refl

runs_locked : (n : Numbered) (key : FrameKey) (lock : Option ℕ) → runs_of n (record { mirror = key.mirror; method = key.method; lock = lock }) 0 ≡ runs_of n key 0
unfolding runs_of
runs_locked n key lock = refl

abbrev frame_with : Runs → Option ℕ → List Slot → ℕ → Frame
frame_with runs lock locals depth = record { runs = runs; lock = lock; body = record { pc = 0; locals = locals; operands = record { depth = depth; slots = [] } } }

frames_first : (n : Numbered) (key : FrameKey) (locals depth object : ℕ) (s : StackParts) (most words : ℕ)
    → frames_named n (with_argument key locals depth object s.rest.below.callers most words) ≡ frame_with (runs_of n key 0) key.lock (slice_set (replicate locals Unset) 0 (Ref object)) depth ∷ callers_named n s
unfolding frames_named callers_named
frames_first n key locals depth object s most words = refl

-- the frames of a stack on which the first frame of a method took the place of the top one
pub first_named : (n : Numbered) (m : MemberName) (first : First) (lock : Option ℕ) (object : ℕ) (s t new : StackParts) → IsFirst n m first
    → t ≡ stack_with (unset_frame (record { mirror = first.key.mirror; method = first.key.method; lock = lock }) (max first.head.locals 1) first.head.depth ∷ s.rest.below.callers) s.rest.below.most s.rest.below.words
    → new.operands ≡ t.operands → new.rest ≡ record t.rest { locals = slice_set t.rest.locals 0 (Ref object) }
    → first_frame m lock first.head object ∷ callers_named n s ≡ frames_named n new
first_named n m first lock object s t new is e o r =
    let key : FrameKey = record { mirror = first.key.mirror; method = first.key.method; lock = lock } in
    let w = max first.head.locals 1 in
    sym (
    ap (frames_named n) (argument_set key w first.head.depth object s.rest.below.callers s.rest.below.most s.rest.below.words t new e o r)
    ∙ frames_first n key w first.head.depth object s s.rest.below.most s.rest.below.words
    ∙ ap (λ (runs : Runs). frame_with runs lock (slice_set (replicate w Unset) 0 (Ref object)) first.head.depth ∷ callers_named n s) (runs_locked n first.key lock ∙ is.runs)
    ∙ ap (λ (locals : List Slot). frame_with (method m.class m.name m.desc) lock locals first.head.depth ∷ callers_named n s) (first_set w (first.head.locals - 1) object (width first.head.locals)))

abbrev went_with : Isolate → List Frame → Option ℕ → Went
went_with s fs object = record { isolate = s; frames = fs; object = object; after = does ready }

pub left_with : (n : Numbered) (fs gs : List Frame) (object : Option ℕ) → fs ≡ gs → went_with (named n) fs object ≡ went_with (named n) gs object
left_with n fs gs object e = ap (λ (x : List Frame). went_with (named n) x object) e
