-- The list of frames by names, where a frame is entered or left.
use Rattle.std.proofs.Common.{◌≡◌, ℕ, ◌+◌, ◌-◌, ◌<◌, ◌≤◌, List, [], ◌∷◌, ◌++◌, length, take, reverse, replicate, Bool, true, false, Option, Some, None, refl, sym, ap, ◌∙◌, max, arith}
use Rattle.std.specs.Prelude.{nat_lt, nat_le, ◌&&◌, if◌then◌else◌, IfSome, IsSome, All, map, Ok, Err}
use Rattle.std.proofs.lemmas.List.{length-map}
use Rattle.std.proofs.lemmas.List.Elements.{All-cons, All-head, All-tail, All-nil}
use Rattle.std.proofs.lemmas.Grind.{common_steps}
use Rattle.mvm_frame.proofs.FrameLaws.{whole_law}
use Rattle.mvm_frame.specs.Calls.{fits, fresh, with_frame, enter}
use Rattle.mvm_frame.specs.Calls.{reach as keyed_reach, reached as keyed_reached, without as keyed_without}
use Rattle.mvm_frame.specs.Parts.{Below, StackParts, frames_by, frames_of, stack_with}
use Rattle.mvm_frame.specs.Parts.{Frame as KeyedFrame}
use Rattle.mvm_frame.specs.declared.key.FrameKey.{FrameKey}
use Rattle.mvm_frame.specs.declared.refused.Refused.{Refused}
use Rattle.mvm_frame.specs.declared.refused.Refused.TheVariants.{Full}
use Rattle.mvm_frame.specs.declared.slot.Slot.{Slot}
use Rattle.mvm_frame.specs.declared.slot.Slot.TheVariants.{Unset}
use Rattle.mvm_history.specs.declared.limits.Limits.{Limits}
use Rattle.mvm_native.specs.declared.out.Thrown.TheVariants.{StackOverflowError}
use Rattle.mvm_isolate.specs.Isolate.{stopped}
use Rattle.mvm_isolate.specs.Numbered.{Numbered, name_at, IsClass}
use Rattle.mvm_current.specs.Frames.{Runs, Frame, reach, reached, has_room, if_room, called_frame, without, bare_frame}
use Rattle.mvm_current.specs.declared.key.TheConstants.{NO_METHOD}
use Rattle.mvm_current.proofs.KeyLaws.{bare_runs}
use Rattle.mvm_current.specs.Keys.{runs_of, runs_bare, frame_named, frames_named, top_named, callers_named, IsKey, AreKeys, AreKeysOf, IsStackOf}

-- ---- a stack that is made of frames

pub stack_frames : (n : Numbered) (fs : List KeyedFrame) (most words : ℕ) → frames_named n (stack_with fs most words) ≡ map (frame_named n) fs
unfolding frames_named
stack_frames n fs most words = ap (map (frame_named n)) (whole_law fs most words)

pub stack_keys : (n : Numbered) (fs : List KeyedFrame) (most words : ℕ) → All (λ f. IsKey n f.key) fs → AreKeysOf n (stack_with fs most words).rest.below
stack_keys n [] most words keys = record { top = tt; callers = All-nil (λ f. IsKey n f.key) }
stack_keys n (f ∷ fs) most words keys = record { top = All-head (λ f. IsKey n f.key) f fs keys; callers = All-tail (λ f. IsKey n f.key) f fs keys }

pub stack_limits : (limits : Limits) (fs : List KeyedFrame) (s : StackParts) → IsStackOf limits s → IsStackOf limits (stack_with fs s.rest.below.most s.rest.below.words)
stack_limits limits [] s is = record { frames = is.frames; words = is.words }
stack_limits limits (f ∷ fs) s is = record { frames = is.frames; words = is.words }

-- ---- the top frame and the frames below it

frames_split : (n : Numbered) (key : Option FrameKey) (s : StackParts) → s.rest.below.key ≡ key → (k : FrameKey) → key ≡ Some k → frames_named n s ≡ top_named n s ∷ callers_named n s
unfolding frames_named callers_named
frames_split n key s e k h = rw (e ∙ h) refl

pub frames_are : (n : Numbered) (s : StackParts) (key : FrameKey) → s.rest.below.key ≡ Some key → frames_named n s ≡ top_named n s ∷ callers_named n s
frames_are n s key e = frames_split n (Some key) s e key refl

keys_by : (n : Numbered) (key : Option FrameKey) (s : StackParts) → s.rest.below.key ≡ key → AreKeys n s → All (λ f. IsKey n f.key) (frames_by key s)
keys_by n (Some key) s e keys = All-cons (λ f. IsKey n f.key) (record { key = key; pc = s.rest.pc; locals = s.rest.locals; operands = s.operands }) s.rest.below.callers (rw e at keys.top) keys.callers
keys_by n None s e keys = All-nil (λ f. IsKey n f.key)

pub all_keys : (n : Numbered) (s : StackParts) → AreKeys n s → All (λ f. IsKey n f.key) (frames_of s)
all_keys n s keys = keys_by n s.rest.below.key s refl keys

-- ---- leaving

pub left_frames : (n : Numbered) (old new : StackParts) → new ≡ stack_with old.rest.below.callers old.rest.below.most old.rest.below.words → frames_named n new ≡ callers_named n old
unfolding callers_named
left_frames n old new e = ap (frames_named n) e ∙ stack_frames n old.rest.below.callers old.rest.below.most old.rest.below.words

pub left_keys : (n : Numbered) (old new : StackParts) → new ≡ stack_with old.rest.below.callers old.rest.below.most old.rest.below.words → AreKeys n old → AreKeys n new
left_keys n old new e keys = rw e (stack_keys n old.rest.below.callers old.rest.below.most old.rest.below.words keys.callers)

pub left_limits : (limits : Limits) (old new : StackParts) → new ≡ stack_with old.rest.below.callers old.rest.below.most old.rest.below.words → IsStackOf limits old → IsStackOf limits new
left_limits limits old new e is = rw e (stack_limits limits old.rest.below.callers old is)

-- ---- room

pub reached_named : (n : Numbered) (fs : List KeyedFrame) → reached (map (frame_named n) fs) ≡ keyed_reached fs
reached_named n [] = refl
reached_named n (f ∷ fs) = ap (λ (k : ℕ). f.operands.depth + length f.locals + k) (reached_named n fs)

room_by : (n : Numbered) (limits : Limits) (locals depth most words : ℕ) (fs : List KeyedFrame) → limits.frames ≡ most → words ≡ 8192 → (nat_lt (length fs) most && nat_le (keyed_reached fs + locals + depth) words) ≡ has_room limits locals depth (map (frame_named n) fs)
unfolding has_room
room_by n limits locals depth most words fs e h = rw (← e, h, ← reached_named n fs, ← length-map fs (frame_named n)) refl

pub room_is : (n : Numbered) (limits : Limits) (locals depth : ℕ) (s : StackParts) → IsStackOf limits s → fits locals depth s ≡ has_room limits locals depth (frames_named n s)
unfolding frames_named
room_is n limits locals depth s is = room_by n limits locals depth s.rest.below.most s.rest.below.words (frames_of s) (sym is.frames) is.words

-- ---- entering

-- what was answered, and why
answered : (b : Bool) (x new : StackParts) → (if b then Ok x else Err Full) ≡ Ok new → (b ≡ true) × (x ≡ new)
answered true x new e = (refl, cc)
answered false x new e = absurd cc

pub refused : (b : Bool) (x : StackParts) (fault : Refused) → (if b then Ok x else Err Full) ≡ Err fault → b ≡ false
refused true x fault e = absurd cc
refused false x fault e = refl

entered : (key : FrameKey) (locals depth args : ℕ) (old new : StackParts) → enter key locals depth args old ≡ Ok new → (fits locals depth old ≡ true) × (with_frame key locals depth args old ≡ new)
unfolding enter
entered key locals depth args old new e = answered (fits locals depth old) (with_frame key locals depth args old) new e

pub full : (key : FrameKey) (locals depth args : ℕ) (old : StackParts) (fault : Refused) → enter key locals depth args old ≡ Err fault → fits locals depth old ≡ false
unfolding enter
full key locals depth args old fault e = refused (fits locals depth old) (with_frame key locals depth args old) fault e

locals_are : (count locals wide : ℕ) (slots : List Slot) → count ≤ length slots → count + (locals - count) ≡ wide → length (reverse (take count slots) ++ replicate (locals - count) Unset) ≡ wide
locals_are count locals wide slots h e = grind (arith, common_steps)

-- the frames of a call that has room, by names
abbrev framed : Numbered → FrameKey → ℕ → ℕ → ℕ → StackParts → Frame
framed n key locals depth count s = called_frame (runs_of n key 0) key.lock locals depth count s.operands.slots

abbrev below : Numbered → ℕ → StackParts → List Frame
below n count s = without count (top_named n s) ∷ callers_named n s

-- the caller without its arguments takes as much room as with them
room_below : (n : Numbered) (limits : Limits) (locals depth count : ℕ) (s : StackParts) → has_room limits locals depth (below n count s) ≡ has_room limits locals depth (top_named n s ∷ callers_named n s)
unfolding has_room
room_below n limits locals depth count s = refl

room_called : (n : Numbered) (limits : Limits) (key k : FrameKey) (locals wide depth count : ℕ) (s : StackParts) → s.rest.below.key ≡ Some k → count ≤ length s.operands.slots → count + (locals - count) ≡ wide → IsStackOf limits s →
    has_room limits (length (framed n key locals depth count s).body.locals) depth (below n count s) ≡ fits wide depth s
room_called n limits key k locals wide depth count s e h w is =
    ap (λ (x : ℕ). has_room limits x depth (below n count s)) (locals_are count locals wide s.operands.slots h w)
    ∙ room_below n limits wide depth count s
    ∙ ap (has_room limits wide depth) (sym (frames_are n s k e))
    ∙ sym (room_is n limits wide depth s is)

called_named : (n : Numbered) (key : FrameKey) (locals wide depth count : ℕ) (slots : List Slot) → wide - count ≡ locals - count → frame_named n (fresh key wide depth count slots) ≡ called_frame (runs_of n key 0) key.lock locals depth count slots
called_named n key locals wide depth count slots e = rw e refl

below_named : (n : Numbered) (k : FrameKey) (count : ℕ) (s : StackParts) → s.rest.below.key ≡ Some k → map (frame_named n) (frames_of (keyed_without count s)) ≡ below n count s
unfolding callers_named
below_named n k count s e = rw e refl

wider : (count locals wide : ℕ) → count + (locals - count) ≡ wide → wide - count ≡ locals - count
wider count locals wide e = omega arith

if_called : (limits : Limits) (f : Frame) (fs : List Frame) → has_room limits (length f.body.locals) f.body.operands.depth fs ≡ true → if_room limits f fs ≡ Ok (f ∷ fs)
if_called limits f fs e = rw e refl

unless_called : (limits : Limits) (f : Frame) (fs : List Frame) → has_room limits (length f.body.locals) f.body.operands.depth fs ≡ false → if_room limits f fs ≡ stopped StackOverflowError
unless_called limits f fs e = rw e refl

pub entered_frames : (n : Numbered) (limits : Limits) (key k : FrameKey) (locals wide depth count : ℕ) (old new : StackParts) → old.rest.below.key ≡ Some k → count ≤ length old.operands.slots → count + (locals - count) ≡ wide → IsStackOf limits old → enter key wide depth count old ≡ Ok new →
    if_room limits (framed n key locals depth count old) (below n count old) ≡ Ok (frames_named n new)
entered_frames n limits key k locals wide depth count old new e h w is done =
    let x = entered key wide depth count old new done in
    let room = room_called n limits key k locals wide depth count old e h w is ∙ x.0 in
    let frames : frames_named n new ≡ framed n key locals depth count old ∷ below n count old =
    ap (frames_named n) (sym x.1)
    ∙ stack_frames n (fresh key wide depth count old.operands.slots ∷ frames_of (keyed_without count old)) old.rest.below.most old.rest.below.words
    ∙ ap (λ (f : Frame). f ∷ map (frame_named n) (frames_of (keyed_without count old))) (called_named n key locals wide depth count old.operands.slots (wider count locals wide w))
    ∙ ap (λ (fs : List Frame). framed n key locals depth count old ∷ fs) (below_named n k count old e) in
    if_called limits (framed n key locals depth count old) (below n count old) room ∙ ap Ok (sym frames)

pub full_frames : (n : Numbered) (limits : Limits) (key k : FrameKey) (locals wide depth count : ℕ) (old : StackParts) (fault : Refused) → old.rest.below.key ≡ Some k → count ≤ length old.operands.slots → count + (locals - count) ≡ wide → IsStackOf limits old → enter key wide depth count old ≡ Err fault →
    if_room limits (framed n key locals depth count old) (below n count old) ≡ stopped StackOverflowError
full_frames n limits key k locals wide depth count old fault e h w is done =
    unless_called limits (framed n key locals depth count old) (below n count old) (room_called n limits key k locals wide depth count old e h w is ∙ full key wide depth count old fault done)

keys_without : (n : Numbered) (count : ℕ) (s : StackParts) → AreKeys n s → All (λ f. IsKey n f.key) (frames_of (keyed_without count s))
keys_without n count s keys = all_keys n (keyed_without count s) keys

pub entered_keys : (n : Numbered) (key : FrameKey) (wide depth count : ℕ) (old new : StackParts) → enter key wide depth count old ≡ Ok new → IsKey n key → AreKeys n old → AreKeys n new
entered_keys n key wide depth count old new done is keys =
    rw (← (entered key wide depth count old new done).1) (record { top = is; callers = keys_without n count old keys })

pub entered_limits : (limits : Limits) (key : FrameKey) (wide depth count : ℕ) (old new : StackParts) → enter key wide depth count old ≡ Ok new → IsStackOf limits old → IsStackOf limits new
entered_limits limits key wide depth count old new done is = rw (← (entered key wide depth count old new done).1) (record { frames = is.frames; words = is.words })

-- ---- as the calls ask and answer

some_key : (r : Option FrameKey) → IsSome r → (k : FrameKey) × (r ≡ Some k)
some_key (Some k) is = (k, refl)
some_key None is = absurd cc

widened : (locals count wide : ℕ) → wide ≡ max locals count → count + (locals - count) ≡ wide
widened locals count wide e = omega arith

pub enters : (n : Numbered) (limits : Limits) (key : FrameKey) (locals wide depth count : ℕ) (old new : StackParts) → IsSome old.rest.below.key → count ≤ length old.operands.slots → wide ≡ max locals count → IsStackOf limits old → enter key wide depth count old ≡ Ok new →
    if_room limits (framed n key locals depth count old) (below n count old) ≡ Ok (frames_named n new)
enters n limits key locals wide depth count old new some h w is done =
    let k = some_key old.rest.below.key some in entered_frames n limits key k.0 locals wide depth count old new k.1 h (widened locals count wide w) is done

pub overflows : (n : Numbered) (limits : Limits) (key : FrameKey) (locals wide depth count : ℕ) (old : StackParts) (fault : Refused) → IsSome old.rest.below.key → count ≤ length old.operands.slots → wide ≡ max locals count → IsStackOf limits old → enter key wide depth count old ≡ Err fault →
    if_room limits (framed n key locals depth count old) (below n count old) ≡ stopped StackOverflowError
overflows n limits key locals wide depth count old fault some h w is done =
    let k = some_key old.rest.below.key some in full_frames n limits key k.0 locals wide depth count old fault k.1 h (widened locals count wide w) is done

-- ---- a frame without values

bare_named : (n : Numbered) (key : FrameKey) (pc : ℕ) (slots : List Slot) → key.method ≡ NO_METHOD → key.lock ≡ None → frame_named n (record (fresh key 0 0 0 slots) { pc = pc }) ≡ bare_frame (runs_bare (name_at n key.mirror) pc) pc
bare_named n key pc slots e h = rw (bare_runs n key pc e, h) refl

-- the stack once a frame of this key is entered, and its pc is set
pub bare_frames : (n : Numbered) (key : FrameKey) (pc : ℕ) (old mid new : StackParts) → key.method ≡ NO_METHOD → key.lock ≡ None → enter key 0 0 0 old ≡ Ok mid → new.operands ≡ mid.operands → new.rest ≡ record mid.rest { pc = pc } →
    frames_named n new ≡ bare_frame (runs_bare (name_at n key.mirror) pc) pc ∷ frames_named n old
unfolding frames_named
bare_frames n key pc old mid new e h done o r =
    let x = (entered key 0 0 0 old mid done).1 in
    rw (r, o, ← x) (ap (λ (f : Frame). f ∷ map (frame_named n) (frames_of old)) (bare_named n key pc old.operands.slots e h))

pub bare_keys : (n : Numbered) (key : FrameKey) (pc : ℕ) (old mid new : StackParts) → key.method ≡ NO_METHOD → enter key 0 0 0 old ≡ Ok mid → new.rest ≡ record mid.rest { pc = pc } → IsClass n key.mirror → AreKeys n old → AreKeys n new
bare_keys n key pc old mid new e done r is keys =
    let k : IsKey n key = record { class = is; method = λ no. absurd (no e) } in
    rw r (entered_keys n key 0 0 0 old mid done k keys)

pub bare_limits : (limits : Limits) (key : FrameKey) (pc : ℕ) (old mid new : StackParts) → enter key 0 0 0 old ≡ Ok mid → new.rest ≡ record mid.rest { pc = pc } → IsStackOf limits old → IsStackOf limits new
bare_limits limits key pc old mid new done r is =
    let m = entered_limits limits key 0 0 0 old mid done is in record { frames = rw r m.frames; words = rw r m.words }

pub entered_key : (key : FrameKey) (wide depth count : ℕ) (old new : StackParts) → enter key wide depth count old ≡ Ok new → IsSome new.rest.below.key
entered_key key wide depth count old new done = rw (← (entered key wide depth count old new done).1) refl

pub never_full : (key : FrameKey) (old : StackParts) (fault : Refused) → fits 0 0 old ≡ true → enter key 0 0 0 old ≡ Err fault → ⊥
never_full key old fault e done = (let h : true ≡ false = sym e ∙ full key 0 0 0 old fault done in absurd cc)
