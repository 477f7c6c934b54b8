-- The frame of `<clinit>` on the frame of its initialisation, by names.
use Rattle.std.proofs.Common.{◌≡◌, ◌∙◌, ℕ, ◌-◌, List, [], ◌∷◌, ◌++◌, length, take, reverse, replicate, Bool, true, false, Option, Some, None, Result, Ok, Err, refl, sym, ap, subst, arith}
use Rattle.std.specs.Prelude.{IsSome, codes, if◌then◌else◌, map}
use Rattle.std.proofs.lemmas.Grind.{common_steps}
use Rattle.mvm_base.specs.Answers.{◌>>=◌}
use Rattle.mvm_frame.specs.Parts.{Below, StackParts}
use Rattle.mvm_frame.specs.declared.key.FrameKey.{FrameKey}
use Rattle.mvm_frame.specs.declared.slot.Slot.TheVariants.{Unset}
use Rattle.mvm_history.specs.declared.limits.Limits.{Limits}
use Rattle.mvm_layout.specs.declared.parts.Code.{Code}
use Rattle.mvm_layout.specs.declared.parts.Member.{Member}
use Rattle.mvm_native.specs.declared.out.Thrown.TheVariants.{StackOverflowError}
use Rattle.mvm_isolate.specs.Isolate.{stopped}
use Rattle.mvm_isolate.specs.Numbered.{Numbered, named}
use Rattle.mvm_isolate.specs.declared.stop.Stop.{Stop}
use Rattle.mvm_current.specs.Frames.{Frame, Runs, at_place, called_frame, has_room, if_room, method, without, LAST}
use Rattle.mvm_current.specs.Keys.{callers_named, frames_named, runs_of, top_named, AreKeys, AreKeysOf, IsStackOf, frame_named}
use Rattle.mvm_object.specs.Coming.{point_of}
use Rattle.mvm_object.specs.Going.{Context, does, ready}
use Rattle.mvm_object.specs.declared.state.ThreadState.TheVariants.{Ready}
use Rattle.mvm_object.proofs.Initialising.{frames_there}
use Rattle.mvm_starting.specs.Initialising.{initialiser_framed}
use Rattle.mvm_starting.specs.Left.{left_named}

-- ---- the frame of an initialisation goes on with its last stage

pub keys_last : (n : Numbered) (old new : StackParts) → new.rest.below ≡ old.rest.below → AreKeys n old → AreKeys n new
keys_last n old new e keys = subst (λ (below : Below). AreKeysOf n below) (sym e) keys

pub limits_last : (limits : Limits) (old new : StackParts) → new.rest.below ≡ old.rest.below → IsStackOf limits old → IsStackOf limits new
limits_last limits old new e is = record { frames = ap (λ (b : Below). b.most) e ∙ is.frames; words = ap (λ (b : Below). b.words) e ∙ is.words }

callers_last : (n : Numbered) (old new : StackParts) → new.rest.below ≡ old.rest.below → callers_named n new ≡ callers_named n old
unfolding callers_named
callers_last n old new e = ap (λ (b : Below). map (frame_named n) b.callers) e

-- that takes no room
room_last : (limits : Limits) (locals depth : ℕ) (f : Frame) (fs : List Frame) → has_room limits locals depth (at_place LAST f ∷ fs) ≡ has_room limits locals depth (f ∷ fs)
unfolding has_room
room_last limits locals depth f fs = refl

-- ---- the frame of the method

no_slots : (locals : ℕ) → length (reverse (take 0 []) ++ replicate (locals - 0) Unset) ≡ locals
no_slots locals = grind (arith, common_steps)

-- the frames are those of the definition
pub entered : (c : Context) (n : Numbered) (class : List ℕ) (m : Member) (code : Code) (key : FrameKey) (old mid new : StackParts)
    → c.launch.limits ≡ n.env.launch.limits → key.lock ≡ None → runs_of n key 0 ≡ method class (codes "<clinit>") (codes "()V")
    → top_named n mid ≡ at_place LAST (top_named n old) → mid.rest.below ≡ old.rest.below
    → if_room n.env.launch.limits (called_frame (runs_of n key 0) key.lock code.max_locals code.max_stack 0 mid.operands.slots) (without 0 (top_named n mid) ∷ callers_named n mid) ≡ Ok (frames_named n new)
    → initialiser_framed c class m (Some code) (point_of n old) ≡ Ok (left_named n new c.object Ready)
entered c n class m code key old mid new is lock runs top below made =
    let clinit : Runs = method class (codes "<clinit>") (codes "()V") in
    let fs : List Frame = at_place LAST (top_named n old) ∷ callers_named n old in
    let limits : Limits = n.env.launch.limits in
    let all : if_room c.launch.limits (called_frame clinit None code.max_locals code.max_stack 0 []) fs ≡ Ok (frames_named n new) =
    ap (λ (l : Limits). if_room l (called_frame clinit None code.max_locals code.max_stack 0 []) fs) is
    ∙ ap (λ (k : Option ℕ). if_room limits (called_frame clinit k code.max_locals code.max_stack 0 []) fs) (sym lock)
    ∙ ap (λ (r : Runs). if_room limits (called_frame r key.lock code.max_locals code.max_stack 0 []) fs) (sym runs)
    ∙ ap (λ (f : Frame). if_room limits (called_frame (runs_of n key 0) key.lock code.max_locals code.max_stack 0 []) (f ∷ callers_named n old)) (sym top)
    ∙ ap (λ (cs : List Frame). if_room limits (called_frame (runs_of n key 0) key.lock code.max_locals code.max_stack 0 []) (top_named n mid ∷ cs)) (sym (callers_last n old mid below))
    ∙ made in
    ap (λ (r : Result (List Frame) Stop). r >>= λ (frames : List Frame). Ok (record { isolate = named n; frames = frames; object = c.object; after = does ready })) all

unless : (b : Bool) (x : List Frame) → b ≡ false → (if b then Ok x else stopped StackOverflowError) ≡ stopped StackOverflowError
unless b x e = rw e refl

-- there is no room for it
pub full : (c : Context) (n : Numbered) (class : List ℕ) (m : Member) (code : Code) (old : StackParts) (room : Bool)
    → IsSome old.rest.below.key → c.launch.limits ≡ n.env.launch.limits → room ≡ has_room n.env.launch.limits code.max_locals code.max_stack (frames_named n old) → room ≡ false
    → initialiser_framed c class m (Some code) (point_of n old) ≡ stopped StackOverflowError
full c n class m code old room there is told isnt =
    let clinit : Frame = called_frame (method class (codes "<clinit>") (codes "()V")) None code.max_locals code.max_stack 0 [] in
    let fs : List Frame = at_place LAST (top_named n old) ∷ callers_named n old in
    let none : has_room c.launch.limits (length clinit.body.locals) code.max_stack fs ≡ false =
    ap (λ (l : Limits). has_room l (length clinit.body.locals) code.max_stack fs) is
    ∙ ap (λ (k : ℕ). has_room n.env.launch.limits k code.max_stack fs) (no_slots code.max_locals)
    ∙ room_last n.env.launch.limits code.max_locals code.max_stack (top_named n old) (callers_named n old)
    ∙ ap (has_room n.env.launch.limits code.max_locals code.max_stack) (sym (frames_there n old there))
    ∙ sym told ∙ isnt in
    ap (λ (r : Result (List Frame) Stop). r >>= λ (frames : List Frame). Ok (record { isolate = named n; frames = frames; object = c.object; after = does ready })) (unless _ (clinit ∷ fs) none)

-- there was room, so that it is entered
pub has_entered : (n : Numbered) (limits : Limits) (locals depth : ℕ) (runs : Runs) (lock : Option ℕ) (old mid : StackParts) (room : Bool) (stop : Stop)
    → IsSome old.rest.below.key → room ≡ has_room limits locals depth (frames_named n old) → room ≡ true
    → top_named n mid ≡ at_place LAST (top_named n old) → mid.rest.below ≡ old.rest.below
    → if_room limits (called_frame runs lock locals depth 0 mid.operands.slots) (without 0 (top_named n mid) ∷ callers_named n mid) ≡ Err stop → ⊥
has_entered n limits locals depth runs lock old mid room stop there told has top below failed =
    let called : Frame = called_frame runs lock locals depth 0 [] in
    let fitting : has_room limits (length called.body.locals) depth (top_named n mid ∷ callers_named n mid) ≡ true =
    ap (λ (k : ℕ). has_room limits k depth (top_named n mid ∷ callers_named n mid)) (no_slots locals)
    ∙ ap (λ (f : Frame). has_room limits locals depth (f ∷ callers_named n mid)) top
    ∙ ap (λ (cs : List Frame). has_room limits locals depth (at_place LAST (top_named n old) ∷ cs)) (callers_last n old mid below)
    ∙ room_last limits locals depth (top_named n old) (callers_named n old)
    ∙ ap (has_room limits locals depth) (sym (frames_there n old there))
    ∙ sym told ∙ has in
    refused_not _ (called ∷ top_named n mid ∷ callers_named n mid) stop fitting failed
  where
    refused_not : (b : Bool) (x : List Frame) (stop : Stop) → b ≡ true → (if b then Ok x else stopped StackOverflowError) ≡ Err stop → ⊥
    refused_not true x stop e f = absurd cc
    refused_not false x stop e f = absurd cc
