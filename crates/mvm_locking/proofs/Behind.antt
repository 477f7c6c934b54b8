-- The frame that waits for the current one: what it runs, and the place behind its call.
use Rattle.std.proofs.Common.{◌≡◌, ℕ, List, [], ◌∷◌, Bool, true, false, Some, None, refl, sym, ap, ◌∙◌}
use Rattle.std.specs.Prelude.{◌≢◌, ◌==◌, if◌then◌else◌, map, slice_get, All, Result, Ok}
use Rattle.std.specs.Option.{option_map}
use Rattle.std.proofs.lemmas.List.Elements.{All-head, All-nil}
use Rattle.mvm_base.specs.Answers.{◌>>=◌}
use Rattle.mvm_frame.specs.Calls.{place_of}
use Rattle.mvm_frame.specs.Parts.{StackParts, stack_with}
use Rattle.mvm_frame.specs.Parts.{Frame as KeyedFrame}
use Rattle.mvm_frame.specs.declared.key.FrameKey.{FrameKey}
use Rattle.mvm_frame.specs.declared.place.Place.{Place}
use Rattle.mvm_layout.specs.declared.parts.Member.{Member}
use Rattle.mvm_set.specs.declared.class.Lineage.{Lineage}
use Rattle.mvm_isolate.specs.Look.{Look}
use Rattle.mvm_isolate.specs.Numbered.{Numbered, class_at, name_at, look_of}
use Rattle.mvm_isolate.specs.declared.stop.Stop.{Stop}
use Rattle.mvm_current.proofs.KeyLaws.{bare_runs, named_runs, method_of_key}
use Rattle.mvm_current.proofs.Methods.{method_found, Finds}
use Rattle.mvm_current.specs.Code.{method_for, method_of, code_of, next_of}
use Rattle.mvm_current.specs.Frames.{Runs, method, starting, initialising, Frame}
use Rattle.mvm_current.specs.Keys.{frame_named, callers_named, runs_of, IsKey, AreKeys}
use Rattle.mvm_current.specs.declared.key.TheConstants.{NO_METHOD}
use Rattle.mvm_locking.specs.Returns.{next_at, next_for, next_below}

-- ---- the method of a key

abbrev keyed : FrameKey → ℕ → StackParts
keyed key pc = stack_with (record { key = key; pc = pc; locals = []; operands = record { depth = 0; slots = [] } } ∷ []) 0 0

pub method_called : (n : Numbered) (key : FrameKey) (pc : ℕ) (member : Member) → key.method ≢ NO_METHOD → IsKey n key → ((class : Lineage) → class_at n key.mirror ≡ Some class → Some member ≡ slice_get class.file.methods key.method) → Finds n key.mirror → method_for (look_of n) (runs_of n key pc) ≡ Ok member
unfolding method_of
method_called n key pc member other is value found =
    method_found n (keyed key pc) key member refl other (record { top = is; callers = All-nil (λ f. IsKey n f.key) }) value found

-- ---- the frame that waits

next_bare : (look : Look) (class : List ℕ) (pc : ℕ) (f : Frame) (is : Runs) → is ≡ (if pc == 0 then starting else initialising class) → next_for look is f ≡ Ok None
next_bare look class pc f is e = rw e (by (pc == 0))
  where
    by : (b : Bool) → next_for look (if b then starting else initialising class) f ≡ Ok None
    by true = refl
    by false = refl

next_method : (look : Look) (class name desc : List ℕ) (is : Runs) (f : Frame) → is ≡ method class name desc → next_for look is f ≡ (next_of look f >>= λ next. Ok (Some next))
next_method look class name desc is f e = rw e refl

next_named : (n : Numbered) (look : Look) (f : KeyedFrame) → next_of look (frame_named n f) ≡ next_at look (runs_of n f.key f.pc) f.pc
unfolding next_of code_of method_of
next_named n look f = refl

by_none : (n : Numbered) (look : Look) (callers : List KeyedFrame) → option_map place_of (slice_get callers 0) ≡ None → next_below look (map (frame_named n) callers) ≡ Ok None
by_none n look [] e = refl
by_none n look (f ∷ fs) e = absurd cc

by_bare : (n : Numbered) (look : Look) (callers : List KeyedFrame) (place : Place) → option_map place_of (slice_get callers 0) ≡ Some place → place.key.method ≡ NO_METHOD → next_below look (map (frame_named n) callers) ≡ Ok None
by_bare n look [] place e h = absurd cc
by_bare n look (f ∷ fs) place e h =
    let is : place_of f ≡ place = cc in
    next_bare look (name_at n f.key.mirror) f.pc (frame_named n f) (runs_of n f.key f.pc) (bare_runs n f.key f.pc (ap (λ (p : Place). p.key.method) is ∙ h))

by_method : (n : Numbered) (look : Look) (callers : List KeyedFrame) (place : Place) → option_map place_of (slice_get callers 0) ≡ Some place → place.key.method ≢ NO_METHOD → All (λ f. IsKey n f.key) callers
    → next_below look (map (frame_named n) callers) ≡ (next_at look (runs_of n place.key place.pc) place.pc >>= λ next. Ok (Some next))
by_method n look [] place e other keys = absurd cc
by_method n look (f ∷ fs) place e other keys =
    let is : place_of f ≡ place = cc in
    let no : f.key.method ≢ NO_METHOD = λ h. other (ap (λ (p : Place). p.key.method) (sym is) ∙ h) in
    let has = method_of_key n f.key no (All-head (λ g. IsKey n g.key) f fs keys) in
    next_method look has.names.class has.names.name has.names.desc (runs_of n f.key f.pc) (frame_named n f) (named_runs n f.key f.pc no has)
    ∙ ap (λ (r : Result ℕ Stop). r >>= λ next. Ok (Some next)) (next_named n look f)
    ∙ ap (λ (p : Place). next_at look (runs_of n p.key p.pc) p.pc >>= λ next. Ok (Some next)) is

pub none_below : (n : Numbered) (look : Look) (s : StackParts) → option_map place_of (slice_get s.rest.below.callers 0) ≡ None → next_below look (callers_named n s) ≡ Ok None
unfolding callers_named
none_below n look s e = by_none n look s.rest.below.callers e

pub bare_below : (n : Numbered) (look : Look) (s : StackParts) (place : Place) → option_map place_of (slice_get s.rest.below.callers 0) ≡ Some place → place.key.method ≡ NO_METHOD → next_below look (callers_named n s) ≡ Ok None
unfolding callers_named
bare_below n look s place e h = by_bare n look s.rest.below.callers place e h

pub method_below : (n : Numbered) (look : Look) (s : StackParts) (place : Place) (r : Result ℕ Stop) → option_map place_of (slice_get s.rest.below.callers 0) ≡ Some place → place.key.method ≢ NO_METHOD → AreKeys n s → next_at look (runs_of n place.key place.pc) place.pc ≡ r
    → next_below look (callers_named n s) ≡ (r >>= λ next. Ok (Some next))
unfolding callers_named
method_below n look s place r e other keys h = by_method n look s.rest.below.callers place e other keys.callers ∙ ap (λ (x : Result ℕ Stop). x >>= λ next. Ok (Some next)) h

key_by : (n : Numbered) (callers : List KeyedFrame) (place : Place) → option_map place_of (slice_get callers 0) ≡ Some place → All (λ f. IsKey n f.key) callers → IsKey n place.key
key_by n [] place e keys = absurd cc
key_by n (f ∷ fs) place e keys = let is : place_of f ≡ place = cc in rw (← is) (All-head (λ g. IsKey n g.key) f fs keys)

pub key_below : (n : Numbered) (s : StackParts) (place : Place) → option_map place_of (slice_get s.rest.below.callers 0) ≡ Some place → AreKeys n s → IsKey n place.key
key_below n s place e keys = key_by n s.rest.below.callers place e keys.callers
