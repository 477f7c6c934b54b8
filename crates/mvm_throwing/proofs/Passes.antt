-- How the test of a throw's words goes on from frame to frame.
use Rattle.std.proofs.Common.{◌≡◌, ℕ, zero, suc, ◌+◌, ◌-◌, ◌<◌, ◌≤◌, List, [], ◌∷◌, length, drop, Bool, true, false, Option, Some, None, refl, sym, ap, ◌∙◌, arith}
use Rattle.std.specs.Prelude.{nat_le, if◌then◌else◌, IfSome, All, map, slice_get}
use Rattle.std.specs.Option.{option_map}
use Rattle.std.proofs.lemmas.List.Elements.{All-head, All-tail}
use Rattle.mvm_frame.specs.Calls.{place_of}
use Rattle.mvm_frame.specs.Parts.{StackParts, frames_of}
use Rattle.mvm_frame.specs.Parts.{Frame as KeyedFrame}
use Rattle.mvm_frame.specs.declared.place.Place.{Place}
use Rattle.mvm_native.specs.declared.out.Thrown.TheVariants.{ExceptionInInitializerError}
use Rattle.mvm_isolate.specs.Look.{Look}
use Rattle.mvm_isolate.specs.Numbered.{Numbered, look_of, name_at, type_of}
use Rattle.mvm_isolate.specs.declared.type_at.TypeAt.TheVariants as at
use Rattle.std.proofs.lemmas.Bool.Decides.{nat_tests}
use Rattle.std.proofs.lemmas.List.{length-map}
use Rattle.mvm_isolate.specs.Thrown.{name_of_thrown}
use Rattle.mvm_isolate.specs.Types.{ReferenceType, of_class}
use Rattle.mvm_current.specs.Frames.{Frame}
use Rattle.mvm_current.specs.Keys.{frame_named, frames_named, runs_of, IsKey, AreKeys}
use Rattle.mvm_current.proofs.Entering.{all_keys}
use Rattle.mvm_current.proofs.Reading.{drop_step}
use Rattle.mvm_throwing.specs.Throwing.{handler_for}
use Rattle.mvm_throwing.specs.Unwinding.{THROWABLE, caught_or_goes, wraps, unwinds}

-- ---- the frame of a place

place_in : (f : Option KeyedFrame) (place : Place) → option_map place_of f ≡ Some place → (g : KeyedFrame) × ((f ≡ Some g) × (place_of g ≡ place))
place_in (Some g) place e = (g, (refl, cc))
place_in None place e = absurd (let k : None ≡ Some place = e in cc)

named_at : (n : Numbered) (fs : List KeyedFrame) (i : ℕ) (f : KeyedFrame) → slice_get fs i ≡ Some f → slice_get (map (frame_named n) fs) i ≡ Some (frame_named n f)
named_at n [] i f e = absurd (let k : None ≡ Some f = e in cc)
named_at n (g ∷ fs) zero f e = let k : g ≡ f = cc in ap (λ (h : KeyedFrame). Some (frame_named n h)) k
named_at n (g ∷ fs) (suc i) f e = named_at n fs i f e

key_at : (n : Numbered) (fs : List KeyedFrame) (i : ℕ) (f : KeyedFrame) → slice_get fs i ≡ Some f → All (λ (g : KeyedFrame). IsKey n g.key) fs → IsKey n f.key
key_at n [] i f e all = absurd (let k : None ≡ Some f = e in cc)
key_at n (g ∷ fs) zero f e all = let k : g ≡ f = cc in let one : IsKey n g.key = All-head (λ (h : KeyedFrame). IsKey n h.key) g fs all in rw k at one
key_at n (g ∷ fs) (suc i) f e all = key_at n fs i f e (All-tail (λ (h : KeyedFrame). IsKey n h.key) g fs all)

-- the frame at a place, its key and its pc
pub record IsPlace (n : Numbered) (s : StackParts) (i : ℕ) (place : Place) : Type 0 where
  pub frame : Frame
  pub stands : slice_get (frames_named n s) i ≡ Some frame
  pub runs : frame.runs ≡ runs_of n place.key place.pc
  pub pc : frame.body.pc ≡ place.pc
  pub key : IsKey n place.key

pub place_is : (n : Numbered) (s : StackParts) (i : ℕ) (place : Place) → AreKeys n s → option_map place_of (slice_get (frames_of s) i) ≡ Some place → IsPlace n s i place
unfolding frames_named
place_is n s i place keys e =
    let f = place_in (slice_get (frames_of s) i) place e in
    let same : f.0.key ≡ place.key = ap (λ (p : Place). p.key) f.1.1 in
    let is : IsKey n f.0.key = key_at n (frames_of s) i f.0 f.1.0 (all_keys n s keys) in
    record {
      frame = frame_named n f.0;
      stands = named_at n (frames_of s) i f.0 f.1.0;
      runs = ap (λ (p : Place). runs_of n p.key p.pc) f.1.1;
      pc = ap (λ (p : Place). p.pc) f.1.1;
      key = rw same at is;
    }

-- ---- one frame on the way

abbrev ERROR : Option ReferenceType
ERROR = Some (of_class (name_of_thrown ExceptionInInitializerError))

one_caught : (look : Look) (left : ℕ) (f : Frame) (fs : List Frame) (type : Option ReferenceType) (handler : ℕ) → handler_for look f.runs f.body.pc type ≡ Some handler → unwinds look left (f ∷ fs) type ≡ true
unfolding unwinds
one_caught look left f fs type handler e = rw e refl

one_goes : (look : Look) (left : ℕ) (f : Frame) (fs : List Frame) (type : Option ReferenceType) → handler_for look f.runs f.body.pc type ≡ None → wraps look f.runs f.body.pc type ≡ false → unwinds look left (f ∷ fs) type ≡ unwinds look left fs type
unfolding unwinds
one_goes look left f fs type e w = rw (e, w) refl

one_wraps : (look : Look) (left : ℕ) (f : Frame) (fs : List Frame) (type : Option ReferenceType) → handler_for look f.runs f.body.pc type ≡ None → wraps look f.runs f.body.pc type ≡ true → nat_le THROWABLE left ≡ true → unwinds look left (f ∷ fs) type ≡ unwinds look (left - THROWABLE) fs ERROR
unfolding unwinds
one_wraps look left f fs type e w fits = rw (e, w, fits) refl

one_lacks : (look : Look) (left : ℕ) (f : Frame) (fs : List Frame) (type : Option ReferenceType) → handler_for look f.runs f.body.pc type ≡ None → wraps look f.runs f.body.pc type ≡ true → nat_le THROWABLE left ≡ false → unwinds look left (f ∷ fs) type ≡ false
unfolding unwinds
one_lacks look left f fs type e w lacks = rw (e, w, lacks) refl

-- ---- the frames from a place on

abbrev from : Numbered → StackParts → ℕ → List Frame
from n s i = drop i (frames_named n s)

here : (n : Numbered) (s : StackParts) (i : ℕ) (place : Place) → (p : IsPlace n s i place) → from n s i ≡ p.frame ∷ from n s (i + 1)
here n s i place p = drop_step (frames_named n s) i p.frame p.stands

handler_here : (n : Numbered) (s : StackParts) (i : ℕ) (place : Place) (type : Option ReferenceType) → (p : IsPlace n s i place) → handler_for (look_of n) p.frame.runs p.frame.body.pc type ≡ handler_for (look_of n) (runs_of n place.key place.pc) place.pc type
handler_here n s i place type p = rw (p.runs, p.pc) refl

wraps_here : (n : Numbered) (s : StackParts) (i : ℕ) (place : Place) (type : Option ReferenceType) → (p : IsPlace n s i place) → wraps (look_of n) p.frame.runs p.frame.body.pc type ≡ wraps (look_of n) (runs_of n place.key place.pc) place.pc type
wraps_here n s i place type p = rw (p.runs, p.pc) refl

pub caught_here : (n : Numbered) (s : StackParts) (i left : ℕ) (place : Place) (type : Option ReferenceType) (handler : ℕ) → IsPlace n s i place → handler_for (look_of n) (runs_of n place.key place.pc) place.pc type ≡ Some handler → unwinds (look_of n) left (from n s i) type ≡ true
caught_here n s i left place type handler p e = rw (here n s i place p) (one_caught (look_of n) left p.frame (from n s (i + 1)) type handler (handler_here n s i place type p ∙ e))

pub goes_here : (n : Numbered) (s : StackParts) (i left : ℕ) (place : Place) (type : Option ReferenceType) → IsPlace n s i place → handler_for (look_of n) (runs_of n place.key place.pc) place.pc type ≡ None → wraps (look_of n) (runs_of n place.key place.pc) place.pc type ≡ false → unwinds (look_of n) left (from n s i) type ≡ unwinds (look_of n) left (from n s (i + 1)) type
goes_here n s i left place type p e w = rw (here n s i place p) (one_goes (look_of n) left p.frame (from n s (i + 1)) type (handler_here n s i place type p ∙ e) (wraps_here n s i place type p ∙ w))

pub wraps_on : (n : Numbered) (s : StackParts) (i left : ℕ) (place : Place) (type : Option ReferenceType) → IsPlace n s i place → handler_for (look_of n) (runs_of n place.key place.pc) place.pc type ≡ None → wraps (look_of n) (runs_of n place.key place.pc) place.pc type ≡ true → nat_le THROWABLE left ≡ true → unwinds (look_of n) left (from n s i) type ≡ unwinds (look_of n) (left - THROWABLE) (from n s (i + 1)) ERROR
wraps_on n s i left place type p e w fits = rw (here n s i place p) (one_wraps (look_of n) left p.frame (from n s (i + 1)) type (handler_here n s i place type p ∙ e) (wraps_here n s i place type p ∙ w) fits)

pub lacks_here : (n : Numbered) (s : StackParts) (i left : ℕ) (place : Place) (type : Option ReferenceType) → IsPlace n s i place → handler_for (look_of n) (runs_of n place.key place.pc) place.pc type ≡ None → wraps (look_of n) (runs_of n place.key place.pc) place.pc type ≡ true → (words : ℕ) → words ≡ THROWABLE → left < words → unwinds (look_of n) left (from n s i) type ≡ false
lacks_here n s i left place type p e w words few lacks =
    let less : left < THROWABLE = rw few at lacks in
    let test : nat_le THROWABLE left ≡ false = grind (arith, nat_tests, less) in
    rw (here n s i place p) (one_lacks (look_of n) left p.frame (from n s (i + 1)) type (handler_here n s i place type p ∙ e) (wraps_here n s i place type p ∙ w) test)

-- ---- the loop

-- it goes on behind a frame that makes another object
pub wraps_more : (n : Numbered) (s : StackParts) (i left words mirror : ℕ) (place : Place) (type : Option ReferenceType) (all : Bool) → IsPlace n s i place → handler_for (look_of n) (runs_of n place.key place.pc) place.pc type ≡ None → wraps (look_of n) (runs_of n place.key place.pc) place.pc type ≡ true → words ≡ THROWABLE → THROWABLE ≤ left → name_at n mirror ≡ name_of_thrown ExceptionInInitializerError → unwinds (look_of n) left (from n s i) type ≡ all → unwinds (look_of n) (left - words) (from n s (i + 1)) (option_map (type_of n) (Some (at.Class mirror))) ≡ all
unfolding type_of
wraps_more n s i left words mirror place type all p e w few fits name same =
    rw (few, name) (sym (wraps_on n s i left place type p e w (grind (arith, nat_tests, fits))) ∙ same)

past : (fs : List Frame) (i : ℕ) → length fs ≤ i → drop i fs ≡ []
past [] zero h = refl
past [] (suc i) h = refl
past (f ∷ fs) zero h = absurd (omega (arith, h))
past (f ∷ fs) (suc i) h = past fs i (omega (arith, h))

end_true : (look : Look) (left : ℕ) (type : Option ReferenceType) → unwinds look left [] type ≡ true
unfolding unwinds
end_true look left type = refl

-- behind the last frame nothing is missing
pub at_end : (n : Numbered) (s : StackParts) (i left : ℕ) (type : Option ReferenceType) → length (frames_of s) ≤ i → unwinds (look_of n) left (from n s i) type ≡ true
unfolding frames_named
at_end n s i left type h =
    let few : length (map (frame_named n) (frames_of s)) ≡ length (frames_of s) = length-map (frames_of s) (frame_named n) in
    rw (past (map (frame_named n) (frames_of s)) i (omega (arith, few, h))) (end_true (look_of n) left type)
