-- What an attempt leaves of which only the top frame, or the isolate, changed.
use Rattle.std.proofs.Common.{◌≡◌, ℕ, List, ◌∷◌, drop, Bool, true, false, Option, Some, None, Result, Ok, Err, refl, sym, ap, ◌∙◌}
use Rattle.std.specs.Prelude.{IsSome, if◌then◌else◌, nat_lt}
use Rattle.mvm_base.specs.declared.value.Word.{Word}
use Rattle.mvm_frame.specs.Parts.{Operands, Rest, StackParts}
use Rattle.mvm_isolate.specs.Isolate.{Isolate}
use Rattle.mvm_isolate.specs.Numbered.{Numbered, named}
use Rattle.mvm_isolate.specs.declared.stop.Stop.{Stop}
use Rattle.mvm_current.specs.Frames.{Frame, at_place, pushed, without}
use Rattle.mvm_current.specs.Keys.{callers_named, frames_named, top_named}
use Rattle.mvm_object.specs.Going.{Context, Point, Went}
use Rattle.mvm_invoke.specs.Leaving.{after_named, left_named}
use Rattle.mvm_invoke.specs.NativeCalls.{put_on}
use Rattle.mvm_invoke.specs.declared.left.After.{After as LeftAfter}
use Rattle.mvm_invoke.specs.declared.left.Left.{Left}
use Rattle.mvm_invoke.proofs.Framing.{some_frames, went_same}

parts : (s : StackParts) (o : Operands) (r : Rest) → s.operands ≡ o → s.rest ≡ r → s ≡ record { operands = o; rest = r }
parts s o r e h = rw (← e, ← h) refl

abbrev slots_off : ℕ → StackParts → Operands
slots_off slots s = record s.operands { slots = drop slots s.operands.slots }

pub top_off : (n : Numbered) (old new : StackParts) (slots : ℕ) → new.operands ≡ slots_off slots old → new.rest ≡ old.rest → top_named n new ≡ without slots (top_named n old)
top_off n old new slots e h = ap (top_named n) (parts new (slots_off slots old) old.rest e h)

callers_same : (n : Numbered) (old new : StackParts) → new.rest.below ≡ old.rest.below → callers_named n new ≡ callers_named n old
unfolding callers_named
callers_same n old new e = rw e refl

pub frames_by : (n : Numbered) (old new : StackParts) (f : Frame) → IsSome old.rest.below.key → new.rest.below ≡ old.rest.below → top_named n new ≡ f → f ∷ callers_named n old ≡ frames_named n new
frames_by n old new f some below top =
    ap (λ (g : Frame). g ∷ callers_named n old) (sym top)
    ∙ ap (λ (fs : List Frame). top_named n new ∷ fs) (sym (callers_same n old new below))
    ∙ sym (some_frames n new new.rest.below.key refl (rw below some))

pub left_by : (c : Context) (n : Numbered) (old new : StackParts) (f : Frame) (l : Left) (object : Option ℕ) (after : LeftAfter) → IsSome old.rest.below.key → new.rest.below ≡ old.rest.below → top_named n new ≡ f
    → c.object ≡ object → l.object ≡ object → l.after ≡ after
    → ◌≡◌ {A = Went} (record { isolate = named n; frames = f ∷ callers_named n old; object = c.object; after = after_named n after }) (left_named n new l)
left_by c n old new f l object after some below top o p a =
    went_same (named n) (f ∷ callers_named n old) (frames_named n new) c.object l.object (after_named n after) (after_named n l.after) (frames_by n old new f some below top) (o ∙ sym p) (ap (after_named n) (sym a))

-- ---- a value is put

pub put_some : (f g : Frame) (r : Result Frame Stop) → r ≡ Ok g → put_on f r ≡ g
put_some f g r e = ap (put_on f) e

pub put_none : (f : Frame) (r : Result Frame Stop) (stop : Stop) → r ≡ Err stop → put_on f r ≡ f
put_none f r stop e = ap (put_on f) e
