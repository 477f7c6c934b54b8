-- What is left of a thread that goes on behind a call, or stays where it is.
use Rattle.std.proofs.Common.{◌≡◌, ℕ, List, ◌∷◌, Result, Ok, Err, refl, sym, ap, ◌∙◌}
use Rattle.std.specs.Prelude.{IsSome}
use Rattle.mvm_frame.specs.Parts.{StackParts}
use Rattle.mvm_isolate.specs.Isolate.{Isolate}
use Rattle.mvm_isolate.specs.Look.{Look}
use Rattle.mvm_isolate.specs.Numbered.{Numbered, look_of, named}
use Rattle.mvm_isolate.specs.Sound.{Grows}
use Rattle.mvm_isolate.specs.declared.stop.Stop.{Stop}
use Rattle.mvm_current.specs.Code.{next_of}
use Rattle.mvm_current.specs.Frames.{Frame, at_place}
use Rattle.mvm_current.specs.Keys.{callers_named, top_named, AreKeys}
use Rattle.mvm_current.proofs.Growth.{callers_grow, top_grows}
use Rattle.mvm_object.specs.Coming.{doing_named, point_of}
use Rattle.mvm_object.specs.Going.{Context, Point, does, going_on, in_isolate, ready, stays}
use Rattle.mvm_object.specs.declared.state.ThreadState.{ThreadState}
use Rattle.mvm_object.specs.declared.state.ThreadState.TheVariants.{Ready}
use Rattle.mvm_invoke.specs.Leaving.{left_named, IsTold}
use Rattle.mvm_invoke.specs.declared.left.After.TheVariants.{Does}
use Rattle.mvm_invoke.specs.declared.left.Left.{Left}
use Rattle.mvm_invoke.specs.declared.left.Told.{Told}
use Rattle.mvm_invoke.proofs.Leaving.{left_by}
use Rattle.mvm_thread.specs.Attempt.{behind_call}

goes_behind : (c : Context) (next : ℕ) (p : Point) → next_of c.look p.frame ≡ Ok next → behind_call c p ≡ Ok (going_on c next p.frame p)
goes_behind c next p e = rw e refl

stops_behind : (c : Context) (stop : Stop) (p : Point) → next_of c.look p.frame ≡ Err stop → behind_call c p ≡ Err stop
stops_behind c stop p e = rw e refl

told_next : (c : Context) (n : Numbered) (told : Told) (s : StackParts) (r : Result ℕ Stop) → IsTold c n told → r ≡ next_of (look_of n) (top_named n s) → next_of c.look (top_named n s) ≡ r
told_next c n told s r is e = ap (λ (look : Look). next_of look (top_named n s)) is.look ∙ sym e

-- it goes on behind the call, in an isolate that has grown
pub behind_step : (c : Context) (old new : Numbered) (told : Told) (s t : StackParts) (next : ℕ) (l : Left) → IsTold c old told → Grows old new → AreKeys old s → IsSome s.rest.below.key
    → Ok next ≡ next_of (look_of old) (top_named old s) → t.rest.below ≡ s.rest.below → top_named new t ≡ at_place next (top_named new s) → l.object ≡ told.object → l.after ≡ Does Ready
    → behind_call c (in_isolate (named new) (point_of old s)) ≡ Ok (left_named new t l)
behind_step c old new told s t next l is grows keys some e below top object after =
    goes_behind c next (in_isolate (named new) (point_of old s)) (told_next c old told s (Ok next) is e)
    ∙ ap Ok (going ∙ left_by c new s t (at_place next (top_named new s)) l told.object (Does Ready) some below top is.object object after)
  where
    at_same : at_place next (top_named old s) ∷ callers_named old s ≡ at_place next (top_named new s) ∷ callers_named new s
    at_same = ap (λ (f : Frame). at_place next f ∷ callers_named old s) (sym (top_grows old new s grows keys)) ∙ ap (λ (fs : List Frame). at_place next (top_named new s) ∷ fs) (sym (callers_grow old new s grows keys))

    going : going_on c next (top_named old s) (in_isolate (named new) (point_of old s)) ≡ going_on c next (top_named new s) (point_of new s)
    going = ap (λ (fs : List Frame). record { isolate = named new; frames = fs; object = c.object; after = does ready }) at_same

pub behind_stops : (c : Context) (old : Numbered) (told : Told) (s : StackParts) (i : Isolate) (stop : Stop) → IsTold c old told → Err stop ≡ next_of (look_of old) (top_named old s) → behind_call c (in_isolate i (point_of old s)) ≡ Err stop
behind_stops c old told s i stop is e = stops_behind c stop (in_isolate i (point_of old s)) (told_next c old told s (Err stop) is e)

-- it stays
pub stays_left : (c : Context) (n : Numbered) (told : Told) (s : StackParts) (state : ThreadState) (l : Left) → IsTold c n told → IsSome s.rest.below.key → l.object ≡ told.object → l.after ≡ Does state
    → stays c (doing_named n state) (point_of n s) ≡ left_named n s l
stays_left c n told s state l is some object after = left_by c n s s (top_named n s) l told.object (Does state) some refl refl is.object object after
