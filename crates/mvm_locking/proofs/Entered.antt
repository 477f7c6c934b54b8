-- What is left where a monitor was entered or exited.
use Rattle.std.proofs.Common.{◌≡◌, ℕ, ◌∷◌, Bool, true, false, Some, refl, ◌∙◌}
use Rattle.std.specs.Prelude.{Result, Ok}
use Rattle.mvm_frame.specs.Parts.{StackParts}
use Rattle.mvm_isolate.specs.Isolate.{Isolate}
use Rattle.mvm_isolate.specs.Numbered.{Numbered}
use Rattle.mvm_isolate.specs.Sound.{Grows}
use Rattle.mvm_isolate.specs.declared.stop.Stop.{Stop}
use Rattle.mvm_current.proofs.Growth.{top_grows, callers_grow, keys_grow}
use Rattle.mvm_current.specs.Frames.{Frame, without}
use Rattle.mvm_current.specs.Keys.{top_named, callers_named, AreKeys}
use Rattle.mvm_object.specs.Going.{Context, Point, Went, going_on, in_isolate}
use Rattle.mvm_object.specs.Objects.{top_object}
use Rattle.mvm_locking.specs.Monitors.{monitor_enter, monitor_exit, once_entered, owns, released, Enters}
use Rattle.mvm_locking.proofs.Tops.{top_off}

same_callers : (n : Numbered) (old new : StackParts) → new.rest.below ≡ old.rest.below → callers_named n new ≡ callers_named n old
unfolding callers_named
same_callers n old new e = rw e refl

pub keys_below : (old new : Numbered) (s t : StackParts) → Grows old new → AreKeys old s → t.rest.below ≡ s.rest.below → AreKeys new t
keys_below old new s t g keys e = rw e (keys_grow old new s g keys)

-- the top frame is this one, and those below it are as they were
pub went_on : (old new : Numbered) (s t : StackParts) (f : Frame) → Grows old new → AreKeys old s → t.rest.below ≡ s.rest.below → top_named old t ≡ f → (top_named new t ∷ callers_named new t) ≡ (f ∷ callers_named old s)
went_on old new s t f g keys below e =
    let k : AreKeys old t = rw below keys in
    let top : top_named new t ≡ f = top_grows old new t g k ∙ e in
    let callers : callers_named new t ≡ callers_named old s = callers_grow old new t g k ∙ same_callers old s t below in
    rw (top, callers) refl

pub entered_on : (c : Context) (next object : ℕ) (p : Point) (s : Isolate) → top_object p.frame ≡ Ok object → ((go : Isolate → Result Went Stop) → once_entered c object p go ≡ go s) → monitor_enter c next p ≡ Ok (going_on c next (without 1 p.frame) (in_isolate s p))
unfolding monitor_enter
entered_on c next object p s top enters = rw (top_off p.frame object top) (enters (λ t. Ok (going_on c next (without 1 p.frame) (in_isolate t p))))

pub waits_on : (c : Context) (next object : ℕ) (p : Point) (w : Went) → top_object p.frame ≡ Ok object → ((go : Isolate → Result Went Stop) → once_entered c object p go ≡ Ok w) → monitor_enter c next p ≡ Ok w
unfolding monitor_enter
waits_on c next object p w top enters = rw (top_off p.frame object top) (enters (λ t. Ok (going_on c next (without 1 p.frame) (in_isolate t p))))

pub exited_on : (c : Context) (next object : ℕ) (p : Point) (s : Isolate) → top_object p.frame ≡ Ok object → owns c.thread object p.isolate ≡ true → s ≡ released c.thread (Some object) p.isolate → monitor_exit c next p ≡ Ok (going_on c next (without 1 p.frame) (in_isolate s p))
unfolding monitor_exit released
exited_on c next object p s top owned e = rw (e, top_off p.frame object top, owned) refl

-- what was answered tells which
pub if_entered : (b : Bool) (definition : Result Went Stop) (go : Isolate → Result Went Stop) (waits : Went) (new : Isolate) → b ≡ true → Enters (Ok b) definition go waits new → definition ≡ go new
if_entered true definition go waits new e h = h
if_entered false definition go waits new e h = absurd cc

pub if_waits : (b : Bool) (definition : Result Went Stop) (go : Isolate → Result Went Stop) (waits : Went) (new : Isolate) → b ≡ false → Enters (Ok b) definition go waits new → definition ≡ Ok waits
if_waits true definition go waits new e h = absurd cc
if_waits false definition go waits new e h = h
