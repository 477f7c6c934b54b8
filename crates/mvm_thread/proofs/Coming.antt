-- What one attempt comes to.
use Rattle.std.proofs.Common.{◌≡◌, ℕ, List, Ok, Err, refl, sym, ap, ◌∙◌, ◌⊎◌, inl, inr}
use Rattle.std.specs.Prelude.{◌≢◌, IsSome}
use Rattle.mvm_frame.specs.Parts.{StackParts}
use Rattle.mvm_isolate.specs.Isolate.{Isolate}
use Rattle.mvm_isolate.specs.Numbered.{Numbered, named}
use Rattle.mvm_isolate.specs.declared.stop.Stop.{Stop}
use Rattle.mvm_isolate.specs.declared.stop.Stop.TheVariants.{Throw, Object, OutOfMemory}
use Rattle.mvm_native.specs.declared.out.Thrown.{Thrown}
use Rattle.mvm_current.specs.Frames.{Frame}
use Rattle.mvm_current.specs.Keys.{frames_named}
use Rattle.mvm_object.specs.Coming.{point_of}
use Rattle.mvm_object.specs.Going.{Context, Doing, Went}
use Rattle.mvm_object.proofs.Initialising.{frames_there}
use Rattle.mvm_throwing.specs.Throwing.{throw}
use Rattle.mvm_thread.specs.Attempt.{after_throw, attempt, attempted, settled_by}

attempt_of : (c : Context) (doing : Doing) (n : Numbered) (s : StackParts) (w : Went) → IsSome s.rest.below.key → attempted c doing (point_of n s) ≡ Ok w → attempt c doing (named n) (frames_named n s) ≡ Ok (settled_by w w.after)
unfolding attempt
attempt_of c doing n s w some e = rw (frames_there n s some, e) refl

-- nothing was thrown
pub attempt_settles : (c : Context) (doing : Doing) (n : Numbered) (s : StackParts) (w x : Went) → IsSome s.rest.below.key → attempted c doing (point_of n s) ≡ Ok w → x ≡ settled_by w w.after → attempt c doing (named n) (frames_named n s) ≡ Ok x
attempt_settles c doing n s w x some e is = attempt_of c doing n s w some e ∙ ap Ok (sym is)

-- something was thrown
pub attempt_throws : (c : Context) (doing : Doing) (n : Numbered) (s : StackParts) (why : Stop) → IsSome s.rest.below.key → attempted c doing (point_of n s) ≡ Err why → attempt c doing (named n) (frames_named n s) ≡ after_throw c (throw c.look c.thread why (named n) (frames_named n s))
unfolding attempt
attempt_throws c doing n s why some e = rw (frames_there n s some, e) refl

-- it is thrown from the state before
pub thrown_before : (c : Context) (old new : Numbered) (s t : StackParts) (why : Stop) (w : Went) → named new ≡ named old → frames_named new s ≡ frames_named old s
    → throw c.look c.thread why (named new) (frames_named new t) ≡ throw c.look c.thread why (named new) (frames_named new s)
    → after_throw c (throw c.look c.thread why (named new) (frames_named new t)) ≡ Ok w → after_throw c (throw c.look c.thread why (named old) (frames_named old s)) ≡ Ok w
thrown_before c old new s t why w same frames law e =
    ap (λ (i : Isolate). after_throw c (throw c.look c.thread why i (frames_named old s))) (sym same)
    ∙ ap (λ (fs : List Frame). after_throw c (throw c.look c.thread why (named new) fs)) (sym frames)
    ∙ ap (after_throw c) (sym law)
    ∙ e

-- what an attempt throws is no want of the machine's own memory
pub is_definite : (why : Stop) → ((thrown : Thrown) × (why ≡ Throw thrown)) ⊎ ((object : ℕ) × (why ≡ Object object)) → why ≢ OutOfMemory
is_definite why (inl (thrown, e)) same = absurd (let k : Throw thrown ≡ OutOfMemory = sym e ∙ same in cc)
is_definite why (inr (object, e)) same = absurd (let k : Object object ≡ OutOfMemory = sym e ∙ same in cc)
