-- Where numbers stay those of their classes, keys stay keys, and stand for what they stood for.
use Rattle.std.proofs.Common.{◌≡◌, ℕ, zero, suc, ◌<◌, List, [], ◌∷◌, length, Option, Some, None, refl, sym, ap, ◌∙◌, arith}
use Rattle.std.specs.Prelude.{◌≢◌, ◌==◌, if◌then◌else◌, IfSome, All, map, slice_get}
use Rattle.std.proofs.lemmas.List.Elements.{All-cons, All-head, All-tail, All-weaker}
use Rattle.std.proofs.lemmas.Option.{slice_get_within}
use Rattle.mvm_frame.specs.Parts.{StackParts, frames_of}
use Rattle.mvm_frame.specs.Parts.{Frame as KeyedFrame}
use Rattle.mvm_frame.specs.declared.key.FrameKey.{FrameKey}
use Rattle.mvm_mirror.specs.Kept.{classes_of}
use Rattle.mvm_set.specs.declared.class.Lineage.{Lineage}
use Rattle.mvm_isolate.specs.Numbered.{Numbered, class_at, name_of, name_in, name_at, IsClass}
use Rattle.mvm_isolate.specs.Sound.{Grows}
use Rattle.mvm_current.specs.Frames.{Runs, Frame}
use Rattle.mvm_current.specs.declared.key.TheConstants.{NO_METHOD}
use Rattle.mvm_current.specs.Keys.{method_of_place, runs_method, runs_bare, runs_of, runs_by, frame_named, frames_named, top_named, callers_named, IsMethodPlace, IsKey, AreKeys}
use Rattle.mvm_current.proofs.Entering.{all_keys}

pub there_is : {X : Type 0} (xs : List X) (i : ℕ) → i < length xs → (x : X) × (slice_get xs i ≡ Some x)
there_is [] i h = absurd (omega arith)
there_is (x ∷ xs) zero h = (x, refl)
there_is (x ∷ xs) (suc i) h = there_is xs i (omega arith)

-- ---- one number

pub class_grows : (old new : Numbered) (mirror : ℕ) → Grows old new → IsClass old mirror → class_at new mirror ≡ class_at old mirror
class_grows old new mirror grows is =
    let x = there_is (classes_of old.mirrors) mirror is in grows.classes mirror x.0 x.1 ∙ sym x.1

pub is_class_grows : (old new : Numbered) (mirror : ℕ) → Grows old new → IsClass old mirror → IsClass new mirror
is_class_grows old new mirror grows is =
    let x = there_is (classes_of old.mirrors) mirror is in slice_get_within (classes_of new.mirrors) mirror x.0 (grows.classes mirror x.0 x.1)

pub name_grows : (old new : Numbered) (mirror : ℕ) → Grows old new → IsClass old mirror → name_at new mirror ≡ name_at old mirror
unfolding name_in
name_grows old new mirror grows is = ap name_of (class_grows old new mirror grows is)

-- ---- one key

pub key_grows : (old new : Numbered) (key : FrameKey) → Grows old new → IsKey old key → IsKey new key
key_grows old new key grows is = record {
  class = is_class_grows old new key.mirror grows is.class;
  method = λ no. rw (class_grows old new key.mirror grows is.class) (is.method no);
}

pub runs_grow : (old new : Numbered) (key : FrameKey) (pc : ℕ) → Grows old new → IsKey old key → runs_of new key pc ≡ runs_of old key pc
unfolding runs_of
runs_grow old new key pc grows is = rw (name_grows old new key.mirror grows is.class, class_grows old new key.mirror grows is.class) refl

-- ---- frames

frame_grows : (old new : Numbered) (f : KeyedFrame) → Grows old new → IsKey old f.key → frame_named new f ≡ frame_named old f
frame_grows old new f grows is = ap (λ (runs : Runs). record (frame_named old f) { runs = runs }) (runs_grow old new f.key f.pc grows is)

frames_by_keys : (old new : Numbered) (fs : List KeyedFrame) → Grows old new → All (λ f. IsKey old f.key) fs → map (frame_named new) fs ≡ map (frame_named old) fs
frames_by_keys old new [] grows keys = refl
frames_by_keys old new (f ∷ fs) grows keys =
    let one = frame_grows old new f grows (All-head (λ g. IsKey old g.key) f fs keys) in
    let others = frames_by_keys old new fs grows (All-tail (λ g. IsKey old g.key) f fs keys) in
    rw (one, others) refl

pub frames_grow : (old new : Numbered) (s : StackParts) → Grows old new → AreKeys old s → frames_named new s ≡ frames_named old s
unfolding frames_named
frames_grow old new s grows keys = frames_by_keys old new (frames_of s) grows (all_keys old s keys)

pub callers_grow : (old new : Numbered) (s : StackParts) → Grows old new → AreKeys old s → callers_named new s ≡ callers_named old s
unfolding callers_named
callers_grow old new s grows keys = frames_by_keys old new s.rest.below.callers grows keys.callers

runs_by_grow : (old new : Numbered) (key : Option FrameKey) (pc : ℕ) → Grows old new → IfSome key (IsKey old) → runs_by new key pc ≡ runs_by old key pc
runs_by_grow old new (Some key) pc grows is = runs_grow old new key pc grows is
runs_by_grow old new None pc grows is = refl

pub top_grows : (old new : Numbered) (s : StackParts) → Grows old new → AreKeys old s → top_named new s ≡ top_named old s
top_grows old new s grows keys = ap (λ (runs : Runs). record (top_named old s) { runs = runs }) (runs_by_grow old new s.rest.below.key s.rest.pc grows keys.top)

-- ---- keys

top_stays : (old new : Numbered) (key : Option FrameKey) → Grows old new → IfSome key (IsKey old) → IfSome key (IsKey new)
top_stays old new (Some key) grows is = key_grows old new key grows is
top_stays old new None grows is = is

pub keys_grow : (old new : Numbered) (s : StackParts) → Grows old new → AreKeys old s → AreKeys new s
keys_grow old new s grows keys = record {
  top = top_stays old new s.rest.below.key grows keys.top;
  callers = All-weaker (λ f. IsKey old f.key) (λ f. IsKey new f.key) (λ f is. key_grows old new f.key grows is) s.rest.below.callers keys.callers;
}
