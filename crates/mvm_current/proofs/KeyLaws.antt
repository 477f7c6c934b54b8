-- What a key stands for at each pc, and what stays of that where a frame goes on.
use Rattle.std.proofs.Common.{◌≡◌, ℕ, List, [], ◌∷◌, Bool, true, false, Option, Some, None, refl, sym, ap, ◌∙◌, arith}
use Rattle.std.specs.Prelude.{◌≢◌, ◌==◌, if◌then◌else◌, IfSome, IsSome, All, slice_get, map}
use Rattle.std.proofs.lemmas.Bool.Decides.{nat_tests}
use Rattle.mvm_frame.specs.Parts.{Below, StackParts, frames_of, stack_with}
use Rattle.mvm_frame.specs.Parts.{Frame as KeyedFrame}
use Rattle.mvm_frame.specs.declared.key.FrameKey.{FrameKey}
use Rattle.mvm_local.specs.Body.{body_of}
use Rattle.mvm_member.specs.Members.{MemberName}
use Rattle.mvm_set.specs.declared.class.Lineage.{Lineage}
use Rattle.mvm_isolate.specs.Numbered.{Numbered, class_at, name_at, IsClass}
use Rattle.mvm_current.specs.Frames.{Runs, method, starting, initialising, Frame, at_place}
use Rattle.mvm_current.specs.Keys.{method_of_place, runs_method, runs_bare, runs_of, runs_by, top_named, IsPlaceOf, IsMethodPlace, IsKey, AreKeys, RunsMethod}
use Rattle.mvm_current.specs.Running.{IsMethodRun, IsInitialiserRun}
use Rattle.mvm_current.specs.declared.key.TheConstants.{NO_METHOD}

-- ---- tests

pub taken : {A : Type 0} (b : Bool) (x y : A) → b ≡ true → (if b then x else y) ≡ x
taken true x y e = refl
taken false x y e = absurd cc

pub passed : {A : Type 0} (b : Bool) (x y : A) → b ≡ false → (if b then x else y) ≡ y
passed true x y e = absurd cc
passed false x y e = refl

equal : (m n : ℕ) → m ≡ n → (m == n) ≡ true
equal m n e = grind (arith, nat_tests)

other : (m n : ℕ) → m ≢ n → (m == n) ≡ false
other m n e = grind (arith, nat_tests)

-- ---- what a key stands for

pub bare_runs : (n : Numbered) (key : FrameKey) (pc : ℕ) → key.method ≡ NO_METHOD → runs_of n key pc ≡ runs_bare (name_at n key.mirror) pc
unfolding runs_of
bare_runs n key pc e = taken (key.method == NO_METHOD) (runs_bare (name_at n key.mirror) pc) (runs_method (method_of_place key.method (class_at n key.mirror))) (equal key.method NO_METHOD e)

pub method_runs : (n : Numbered) (key : FrameKey) (pc : ℕ) → key.method ≢ NO_METHOD → runs_of n key pc ≡ runs_method (method_of_place key.method (class_at n key.mirror))
unfolding runs_of
method_runs n key pc e = passed (key.method == NO_METHOD) (runs_bare (name_at n key.mirror) pc) (runs_method (method_of_place key.method (class_at n key.mirror))) (other key.method NO_METHOD e)

pub start_runs : (n : Numbered) (key : FrameKey) (pc : ℕ) → key.method ≡ NO_METHOD → pc ≡ 0 → runs_of n key pc ≡ starting
start_runs n key pc e h = bare_runs n key pc e ∙ taken (pc == 0) starting (initialising (name_at n key.mirror)) (equal pc 0 h)

pub initialiser_runs : (n : Numbered) (key : FrameKey) (pc : ℕ) → key.method ≡ NO_METHOD → pc ≢ 0 → runs_of n key pc ≡ initialising (name_at n key.mirror)
initialiser_runs n key pc e h = bare_runs n key pc e ∙ passed (pc == 0) starting (initialising (name_at n key.mirror)) (other pc 0 h)

-- ---- the method of a key

-- the class of a key, the method of its place, and its names
pub record HasMethod (n : Numbered) (key : FrameKey) : Type 0 where
  pub class : Lineage
  pub at : class_at n key.mirror ≡ Some class
  pub names : MemberName
  pub place : IsPlaceOf key.method class names

has_method : (n : Numbered) (key : FrameKey) (r : Option Lineage) → class_at n key.mirror ≡ r → IsMethodPlace key.method r → HasMethod n key
has_method n key (Some class) e h = record { class = class; at = e; names = h.0; place = h.1 }
has_method n key None e h = absurd h

pub method_of_key : (n : Numbered) (key : FrameKey) → key.method ≢ NO_METHOD → IsKey n key → HasMethod n key
method_of_key n key e is = has_method n key (class_at n key.mirror) refl (is.method e)

pub named_runs : (n : Numbered) (key : FrameKey) (pc : ℕ) → key.method ≢ NO_METHOD → (has : HasMethod n key) → runs_of n key pc ≡ method has.names.class has.names.name has.names.desc
named_runs n key pc e has = method_runs n key pc e ∙ ap (λ r. runs_method (method_of_place key.method r)) has.at ∙ ap runs_method has.place.0

-- ---- as a call tells it

pub is_method : (n : Numbered) (key : FrameKey) (pc : ℕ) → key.method ≢ NO_METHOD → IsKey n key → IsMethodRun (runs_of n key pc)
is_method n key pc e is =
    let has = method_of_key n key e is in
    record { class = has.names.class; name = has.names.name; desc = has.names.desc; is = named_runs n key pc e has }

pub is_initialiser : (n : Numbered) (key : FrameKey) (pc : ℕ) → key.method ≡ NO_METHOD → pc ≢ 0 → IsKey n key → IsInitialiserRun n (runs_of n key pc) key.mirror
is_initialiser n key pc e h is = record { class = is.class; is = initialiser_runs n key pc e h }

pub top_key : (n : Numbered) (key : FrameKey) (r : Option FrameKey) → r ≡ Some key → IfSome r (IsKey n) → IsKey n key
top_key n key r e h = rw e at h

pub top_is_method : (n : Numbered) (s : StackParts) (key : FrameKey) → s.rest.below.key ≡ Some key → key.method ≢ NO_METHOD → AreKeys n s → IsMethodRun (top_named n s).runs
top_is_method n s key e h keys = rw e (is_method n key s.rest.pc h (top_key n key s.rest.below.key e keys.top))

pub top_is_start : (n : Numbered) (s : StackParts) (key : FrameKey) → s.rest.below.key ≡ Some key → key.method ≡ NO_METHOD → s.rest.pc ≡ 0 → (top_named n s).runs ≡ starting
top_is_start n s key e h k = rw e (start_runs n key s.rest.pc h k)

pub top_is_initialiser : (n : Numbered) (s : StackParts) (key : FrameKey) → s.rest.below.key ≡ Some key → key.method ≡ NO_METHOD → s.rest.pc ≢ 0 → AreKeys n s → IsInitialiserRun n (top_named n s).runs key.mirror
top_is_initialiser n s key e h k keys = rw e (is_initialiser n key s.rest.pc h k (top_key n key s.rest.below.key e keys.top))

-- ---- a frame that goes on

pub runs_stay : (n : Numbered) (key : Option FrameKey) (from to : ℕ) → IfSome key (λ k. k.method ≢ NO_METHOD) → runs_by n key to ≡ runs_by n key from
runs_stay n (Some key) from to h = method_runs n key to h ∙ sym (method_runs n key from h)
runs_stay n None from to h = refl

moved : (n : Numbered) (pc : ℕ) (s : StackParts) → runs_by n s.rest.below.key pc ≡ runs_by n s.rest.below.key s.rest.pc → top_named n (record s { rest = record s.rest { pc = pc } }) ≡ at_place pc (top_named n s)
moved n pc s e = ap (λ runs. record (at_place pc (top_named n s)) { runs = runs }) e

pub place_set : (n : Numbered) (pc : ℕ) (old new : StackParts) → new.operands ≡ old.operands → new.rest ≡ record old.rest { pc = pc } → RunsMethod old → top_named n new ≡ at_place pc (top_named n old)
place_set n pc old new e h is = rw (e, h) (moved n pc old (runs_stay n old.rest.below.key old.rest.pc pc is))

stage_stays : (n : Numbered) (key : Option FrameKey) (from to : ℕ) → from ≢ 0 → to ≢ 0 → runs_by n key to ≡ runs_by n key from
unfolding runs_of
stage_stays n (Some key) from to h k = by (key.method == NO_METHOD)
  where
    by : (b : Bool) → (if b then runs_bare (name_at n key.mirror) to else runs_method (method_of_place key.method (class_at n key.mirror))) ≡ (if b then runs_bare (name_at n key.mirror) from else runs_method (method_of_place key.method (class_at n key.mirror)))
    by true = passed (to == 0) starting (initialising (name_at n key.mirror)) (other to 0 k) ∙ sym (passed (from == 0) starting (initialising (name_at n key.mirror)) (other from 0 h))
    by false = refl
stage_stays n None from to h k = refl

pub stage_set : (n : Numbered) (pc : ℕ) (old new : StackParts) → new.operands ≡ old.operands → new.rest ≡ record old.rest { pc = pc } → old.rest.pc ≢ 0 → pc ≢ 0 → top_named n new ≡ at_place pc (top_named n old)
stage_set n pc old new e h from to = rw (e, h) (moved n pc old (stage_stays n old.rest.below.key old.rest.pc pc from to))

pub body_tells : (n : Numbered) (old new : StackParts) → new.rest.below ≡ old.rest.below → RunsMethod old → top_named n new ≡ record (top_named n old) { body = body_of new }
body_tells n old new e is = rw e (ap (λ (runs : Runs). record (record (top_named n old) { body = body_of new }) { runs = runs }) (runs_stay n old.rest.below.key old.rest.pc new.rest.pc is))
