-- The method of a frame's key is the one that a look-up of its names gives.
use Rattle.std.proofs.Common.{◌≡◌, ℕ, List, Bool, true, false, Option, Some, None, refl, sym, ap, ◌∙◌}
use Rattle.std.specs.Prelude.{◌≢◌, ◌==◌, if◌then◌else◌, slice_get, IfSome, IsSome, Result, Ok, Err}
use Rattle.mvm_base.specs.Answers.{◌>>=◌}
use Rattle.mvm_frame.specs.Parts.{StackParts}
use Rattle.mvm_frame.specs.declared.key.FrameKey.{FrameKey}
use Rattle.mvm_layout.specs.Pool.{text}
use Rattle.mvm_layout.specs.declared.parts.Member.{Member}
use Rattle.mvm_layout.specs.declared.parts.Parts.{Parts}
use Rattle.mvm_set.specs.Members.{method_at}
use Rattle.mvm_set.specs.Names.{own_name}
use Rattle.mvm_set.specs.declared.class.Lineage.{Lineage}
use Rattle.mvm_native.specs.declared.out.Thrown.TheVariants.{VerifyError}
use Rattle.mvm_member.specs.Members.{MemberName, member_named, named_in, method_declared}
use Rattle.mvm_member.proofs.Apart.{declared_at}
use Rattle.mvm_isolate.specs.Faults.{looked_up}
use Rattle.mvm_isolate.specs.Isolate.{stopped}
use Rattle.mvm_isolate.specs.Look.{Look}
use Rattle.mvm_isolate.specs.Members.{or_verify, method_in}
use Rattle.mvm_isolate.specs.Numbered.{Numbered, class_at, name_of, name_in, name_at, look_of, IsClass}
use Rattle.mvm_isolate.specs.declared.stop.Stop.{Stop}
use Rattle.mvm_current.specs.Code.{method_for, method_of}
use Rattle.mvm_current.specs.Frames.{Runs, method, starting, initialising}
use Rattle.mvm_current.specs.Keys.{runs_bare, runs_of, runs_by, top_named, IsKey, AreKeys}
use Rattle.mvm_current.specs.declared.key.TheConstants.{NO_METHOD}
use Rattle.mvm_current.proofs.KeyLaws.{bare_runs, named_runs, method_of_key, top_key, HasMethod}

-- ---- a member by its names

parts_of : (class name desc : Option (List ℕ)) (flags : ℕ) (m : MemberName) → member_named class name desc flags ≡ Some m → (class ≡ Some m.class) × (name ≡ Some m.name) × (desc ≡ Some m.desc)
parts_of (Some class) (Some name) (Some desc) flags m e =
    let is : record { class = class; name = name; desc = desc; flags = flags } ≡ m = cc in
    (ap (λ (x : MemberName). Some x.class) is, ap (λ (x : MemberName). Some x.name) is, ap (λ (x : MemberName). Some x.desc) is)
parts_of (Some class) (Some name) None flags m e = absurd cc
parts_of (Some class) None desc flags m e = absurd cc
parts_of None name desc flags m e = absurd cc

pub record IsNamed (file : Parts) (member : Member) (m : MemberName) : Type 0 where
  pub class : own_name file ≡ Some m.class
  pub name : text file.pool member.name ≡ Some m.name
  pub desc : text file.pool member.desc ≡ Some m.desc

pub names_of : (file : Parts) (member : Member) (m : MemberName) → named_in file (Some member) ≡ Some m → IsNamed file member m
names_of file member m e =
    let x = parts_of (own_name file) (text file.pool member.name) (text file.pool member.desc) member.flags m e in record { class = x.0; name = x.1; desc = x.2 }

never_none : (file : Parts) (m : MemberName) → named_in file None ≡ Some m → ⊥
never_none file m e = absurd cc

-- ---- the method of a key

same_class : (n : Numbered) (key : FrameKey) (class : Lineage) → (has : HasMethod n key) → class_at n key.mirror ≡ Some class → has.class ≡ class
same_class n key class has e = let same : Some has.class ≡ Some class = sym has.at ∙ e in cc

-- a method stands at the place of a key
pub never_missing : (n : Numbered) (key : FrameKey) (class : Lineage) → class_at n key.mirror ≡ Some class → slice_get class.file.methods key.method ≡ None → key.method ≢ NO_METHOD → IsKey n key → ⊥
never_missing n key class e none other is =
    let has = method_of_key n key other is in
    let same = same_class n key class has e in
    never_none has.class.file has.names (rw (ap (λ (c : Lineage). slice_get c.file.methods key.method) same ∙ none) at has.place.0)

pub key_names : (n : Numbered) (key : FrameKey) (class : Lineage) (member : Member) → (has : HasMethod n key) → class_at n key.mirror ≡ Some class → slice_get class.file.methods key.method ≡ Some member → IsNamed class.file member has.names
key_names n key class member has e at =
    let same = same_class n key class has e in
    let here : named_in class.file (Some member) ≡ Some has.names = rw (same, at) at has.place.0 in
    names_of class.file member has.names here

pub key_class : (n : Numbered) (key : FrameKey) → (has : HasMethod n key) → own_name has.class.file ≡ Some has.names.class → name_at n key.mirror ≡ has.names.class
unfolding name_in
key_class n key has e = rw (has.at, e) refl

-- what a look-up of the class of a number gives
abbrev pub Finds : Numbered → ℕ → Type 0
Finds n mirror = (class : Lineage) → class_at n mirror ≡ Some class → looked_up ((look_of n).class (name_at n mirror)) ≡ Ok class

found_by_names : (look : Look) (class : Lineage) (member : Member) (place : ℕ) (called name desc : List ℕ) → looked_up (look.class called) ≡ Ok class → method_at name desc class.file ≡ Some place → slice_get class.file.methods place ≡ Some member → method_in look called name desc ≡ Ok member
unfolding method_in
found_by_names look class member place called name desc found at is = rw (found, declared_at name desc class.file place at, is) refl

pub method_found : (n : Numbered) (s : StackParts) (key : FrameKey) (member : Member) → s.rest.below.key ≡ Some key → key.method ≢ NO_METHOD → AreKeys n s → ((class : Lineage) → class_at n key.mirror ≡ Some class → Some member ≡ slice_get class.file.methods key.method) → Finds n key.mirror → method_of (look_of n) (top_named n s) ≡ Ok member
unfolding method_of
method_found n s key member e other keys value found =
    let has = method_of_key n key other (top_key n key s.rest.below.key e keys.top) in
    let at : slice_get has.class.file.methods key.method ≡ Some member = sym (value has.class has.at) in
    let named = key_class n key has (key_names n key has.class member has has.at at).class in
    let runs : runs_by n s.rest.below.key s.rest.pc ≡ method has.names.class has.names.name has.names.desc = ap (λ (r : Option FrameKey). runs_by n r s.rest.pc) e ∙ named_runs n key s.rest.pc other has in
    ap (method_for (look_of n)) runs
    ∙ found_by_names (look_of n) has.class member key.method has.names.class has.names.name has.names.desc (rw named at (found has.class has.at)) has.place.1 at

-- ---- a frame without a method

by_test : {A : Type 0} (f : Runs → A) (x : A) (class : List ℕ) (b : Bool) → f starting ≡ x → f (initialising class) ≡ x → f (if b then starting else initialising class) ≡ x
by_test f x class true p q = p
by_test f x class false p q = q

-- what holds of a start and of an initialisation holds of a frame without a method
pub of_bare : {A : Type 0} (f : Runs → A) (x : A) (n : Numbered) (s : StackParts) → IsSome s.rest.below.key → IfSome s.rest.below.key (λ key. key.method ≡ NO_METHOD) → f starting ≡ x → ((class : List ℕ) → f (initialising class) ≡ x) → f (top_named n s).runs ≡ x
of_bare {A} f x n s some none p q = by s.rest.below.key some none
  where
    by : (r : Option FrameKey) → IsSome r → IfSome r (λ key. key.method ≡ NO_METHOD) → f (runs_by n r s.rest.pc) ≡ x
    by (Some key) is e = rw (bare_runs n key s.rest.pc e) (by_test f x (name_at n key.mirror) (s.rest.pc == 0) p (q (name_at n key.mirror)))
    by None is e = absurd cc

pub no_method : (n : Numbered) (s : StackParts) (look : Look) → IsSome s.rest.below.key → IfSome s.rest.below.key (λ key. key.method ≡ NO_METHOD) → method_of look (top_named n s) ≡ stopped VerifyError
unfolding method_of
no_method n s look some none = of_bare (method_for look) (stopped VerifyError) n s some none refl (λ class. refl)
