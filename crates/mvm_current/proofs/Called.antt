-- What a frame's method names: its class, the entries of the class's constant pool, and itself; and the key that stands for a name.
use Rattle.std.proofs.Common.{◌≡◌, ℕ, ◌<◌, List, length, Bool, true, false, ◌&&◌, Option, Some, None, refl, sym, ap, ◌∙◌}
use Rattle.std.specs.Prelude.{◌≢◌, slice_get, IfSome, IsSome, Result, Ok, Err}
use Rattle.std.specs.Str.{bytes_eq}
use Rattle.mvm_base.specs.Answers.{◌>>=◌}
use Rattle.mvm_frame.specs.Parts.{StackParts}
use Rattle.mvm_frame.specs.declared.key.FrameKey.{FrameKey}
use Rattle.mvm_layout.specs.Pool.{text}
use Rattle.mvm_layout.specs.declared.parts.Member.{Member}
use Rattle.mvm_layout.specs.declared.parts.Parts.{Parts}
use Rattle.mvm_set.specs.Members.{method_at}
use Rattle.mvm_set.specs.Names.{own_name}
use Rattle.mvm_set.specs.declared.class.Lineage.{Lineage}
use Rattle.mvm_native.specs.declared.out.Thrown.TheVariants.{VerifyError}
use Rattle.mvm_member.specs.Members.{MemberName, member_named, member_at, named_in, method_declared}
use Rattle.mvm_member.proofs.Apart.{declared_at, declared_named}
use Rattle.mvm_isolate.specs.Faults.{looked_up}
use Rattle.mvm_isolate.specs.Isolate.{stopped}
use Rattle.mvm_isolate.specs.Look.{Look}
use Rattle.mvm_isolate.specs.Members.{or_verify, method_in}
use Rattle.mvm_isolate.specs.Numbered.{Numbered, class_at, name_at, IsClass}
use Rattle.mvm_isolate.specs.declared.stop.Stop.{Stop}
use Rattle.mvm_current.specs.Entries.{entry_for, entry_at, is_method_of}
use Rattle.mvm_current.specs.Frames.{Runs, method, starting, initialising}
use Rattle.mvm_current.specs.Keys.{runs_of, runs_by, top_named, IsKey, IsPlaceOf, IsMethodPlace, AreKeys}
use Rattle.mvm_current.specs.declared.key.TheConstants.{NO_METHOD}
use Rattle.mvm_current.proofs.KeyLaws.{named_runs, method_of_key, top_key, HasMethod}
use Rattle.mvm_current.proofs.Growth.{there_is}
use Rattle.mvm_current.proofs.Methods.{names_of, key_class, of_bare}

-- ---- the class of a frame's method

own_class : (file : Parts) (r : Option Member) (m : MemberName) → named_in file r ≡ Some m → own_name file ≡ Some m.class
own_class file (Some member) m e = (names_of file member m e).class
own_class file None m e = absurd cc

-- the names of the method of a frame, and that its class is that of the key's number
pub record Runs_as (n : Numbered) (s : StackParts) (key : FrameKey) : Type 0 where
  pub has : HasMethod n key
  pub class : name_at n key.mirror ≡ has.names.class
  pub runs : (top_named n s).runs ≡ method has.names.class has.names.name has.names.desc

pub runs_as : (n : Numbered) (s : StackParts) (key : FrameKey) → s.rest.below.key ≡ Some key → key.method ≢ NO_METHOD → AreKeys n s → Runs_as n s key
runs_as n s key e other keys =
    let h = method_of_key n key other (top_key n key s.rest.below.key e keys.top) in
    record {
      has = h;
      class = key_class n key h (own_class h.class.file (slice_get h.class.file.methods key.method) h.names h.place.0);
      runs = ap (λ (r : Option FrameKey). runs_by n r s.rest.pc) e ∙ named_runs n key s.rest.pc other h;
    }

-- ---- entries

pub entry_found : (n : Numbered) (s : StackParts) (key : FrameKey) (look : Look) (index : ℕ) → s.rest.below.key ≡ Some key → key.method ≢ NO_METHOD → AreKeys n s → entry_at look index (top_named n s) ≡ looked_up (look.entry (name_at n key.mirror) index)
unfolding entry_at
entry_found n s key look index e other keys =
    let x = runs_as n s key e other keys in
    ap (entry_for look index) x.runs ∙ ap (λ (class : List ℕ). looked_up (look.entry class index)) (sym x.class)

pub no_entry : (n : Numbered) (s : StackParts) (look : Look) (index : ℕ) → IsSome s.rest.below.key → IfSome s.rest.below.key (λ key. key.method ≡ NO_METHOD) → entry_at look index (top_named n s) ≡ stopped VerifyError
unfolding entry_at
no_entry n s look index some none = of_bare (entry_for look index) (stopped VerifyError) n s some none refl (λ class. refl)

-- ---- the method itself

called_by : (n : Numbered) (s : StackParts) (key : FrameKey) (class name : List ℕ) → (x : Runs_as n s key) → is_method_of class name (top_named n s).runs ≡ (bytes_eq class (name_at n key.mirror) && bytes_eq x.has.names.name name)
called_by n s key class name x = ap (is_method_of class name) x.runs ∙ ap (λ (c : List ℕ). bytes_eq class c && bytes_eq x.has.names.name name) (sym x.class)

pub called_if : (n : Numbered) (s : StackParts) (key : FrameKey) (class name : List ℕ) (r : Bool) → s.rest.below.key ≡ Some key → key.method ≢ NO_METHOD → AreKeys n s → bytes_eq class (name_at n key.mirror) ≡ true
    → ((c : Lineage) (m : MemberName) → class_at n key.mirror ≡ Some c → IsPlaceOf key.method c m → r ≡ bytes_eq m.name name) → r ≡ is_method_of class name (top_named n s).runs
called_if n s key class name r e other keys same is =
    let x = runs_as n s key e other keys in
    is x.has.class x.has.names x.has.at x.has.place ∙ sym (called_by n s key class name x ∙ ap (λ (b : Bool). b && bytes_eq x.has.names.name name) same)

pub not_called : (n : Numbered) (s : StackParts) (key : FrameKey) (class name : List ℕ) → s.rest.below.key ≡ Some key → key.method ≢ NO_METHOD → AreKeys n s → bytes_eq class (name_at n key.mirror) ≡ false → is_method_of class name (top_named n s).runs ≡ false
not_called n s key class name e other keys same =
    let x = runs_as n s key e other keys in called_by n s key class name x ∙ ap (λ (b : Bool). b && bytes_eq x.has.names.name name) same

pub none_called : (n : Numbered) (s : StackParts) (class name : List ℕ) → IsSome s.rest.below.key → IfSome s.rest.below.key (λ key. key.method ≡ NO_METHOD) → is_method_of class name (top_named n s).runs ≡ false
none_called n s class name some none = of_bare (is_method_of class name) false n s some none refl (λ other. refl)

-- ---- the key of a name

abbrev member_of : List ℕ → List ℕ → List ℕ → Member → MemberName
member_of class name desc member = record { class = class; name = name; desc = desc; flags = member.flags }

named_so : (file : Parts) (class name desc : List ℕ) (member : Member) → own_name file ≡ Some class → text file.pool member.name ≡ Some name → text file.pool member.desc ≡ Some desc → named_in file (Some member) ≡ Some (member_of class name desc member)
named_so file class name desc member a b d = rw (a, b, d) refl

place_of : (class : Lineage) (own name desc : List ℕ) (place : ℕ) → own_name class.file ≡ Some own → method_at name desc class.file ≡ Some place → place < length class.file.methods → (member : Member) × IsPlaceOf place class (member_of own name desc member)
place_of class own name desc place a at within =
    let x = there_is class.file.methods place within in
    let t = declared_named name desc class.file x.0 (declared_at name desc class.file place at ∙ x.1) in
    (x.0, (ap (named_in class.file) x.1 ∙ named_so class.file own name desc x.0 a t.0 t.1, at))

has_key : (n : Numbered) (key : FrameKey) (class : Lineage) (name desc : List ℕ) → class_at n key.mirror ≡ Some class → own_name class.file ≡ Some (name_at n key.mirror) → method_at name desc class.file ≡ Some key.method → key.method < length class.file.methods → HasMethod n key
has_key n key class name desc e a at within =
    let x = place_of class (name_at n key.mirror) name desc key.method a at within in
    record { class = class; at = e; names = member_of (name_at n key.mirror) name desc x.0; place = x.1 }

pub key_is : (n : Numbered) (key : FrameKey) (class : Lineage) (name desc : List ℕ) → IsClass n key.mirror → class_at n key.mirror ≡ Some class → own_name class.file ≡ Some (name_at n key.mirror) → method_at name desc class.file ≡ Some key.method → key.method < length class.file.methods → IsKey n key
key_is n key class name desc is e a at within =
    let x = place_of class (name_at n key.mirror) name desc key.method a at within in
    record { class = is; method = λ other. rw e (member_of (name_at n key.mirror) name desc x.0, x.1) }

pub key_runs : (n : Numbered) (key : FrameKey) (class : Lineage) (name desc : List ℕ) (pc : ℕ) → key.method ≢ NO_METHOD → class_at n key.mirror ≡ Some class → own_name class.file ≡ Some (name_at n key.mirror) → method_at name desc class.file ≡ Some key.method → key.method < length class.file.methods
    → runs_of n key pc ≡ method (name_at n key.mirror) name desc
unfolding has_key
key_runs n key class name desc pc other e a at within = named_runs n key pc other (has_key n key class name desc e a at within)

pub key_none : (look : Look) (called : List ℕ) (class : Lineage) (name desc : List ℕ) → looked_up (look.class called) ≡ Ok class → method_at name desc class.file ≡ None → method_in look called name desc ≡ stopped VerifyError
unfolding method_in method_declared
key_none look called class name desc found none = rw (found, none) refl
