-- What the parts of a class file keep, by the rules that what spells it keeps.
use Rattle.std.proofs.Common.{◌≡◌, ℕ, ◌+◌, ◌*◌, ◌≤◌, Bool, true, false, not, ◌||◌, ◌&&◌, List, [], ◌∷◌, ◌++◌, length, Option, Some, None, Result, inl, inr, ◌⊎◌, refl, sym, ap, subst, ◌∙◌, append_assoc, arith}
use Rattle.std.specs.Prelude.{map, All, IfSome, IsTrue, is_some, ◌==◌}
use Rattle.std.specs.List.{list_any}
use Rattle.std.specs.Option.{IsSomeAnd}
use Rattle.std.proofs.lemmas.Bool.{eqb-true, leb-true}
use Rattle.std.proofs.lemmas.List.Elements.{All-nil, All-cons}
use Rattle.std.proofs.lemmas.List.Kept.{AllPairs-cons}
use Rattle.std.proofs.lemmas.Slice.Eq.{bytes_eq-Decides}
use Rattle.mvm_base.specs.Endian.{big_number}
use Rattle.mvm_base.specs.Rules.{expect, each_from, each_after}
use Rattle.mvm_base.specs.Descriptor.{field_of, method_of}
use Rattle.mvm_base.proofs.Descriptors.{field_found}
use Rattle.mvm_base.proofs.Methods.{method_found}
use Rattle.mvm_layout.specs.Flags.{is_static, is_interface, has_no_code}
use Rattle.mvm_layout.specs.Pool.{entry, is_class, text}
use Rattle.mvm_layout.specs.declared.fault.ClassFault.{ClassFault}
use Rattle.mvm_layout.specs.declared.fault.ClassFault.TheVariants.{Pool, Shape}
use Rattle.mvm_layout.specs.declared.info.ClassInfo.{ClassInfo}
use Rattle.mvm_layout.specs.declared.info.MemberInfo.{MemberInfo}
use Rattle.mvm_layout.specs.declared.parts.Code.{Code}
use Rattle.mvm_layout.specs.declared.parts.Item.{Item}
use Rattle.mvm_layout.specs.declared.parts.Member.{Member}
use Rattle.mvm_layout.specs.declared.parts.Parts.{Parts}
use Rattle.mvm_shape.specs.Links.{is_linked}
use Rattle.mvm_shape.specs.Members.{is_unqualified, is_method_name, holds, field_descriptor, method_descriptor, has_few_parameters, is_constant_of, same_text, is_same, is_repeated, field_rule, method_rule, field_part, method_part}
use Rattle.mvm_shape.specs.Shape.{linked, has_superclass, are_interfaces, header, parts_of}
use Rattle.mvm_classfile.specs.Kept.{IsLinked, IsClass, HasClasses, IsFieldDescriptor, IsClassField, IsMethodDescriptor, IsClassMethod, IsAlike, AreApart}
use Rattle.mvm_classfile.specs.Reading.{IsClassFile}
use Rattle.mvm_classfile.specs.Writing.{u2, Names, names_in, written_code}
use Rattle.mvm_classfile.proofs.Plain.{both_hold, number_again}
use Rattle.mvm_classfile.proofs.Pieces.{Each, MemberFits, code_length}
use Rattle.mvm_classfile.proofs.Rule.{kept, holds_true, both, parsed_is}
use Rattle.mvm_classfile.proofs.Fields.{ConstantSound, field_kept, constant_sound}
use Rattle.mvm_classfile.proofs.Methods.{CodeSound, method_kept, code_sound}
use Rattle.mvm_classfile.proofs.Whole.{InfoFits, info_fits, serves_constant, serves_code, RulesKept, rules_kept}

-- ---- the constant pool

linked_from : (pool : List Item) (n : ℕ) (items : List Item) → each_from n (λ index item. expect (is_linked pool item) (Pool index)) items ≡ kept → All (λ item. IsTrue (is_linked pool item)) items
linked_from pool n [] e = All-nil (λ item. IsTrue (is_linked pool item))
linked_from pool n (x ∷ xs) e =
    let r = both (expect (is_linked pool x) (Pool n)) (each_from (n + 1) (λ index item. expect (is_linked pool item) (Pool index)) xs) tt e in
    All-cons (λ item. IsTrue (is_linked pool item)) x xs (holds_true _ _ r.0) (linked_from pool (n + 1) xs r.1)

linked_all : (info : ClassInfo) → linked info.pool ≡ kept → IsLinked (parts_of info).pool
unfolding linked parts_of
linked_all info e = linked_from info.pool 1 info.pool e

pub linked_kept : (parts : Parts) → IsClassFile parts → IsLinked parts.pool
linked_kept parts is = subst (λ (p : Parts). IsLinked p.pool) (sym is.reads.parts_are) (linked_all is.reads.info is.reads.linked)

-- ---- the class

interfaces_from : (pool : List Item) (at n : ℕ) (xs : List ℕ) → each_from n (λ k index. expect (is_class (entry pool index)) (Shape (at + 8 + 2 * k))) xs ≡ kept → All (IsClass pool) xs
interfaces_from pool at n [] e = All-nil (IsClass pool)
interfaces_from pool at n (x ∷ xs) e =
    let r = both (expect (is_class (entry pool x)) (Shape (at + 8 + 2 * n))) (each_from (n + 1) (λ k index. expect (is_class (entry pool index)) (Shape (at + 8 + 2 * k))) xs) tt e in
    All-cons (IsClass pool) x xs (holds_true _ _ r.0) (interfaces_from pool at (n + 1) xs r.1)

superclass_is : (a b : Bool) (index : ℕ) → (a || (index == 0 && b)) ≡ true → IsTrue a ⊎ ((index ≡ 0) × IsTrue b)
superclass_is true b index h = inl refl
superclass_is false b index h = let k = both_hold _ _ h in inr (eqb-true _ _ k.0, k.1)

where_so : (a b : Bool) → (not a || b) ≡ true → IsTrue a → IsTrue b
where_so true b h k = h
where_so false b h k = absurd cc

classes_of : (info : ClassInfo) → header info ≡ kept → HasClasses (parts_of info)
unfolding header has_superclass are_interfaces parts_of
classes_of info e =
    let a = both _ _ tt e in
    let b = both _ _ tt a.0 in
    let s = both_hold _ _ (holds_true _ _ b.1) in
    record {
      this_class = holds_true _ _ b.0;
      super_class = superclass_is _ _ info.super_class s.0;
      of_interface = where_so _ _ s.1;
      interfaces = interfaces_from info.pool info.at 0 info.interfaces a.1;
    }

pub classes_kept : (parts : Parts) → IsClassFile parts → HasClasses parts
classes_kept parts is = subst HasClasses (sym is.reads.parts_are) (classes_of is.reads.info (rules_kept is.reads.info is.reads.kept).header)

-- ---- members

name_kept : (test : List ℕ → Bool) (name : Option (List ℕ)) → holds test name ≡ true → IsSomeAnd name (λ x. IsTrue (test x))
name_kept test None h = absurd cc
name_kept test (Some name) h = h

-- the rule on members gives this of each, as it is kept
pub members_kept : (P : Member → Type 0) (part : MemberInfo → Member) (rule : List MemberInfo → MemberInfo → Result (Unit {0}) ClassFault)
    → ((before : List MemberInfo) (m : MemberInfo) → MemberFits m → rule before m ≡ kept → P (part m))
    → (before ms : List MemberInfo) → Each MemberFits ms → each_after before rule ms ≡ kept → All P (map part ms)
members_kept P part rule one before [] fits e = All-nil P
members_kept P part rule one before (m ∷ ms) fits e =
    let r = both (rule before m) (each_after (before ++ m ∷ []) rule ms) tt e in
    All-cons P (part m) (map part ms) (one before m fits.0 r.0) (members_kept P part rule one (before ++ m ∷ []) ms fits.1 r.1)

-- ---- fields

field_desc : (at : ℕ) (desc : Option (List ℕ)) → field_descriptor at desc ≡ kept → IsSomeAnd desc IsFieldDescriptor
field_desc at None e = absurd cc
field_desc at (Some desc) e =
    let p = parsed_is at (λ field. true) (field_of desc) e in
    let f = field_found desc p.0 p.1 in
    record { shape = p.0; is_field = f.0; spelled = f.1; parsed = p.1 }

constant_kept : (pool : List Item) (names : Names) (flags desc : ℕ) (constant : Option ℕ) → ConstantSound pool names flags desc constant
    → IfSome constant (λ index. IsTrue (is_static flags) × IsTrue (is_constant_of (text pool desc) (entry pool index)))
constant_kept pool names flags desc None c = tt
constant_kept pool names flags desc (Some index) c =
    let n : big_number 2 (u2 index) ≡ index = (number_again 2 index 0 c.4).1 in
    (c.0, subst (λ (i : ℕ). is_constant_of (text pool desc) (entry pool i) ≡ true) n (both_hold (length (u2 index) == 2) _ c.3).1)

class_field : (pool : List Item) (is : Bool) (before : List MemberInfo) (m : MemberInfo) → MemberFits m → field_rule pool is before m ≡ kept → IsClassField pool (field_part pool m)
unfolding field_part field_rule
class_field pool is before m fits e =
    let k = field_kept pool is (is_repeated pool before m) m e in
    record {
      name = name_kept is_unqualified (text pool m.name) k.name;
      desc = field_desc (m.at + 4) (text pool m.desc) k.desc;
      constant = constant_kept pool (names_in pool) m.flags m.desc _ (constant_sound pool (names_in pool) is before m (serves_constant pool) fits e);
      code = refl;
    }

fields_of : (info : ClassInfo) → InfoFits info → RulesKept info → All (IsClassField (parts_of info).pool) (parts_of info).fields
unfolding parts_of
fields_of info fits k =
    members_kept (IsClassField info.pool) (field_part info.pool) (field_rule info.pool (is_interface info.flags)) (λ before m. class_field info.pool (is_interface info.flags) before m) [] info.fields fits.fields k.fields

pub fields_kept : (parts : Parts) → IsClassFile parts → All (IsClassField parts.pool) parts.fields
fields_kept parts is =
    let r = is.reads in
    subst (λ (p : Parts). All (IsClassField p.pool) p.fields) (sym r.parts_are) (fields_of r.info (info_fits r.info 0 is.text is.bytes r.spelled) (rules_kept r.info r.kept))

-- ---- methods

method_desc : (at flags : ℕ) (desc : Option (List ℕ)) → method_descriptor at flags desc ≡ kept → IsSomeAnd desc (IsMethodDescriptor flags)
method_desc at flags None e = absurd cc
method_desc at flags (Some desc) e =
    let p = parsed_is at (has_few_parameters flags) (method_of desc) e in
    let f = method_found desc p.0 p.1 in
    record { shape = p.0; is_method = f.fits; spelled = f.is; parsed = p.1; few = leb-true _ _ p.2 }

code_kept : (pool : List Item) (names : Names) (flags : ℕ) (code : Option Code) → CodeSound pool names flags code
    → (is_some code ≡ not (has_no_code flags)) × IfSome code (λ code. (1 ≤ length code.bytes) × (length code.bytes ≤ 65535))
code_kept pool names flags None c = (rw c refl, tt)
code_kept pool names flags (Some code) c = (rw c.0 refl, code_length (record { code = code; attributes = [] }) 0 (written_code code) (c.1.spelled 0))

class_method : (pool : List Item) (major : ℕ) (is : Bool) (before : List MemberInfo) (m : MemberInfo) → MemberFits m → method_rule pool major is before m ≡ kept → IsClassMethod pool (method_part pool m)
unfolding method_part method_rule
class_method pool major is before m fits e =
    let k = (method_kept pool major is (is_repeated pool before m) m e).0 in
    let c = code_kept pool (names_in pool) m.flags _ (code_sound pool (names_in pool) major is before m (serves_code pool) fits e) in
    record {
      name = name_kept is_method_name (text pool m.name) k.name;
      desc = method_desc (m.at + 4) m.flags (text pool m.desc) k.desc;
      has_code = c.0;
      code = c.1;
      constant = refl;
    }

methods_of : (info : ClassInfo) → InfoFits info → RulesKept info → All (IsClassMethod (parts_of info).pool) (parts_of info).methods
unfolding parts_of
methods_of info fits k =
    members_kept (IsClassMethod info.pool) (method_part info.pool) (method_rule info.pool info.major (is_interface info.flags)) (λ before m. class_method info.pool info.major (is_interface info.flags) before m) [] info.methods fits.methods k.methods

pub methods_kept : (parts : Parts) → IsClassFile parts → All (IsClassMethod parts.pool) parts.methods
methods_kept parts is =
    let r = is.reads in
    subst (λ (p : Parts). All (IsClassMethod p.pool) p.methods) (sym r.parts_are) (methods_of r.info (info_fits r.info 0 is.text is.bytes r.spelled) (rules_kept r.info r.kept))

-- ---- apart

same_as_itself : (P : List ℕ → Type 0) (found : Option (List ℕ)) → IsSomeAnd found P → same_text found found ≡ true
same_as_itself P None h = absurd h
same_as_itself P (Some name) h = (bytes_eq-Decides name name).1 refl

-- a member was not met before, and its name and its descriptor are texts
record IsNew (pool : List Item) (before : List MemberInfo) (m : MemberInfo) : Type 0 where
  met : is_repeated pool before m ≡ false
  name : same_text (text pool m.name) (text pool m.name) ≡ true
  desc : same_text (text pool m.desc) (text pool m.desc) ≡ true

none_before : {A : Type 0} (test : A → Bool) (before after : List A) (x : A) → list_any test (before ++ x ∷ after) ≡ false → test x ≡ false
none_before test [] after x h = by (test x) h
  where
    by : (b : Bool) → (b || list_any test after) ≡ false → b ≡ false
    by true k = absurd cc
    by false k = refl
none_before test (y ∷ before) after x h = none_before test before after x (by (test y) h)
  where
    by : (b : Bool) → (b || list_any test (before ++ x ∷ after)) ≡ false → list_any test (before ++ x ∷ after) ≡ false
    by true k = absurd cc
    by false k = k

not_alike : (pool : List Item) (before after : List MemberInfo) (one m : MemberInfo) → IsNew pool (before ++ one ∷ after) m → text pool one.name ≡ text pool m.name → text pool one.desc ≡ text pool m.desc → ⊥
not_alike pool before after one m new n d =
    let none = none_before (is_same pool m) before after one new.met in
    let k : (same_text (text pool m.name) (text pool m.name) && same_text (text pool m.desc) (text pool m.desc)) ≡ false = rw (n, d) at none in
    let z = rw (new.name, new.desc) at k in
    absurd cc

-- members of which the rule is kept, as they are kept: name and descriptor stay
record Stays (pool : List Item) (part : MemberInfo → Member) (rule : List MemberInfo → MemberInfo → Result (Unit {0}) ClassFault) : Type 0 where
  new : (before : List MemberInfo) (m : MemberInfo) → rule before m ≡ kept → IsNew pool before m
  name : (m : MemberInfo) → (part m).name ≡ m.name
  desc : (m : MemberInfo) → (part m).desc ≡ m.desc

apart_from : (pool : List Item) (part : MemberInfo → Member) (rule : List MemberInfo → MemberInfo → Result (Unit {0}) ClassFault) → Stays pool part rule
    → (before after : List MemberInfo) (one : MemberInfo) (ms : List MemberInfo) → each_after (before ++ one ∷ after) rule ms ≡ kept → All (λ other. IsAlike pool (part one) other → ⊥) (map part ms)
apart_from pool part rule s before after one [] e = All-nil (λ other. IsAlike pool (part one) other → ⊥)
apart_from pool part rule s before after one (m ∷ ms) e =
    let r = both (rule (before ++ one ∷ after) m) (each_after ((before ++ one ∷ after) ++ m ∷ []) rule ms) tt e in
    let more : each_after (before ++ one ∷ (after ++ m ∷ [])) rule ms ≡ kept = subst (λ (z : List MemberInfo). each_after z rule ms ≡ kept) (append_assoc before (one ∷ after) (m ∷ [])) r.1 in
    All-cons (λ other. IsAlike pool (part one) other → ⊥) (part m) (map part ms)
    (λ alike.
    not_alike pool before after one m (s.new (before ++ one ∷ after) m r.0)
    (ap (λ (i : ℕ). text pool i) (sym (s.name one)) ∙ alike.0 ∙ ap (λ (i : ℕ). text pool i) (s.name m))
    (ap (λ (i : ℕ). text pool i) (sym (s.desc one)) ∙ alike.1 ∙ ap (λ (i : ℕ). text pool i) (s.desc m)))
    (apart_from pool part rule s before (after ++ m ∷ []) one ms more)

apart : (pool : List Item) (part : MemberInfo → Member) (rule : List MemberInfo → MemberInfo → Result (Unit {0}) ClassFault) → Stays pool part rule
    → (before ms : List MemberInfo) → each_after before rule ms ≡ kept → AreApart pool (map part ms)
apart pool part rule s before [] e = λ i j d low high. absurd (omega (arith, high))
apart pool part rule s before (m ∷ ms) e =
    let r = both (rule before m) (each_after (before ++ m ∷ []) rule ms) tt e in
    AllPairs-cons (λ one other. IsAlike pool one other → ⊥) (part m) (map part ms) (apart_from pool part rule s before [] m ms r.1) (apart pool part rule s (before ++ m ∷ []) ms r.1)

fields_stay : (pool : List Item) (is : Bool) → Stays pool (field_part pool) (field_rule pool is)
unfolding field_part field_rule
fields_stay pool is = record {
  new = λ before m e. (
      let k = field_kept pool is (is_repeated pool before m) m e in
      record {
        met = k.met;
        name = same_as_itself _ (text pool m.name) (name_kept is_unqualified (text pool m.name) k.name);
        desc = same_as_itself _ (text pool m.desc) (field_desc (m.at + 4) (text pool m.desc) k.desc);
      });
  name = λ m. refl;
  desc = λ m. refl;
}

methods_stay : (pool : List Item) (major : ℕ) (is : Bool) → Stays pool (method_part pool) (method_rule pool major is)
unfolding method_part method_rule
methods_stay pool major is = record {
  new = λ before m e. (
      let k = (method_kept pool major is (is_repeated pool before m) m e).0 in
      record {
        met = k.met;
        name = same_as_itself _ (text pool m.name) (name_kept is_method_name (text pool m.name) k.name);
        desc = same_as_itself _ (text pool m.desc) (method_desc (m.at + 4) m.flags (text pool m.desc) k.desc);
      });
  name = λ m. refl;
  desc = λ m. refl;
}

fields_apart_of : (info : ClassInfo) → RulesKept info → AreApart (parts_of info).pool (parts_of info).fields
unfolding parts_of
fields_apart_of info k = apart info.pool (field_part info.pool) (field_rule info.pool (is_interface info.flags)) (fields_stay info.pool (is_interface info.flags)) [] info.fields k.fields

pub fields_apart : (parts : Parts) → IsClassFile parts → AreApart parts.pool parts.fields
fields_apart parts is = subst (λ (p : Parts). AreApart p.pool p.fields) (sym is.reads.parts_are) (fields_apart_of is.reads.info (rules_kept is.reads.info is.reads.kept))

methods_apart_of : (info : ClassInfo) → RulesKept info → AreApart (parts_of info).pool (parts_of info).methods
unfolding parts_of
methods_apart_of info k = apart info.pool (method_part info.pool) (method_rule info.pool info.major (is_interface info.flags)) (methods_stay info.pool info.major (is_interface info.flags)) [] info.methods k.methods

pub methods_apart : (parts : Parts) → IsClassFile parts → AreApart parts.pool parts.methods
methods_apart parts is = subst (λ (p : Parts). AreApart p.pool p.methods) (sym is.reads.parts_are) (methods_apart_of is.reads.info (rules_kept is.reads.info is.reads.kept))
