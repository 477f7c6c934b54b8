-- Rules that are kept: what each says, apart from the place that its fault would tell.
use Rattle.std.proofs.Common.{◌≡◌, ℕ, Bool, true, false, cond, List, [], ◌∷◌, ◌++◌, Option, Some, None, Result, Ok, Err, refl, sym, ap, subst, ◌∙◌}
use Rattle.std.specs.Prelude.{◌&&◌, ◌||◌, map}
use Rattle.std.specs.List.{list_any, filter}
use Rattle.std.proofs.lemmas.List.{map-append}
use Rattle.mvm_base.specs.declared.descriptor.DescFault.{DescFault}
use Rattle.mvm_base.specs.declared.descriptor.DescFault.TheVariants as desc_fault
use Rattle.mvm_base.specs.Descriptor.{field_of, method_of}
use Rattle.mvm_layout.specs.declared.fault.ClassFault.{ClassFault}
use Rattle.mvm_layout.specs.declared.parts.Item.{Item}
use Rattle.mvm_layout.specs.declared.info.MemberInfo.{MemberInfo}
use Rattle.mvm_layout.specs.Pool.{text}
use Rattle.mvm_base.specs.Rules.{expect, ◌and_then◌, each}
use Rattle.mvm_shape.specs.Members.{parsed, field_descriptor, method_descriptor, has_few_parameters, same_text, is_same, is_repeated}
use Rattle.mvm_classfile.proofs.Pieces.{Each}

abbrev pub kept : Result (Unit {0}) ClassFault
kept = Ok tt

pub holds_true : (b : Bool) (fault : ClassFault) → expect b fault ≡ kept → b ≡ true
holds_true true fault e = refl
holds_true false fault e = absurd cc

pub holds_again : (b : Bool) (fault : ClassFault) → b ≡ true → expect b fault ≡ kept
holds_again b fault e = rw e refl

pub and_again : (a b : Bool) → a ≡ true → b ≡ true → (a && b) ≡ true
and_again a b h k = rw (h, k) refl

-- both rules are kept
pub both : {A : Type 0} (r : Result (Unit {0}) ClassFault) (next : Result A ClassFault) (x : A) → (r and_then next) ≡ Ok x → (r ≡ kept) × (next ≡ Ok x)
both (Ok done) next x e = (refl, e)
both (Err fault) next x e = absurd cc

pub both_again : (r next : Result (Unit {0}) ClassFault) → r ≡ kept → next ≡ kept → (r and_then next) ≡ kept
both_again r next h k = rw (h, k) refl

-- ---- descriptors

-- what is parsed, where the rule on it is kept
pub parsed_is : {A : Type 0} (at : ℕ) (test : A → Bool) (r : Result A DescFault) → parsed at test r ≡ kept → (x : A) × (r ≡ Ok x) × (test x ≡ true)
parsed_is at test (Ok x) e = (x, refl, holds_true (test x) _ e)
parsed_is at test (Err desc_fault.Float) e = absurd cc
parsed_is at test (Err desc_fault.Empty) e = absurd cc
parsed_is at test (Err (desc_fault.BadLetter n)) e = absurd cc
parsed_is at test (Err desc_fault.Open) e = absurd cc
parsed_is at test (Err desc_fault.Trailing) e = absurd cc
parsed_is at test (Err desc_fault.OutOfMemory) e = absurd cc

parsed_again : {A : Type 0} (at other : ℕ) (test : A → Bool) (r : Result A DescFault) → parsed at test r ≡ kept → parsed other test r ≡ kept
parsed_again at other test r e =
    let p = parsed_is at test r e in
    subst (λ (z : Result _ DescFault). parsed other test z ≡ kept) (sym p.1) (holds_again (test p.0) _ p.2)

pub field_desc_again : (at other : ℕ) (desc : Option (List ℕ)) → field_descriptor at desc ≡ kept → field_descriptor other desc ≡ kept
field_desc_again at other None e = absurd cc
field_desc_again at other (Some text) e = parsed_again at other (λ field. true) (field_of text) e

pub method_desc_again : (at other flags : ℕ) (desc : Option (List ℕ)) → method_descriptor at flags desc ≡ kept → method_descriptor other flags desc ≡ kept
method_desc_again at other flags None e = absurd cc
method_desc_again at other flags (Some text) e = parsed_again at other (has_few_parameters flags) (method_of text) e

-- ---- the first that passes a test

pub record Found {A : Type 0} (P : A → Type 0) (test : A → Bool) (rule : A → Result (Unit {0}) ClassFault) (x : A) : Type 0 where
  pub fits : P x
  pub passes : test x ≡ true
  pub keeps : rule x ≡ kept

pub first_found : {A : Type 0} (P : A → Type 0) (test : A → Bool) (rule : A → Result (Unit {0}) ClassFault) (xs ys : List A) (x : A)
    → Each P xs → each rule xs ≡ kept → filter test xs ≡ x ∷ ys → Found P test rule x
first_found P test rule [] ys x p k e = absurd cc
first_found P test rule (z ∷ zs) ys x p k e = by (test z) refl e (first_found P test rule zs ys x p.1 (both (rule z) (each rule zs) tt k).1)
  where
    by : (b : Bool) → test z ≡ b → cond b (z ∷ filter test zs) (filter test zs) ≡ x ∷ ys → (filter test zs ≡ x ∷ ys → Found P test rule x) → Found P test rule x
    by true t f more = let s : z ≡ x = cc in subst (Found P test rule) s (record { fits = p.0; passes = t; keeps = (both (rule z) (each rule zs) tt k).0 })
    by false t f more = more f

-- ---- names that were met

abbrev pub key : MemberInfo → ℕ × ℕ
key m = (m.name, m.desc)

abbrev same_as : List Item → ℕ → ℕ → ℕ × ℕ → Bool
same_as pool name desc other = same_text (text pool name) (text pool other.0) && same_text (text pool desc) (text pool other.1)

any_key : (pool : List Item) (m : MemberInfo) (xs : List MemberInfo) → list_any (is_same pool m) xs ≡ list_any (same_as pool m.name m.desc) (map key xs)
any_key pool m [] = refl
any_key pool m (x ∷ xs) = ap (λ (b : Bool). is_same pool m x || b) (any_key pool m xs)

-- whether a member was met is said by the names that were met
pub met_again : (pool : List Item) (m : MemberInfo) (before other : List MemberInfo) → map key before ≡ map key other → is_repeated pool before m ≡ is_repeated pool other m
met_again pool m before other e = any_key pool m before ∙ ap (λ (ks : List (ℕ × ℕ)). list_any (same_as pool m.name m.desc) ks) e ∙ sym (any_key pool m other)

pub key_more : (m new : MemberInfo) (before other : List MemberInfo) → key m ≡ key new → map key before ≡ map key other → map key (before ++ m ∷ []) ≡ map key (other ++ new ∷ [])
key_more m new before other k e = map-append key before (m ∷ []) ∙ ap (λ (ks : List (ℕ × ℕ)). ks ++ key m ∷ []) e ∙ ap (λ (x : ℕ × ℕ). map key other ++ x ∷ []) k ∙ sym (map-append key other (new ∷ []))
