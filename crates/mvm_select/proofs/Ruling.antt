-- The rule of one over a class's list is the rule over all from which it inherits.
use Rattle.std.proofs.Common.{◌≡◌, ℕ, Bool, true, false, cond, List, Some, Result, Ok, Err, refl, sym, ap, subst, ◌∙◌, inl, inr}
use Rattle.std.specs.Prelude.{not, ◌&&◌, map}
use Rattle.std.specs.List.{find}
use Rattle.std.proofs.lemmas.Bool.{and_parts}
use Rattle.mvm_layout.specs.declared.parts.Parts.{Parts}
use Rattle.mvm_set.specs.ClassOf.{own_walk, class_of}
use Rattle.mvm_set.specs.Family.{Family, family, Families, file, Inherits, visited, walk}
use Rattle.mvm_set.specs.declared.fault.LinkFault.{LinkFault}
use Rattle.mvm_set.specs.declared.fault.LinkFault.TheVariants.{Change}
use Rattle.mvm_set.specs.declared.own.OwnWalk.{OwnWalk}
use Rattle.mvm_select.specs.Families.{Stands, IsWhole}
use Rattle.mvm_select.specs.Methods.{Methods, is_abstract}
use Rattle.mvm_select.specs.MostSpecific.{declares, IsConcrete, IsRuled, one, many, nothing, is_hidden, is_concrete, supers, first_concrete, has_another, if_only, ruled}
use Rattle.mvm_select.specs.Names.{has_class}
use Rattle.mvm_set.specs.Names.{is_same}
use Rattle.mvm_select.proofs.Lists.{In, any_in, in_any, split_in, find_split, find_none, some_option}
use Rattle.mvm_select.proofs.Trees.{inherits_stands, stands_cases, stands_trans, no_circle}
use Rattle.mvm_select.proofs.Walks.{own_has, has_own, supers_inherit, inherits_supers}
use Rattle.mvm_select.proofs.Chains.{both, bool_cases}

is_not : (b : Bool) → not b ≡ true → b ≡ false
is_not true e = absurd cc
is_not false e = refl

module _ (flags : Methods) (p : Parts) (u c : Families) (whole : IsWhole (family p u c)) where
  abbrev class : Family
  class = family p u c

  abbrev owns : List OwnWalk
  owns = map own_walk (supers (walk class))

  -- of one name and above the class they are one
  alike : (x y : Family) → Inherits class x → Inherits class y → is_same (file x) (file y) ≡ true → x ≡ y
  alike x y i j e = whole.alike x y (inherits_stands i) (inherits_stands j) e

  named : (x : Family) → Inherits class x → is_same (file x) (file x) ≡ true
  named x i = whole.named x (inherits_stands i)

  -- what hides the method of a class
  abbrev hides : Parts → OwnWalk → Bool
  hides base other = declares flags other.file && not (is_same other.file base) && has_class other.walk base

  hidden : (x other : Family) → Inherits class x → Inherits class other → Inherits other x → declares flags (file other) ≡ true → is_hidden flags owns (file x) ≡ true
  unfolding is_hidden own_walk
  hidden x other i j k d =
      any_in (hides (file x)) own_walk (supers (walk class)) other (inherits_supers p u c whole other j)
      (both (declares flags (file other) && not (is_same (file other) (file x))) (has_class (own_walk other).walk (file x))
      (both (declares flags (file other)) (not (is_same (file other) (file x))) d (by (is_same (file other) (file x)) refl))
      (has_own other x (file x) (inherits_stands k) (named x i)))
    where
      by : (b : Bool) → is_same (file other) (file x) ≡ b → not b ≡ true
      by true e = absurd (no_circle (subst (λ (z : Family). Inherits z x) (alike other x j i e) k))
      by false e = refl

  -- one that hides it
  record Hider (x : Family) : Type 0 where
    other : Family
    is_super : Inherits class other
    declared : declares flags (file other) ≡ true
    extends : Inherits other x

  hider : (x : Family) → Inherits class x → is_hidden flags owns (file x) ≡ true → Hider x
  unfolding is_hidden own_walk
  hider x i e =
      let a = in_any (hides (file x)) own_walk (supers (walk class)) e in
      let j = supers_inherit p u c a.item a.is_in in
      let h = and_parts (declares flags (file a.item) && not (is_same (file a.item) (file x))) (has_class (own_walk a.item).walk (file x)) a.passes in
      let d = and_parts (declares flags (file a.item)) (not (is_same (file a.item) (file x))) h.0 in
      let y = own_has a.item (file x) h.1 in
      let s = subst (Stands a.item) (whole.alike y.0 x (stands_trans (inherits_stands j) y.1) (inherits_stands i) y.2) y.1 in
      record {
        other = a.item;
        is_super = j;
        declared = d.0;
        extends = elim (stands_cases s) [
          | inl q ↦ absurd (let n = is_not (is_same (file a.item) (file x)) d.1 in let m = subst (λ (z : Family). is_same (file z) (file x) ≡ true) (sym q) (named x i) in cc)
          | inr k ↦ k
        ];
      }

  concrete_sound : (x : Family) → Inherits class x → is_concrete flags owns (file x) ≡ true → IsConcrete flags class x
  concrete_sound x i e =
      let h = and_parts (declares flags (file x) && not (is_abstract (flags (file x)))) (not (is_hidden flags owns (file x))) e in
      let d = and_parts (declares flags (file x)) (not (is_abstract (flags (file x)))) h.0 in
      record {
        is_most_specific = record {
          is_super = i;
          is_declared = d.0;
          alone = λ other j k. elim (bool_cases (declares flags (file other))) [
            | inl t ↦ absurd (let q = hidden x other i j k t in let r = is_not (is_hidden flags owns (file x)) h.1 in cc)
            | inr f ↦ f
          ];
        };
        is_not_abstract = is_not (is_abstract (flags (file x))) d.1;
      }

  concrete_complete : (x : Family) → IsConcrete flags class x → is_concrete flags owns (file x) ≡ true
  concrete_complete x m =
      both (declares flags (file x) && not (is_abstract (flags (file x)))) (not (is_hidden flags owns (file x)))
      (both (declares flags (file x)) (not (is_abstract (flags (file x)))) m.is_most_specific.is_declared (ap not m.is_not_abstract))
      (elim (bool_cases (is_hidden flags owns (file x))) [
        | inl t ↦ absurd (let h = hider x m.is_most_specific.is_super t in let f = m.is_most_specific.alone h.other h.is_super h.extends in let d = h.declared in cc)
        | inr f ↦ ap not f
      ])

  abbrev passes : OwnWalk → Bool
  passes own = is_concrete flags owns own.file

  abbrev differs : Parts → OwnWalk → Bool
  differs base other = not (is_same other.file base) && is_concrete flags owns other.file

  in_supers : (x : Family) → IsConcrete flags class x → In (supers (walk class)) x
  in_supers x m = inherits_supers p u c whole x m.is_most_specific.is_super

  by_found : (x : Family) → Inherits class x → IsConcrete flags class x → (b : Bool) → has_another flags owns (file x) ≡ b → (answer : Result Parts LinkFault) → answer ≡ cond b (Err Change) (Ok (file x)) → IsRuled flags class answer
  unfolding has_another own_walk
  by_found x i m true e answer q =
      let a = in_any (differs (file x)) own_walk (supers (walk class)) e in
      let h = and_parts (not (is_same (file a.item) (file x))) (is_concrete flags owns (file a.item)) a.passes in
      let j = supers_inherit p u c a.item a.is_in in
      many x a.item m (concrete_sound a.item j h.1)
      (λ s. let n = is_not (is_same (file a.item) (file x)) h.0 in let k = subst (λ (z : Family). is_same (file z) (file x) ≡ true) s (named x i) in cc)
      q
  by_found x i m false e answer q =
      one x m (λ other n. elim (bool_cases (is_same (file other) (file x))) [
        | inl s ↦ alike other x n.is_most_specific.is_super i s
        | inr s ↦ absurd (let t = any_in (differs (file x)) own_walk (supers (walk class)) other (in_supers other n)
            (both (not (is_same (file other) (file x))) (is_concrete flags owns (file other)) (ap not s) (concrete_complete other n)) in cc)
      ]) q

  pub class_ruled : IsRuled flags class (if_only flags owns (first_concrete flags owns))
  unfolding first_concrete own_walk
  class_ruled = elim (some_option (find passes owns)) [
    | inl o ↦ (let s = find_split passes own_walk (supers (walk class)) o.0 o.1 in
        let i = supers_inherit p u c s.item (split_in s) in
        by_found s.item i (concrete_sound s.item i s.passes) (has_another flags owns (file s.item)) refl (if_only flags owns (find passes owns))
        (ap (if_only flags owns) (o.1 ∙ ap (λ (own : OwnWalk). Some own) (sym s.is))))
    | inr n ↦ nothing (λ x m. find_none passes own_walk (supers (walk class)) n x (in_supers x m) (concrete_complete x m)) (ap (if_only flags owns) n)
  ]

-- the rule of one
pub ruled_law : (flags : Methods) (set : ℕ) (class : Family) → IsWhole class → IsRuled flags class (ruled flags (class_of set class).walk)
unfolding ruled class_of walk visited
ruled_law flags set (family p u c) whole = class_ruled flags p u c whole

pub concrete_only : (flags : Methods) (class x : Family) → IsWhole class → Inherits class x → is_concrete flags (map own_walk (supers (walk class))) (file x) ≡ true → IsConcrete flags class x
concrete_only flags (family p u c) x whole i e = concrete_sound flags p u c whole x i e

pub concrete_all : (flags : Methods) (class x : Family) → IsWhole class → IsConcrete flags class x → is_concrete flags (map own_walk (supers (walk class))) (file x) ≡ true
concrete_all flags (family p u c) x whole m = concrete_complete flags p u c whole x m
