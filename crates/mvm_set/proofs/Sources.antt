-- A map from names, whose keys are lists of units in memory.
use Rattle.std.proofs.Common.{◌≡◌, ℕ, Bool, true, false, cond, List, Option, refl, sym, ap, ◌∙◌}
use Rattle.std.specs.BTreeMap as tree
use Rattle.std.specs.BTreeMap.{BTreeMap}
use Rattle.std.specs.declared.cmp.Ordering.{Ordering}
use Rattle.std.specs.Map.{lookup, KeepsOthers}
use Rattle.std.specs.Cmp.Lexicographic.{slice_cmp}
use Rattle.std.specs.Ordering.{is_eq, nat_cmp, eq_by_cmp}
use Rattle.std.specs.Str.{bytes_eq}
use Rattle.std.proofs.lemmas.Map.Text.{is_eq-slice_cmp}
use Rattle.std.proofs.lemmas.Slice.Eq.{bytes_eq-Decides}
use Rattle.mvm_set.specs.Set.{look}

same_order : (one other : List ℕ) → is_eq (slice_cmp nat_cmp one other) ≡ true → one ≡ other
same_order one other e = (bytes_eq-Decides one other).0 (sym (is_eq-slice_cmp one other) ∙ e)

false_of : (b : Bool) → (b ≡ true → ⊥) → b ≡ false
false_of true h = absurd (h refl)
false_of false h = refl

module _ {K : Type 0} (units : K → List ℕ) where
  abbrev pub key_cmp : K → K → Ordering
  key_cmp one other = slice_cmp nat_cmp (units one) (units other)

  abbrev is_for : List ℕ → K → Bool
  is_for name key = is_eq (slice_cmp nat_cmp name (units key))

  test_of_key : (name : List ℕ) (x y : K) → is_for name x ≡ true → is_for name y ≡ eq_by_cmp key_cmp x y
  test_of_key name x y e = ap (λ (text : List ℕ). is_eq (slice_cmp nat_cmp text (units y))) (same_order name (units x) e)

  apart : (one other : List ℕ) → bytes_eq one other ≡ false → (key : K) → is_for one key ≡ true → is_for other key ≡ false
  apart one other n key e =
      false_of (is_for other key)
      (λ f. let same : one ≡ other = same_order one (units key) e ∙ sym (same_order other (units key) f) in
      let t : bytes_eq one other ≡ true = (bytes_eq-Decides one other).1 same in absurd cc)

  kept : (old new : List (K × ℕ)) (one other : List ℕ) → KeepsOthers (eq_by_cmp key_cmp) (is_for one) old new → bytes_eq one other ≡ false → lookup (is_for other) new ≡ lookup (is_for other) old
  unfolding KeepsOthers
  kept old new one other keeps n = keeps (is_for other) (test_of_key other) (apart one other n)

  pub source_added : (old new : BTreeMap K ℕ) (key : K) (source : Option ℕ) → tree.Updates key_cmp old new key source → (name : List ℕ) → look new units name ≡ cond (bytes_eq (units key) name) source (look old units name)
  source_added old new key source updates name = by (bytes_eq (units key) name) refl
    where
      by : (b : Bool) → bytes_eq (units key) name ≡ b → look new units name ≡ cond b source (look old units name)
      by true e = ap (look new units) (sym ((bytes_eq-Decides (units key) name).0 e)) ∙ updates.1
      by false e = kept old.entries new.entries (units key) name updates.3 e
