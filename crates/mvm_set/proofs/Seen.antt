-- Names are met one after the other, and each is kept once.
use denote.Ref.{Bor}
use Rattle.std.proofs.Common.{◌≡◌, ℕ, Bool, true, false, cond, List, [], ◌∷◌, ◌++◌, Option, Some, None, refl, sym, ap, ◌∙◌, append_assoc}
use Rattle.std.specs.Prelude.{not, ◌&&◌, ◌||◌}
use Rattle.std.specs.List.{filter}
use Rattle.std.specs.BTreeSet as sorted
use Rattle.std.specs.BTreeSet.{BTreeSet}
use Rattle.std.specs.Cmp.Lexicographic.{slice_cmp}
use Rattle.std.specs.Ordering.{nat_cmp, is_eq}
use Rattle.std.specs.Str.{bytes_eq}
use Rattle.std.proofs.lemmas.Bool.Decides.{same_from_decides}
use Rattle.std.proofs.lemmas.Slice.Eq.{bytes_eq-Decides}
use Rattle.std.proofs.lemmas.Map.Text.{is_eq-slice_cmp}
use Rattle.mvm_shape.specs.Members.{same_text}
use Rattle.mvm_set.specs.Once.{without, once}
use Rattle.mvm_set.specs.Seen.{is_seen}

or_cond : (test had : Bool) → cond test true had ≡ (had || test)
or_cond true true = refl
or_cond true false = refl
or_cond false true = refl
or_cond false false = refl

or_false : (b : Bool) → (b || false) ≡ b
or_false true = refl
or_false false = refl

pub name_added : (old new : BTreeSet (Bor (List ℕ))) (key : Bor (List ℕ)) → sorted.Updates (λ x y. slice_cmp nat_cmp x.now y.now) old new key true
    → (other : Option (List ℕ)) → is_seen new other ≡ (is_seen old other || same_text (Some key.now) other)
name_added old new key updates None = refl
name_added old new key updates (Some units) =
    let e : is_eq (slice_cmp nat_cmp key.now units) ≡ bytes_eq key.now units = is_eq-slice_cmp key.now units in
    updates.0 (record { ref_ptr = (0, 0); now = units }) ∙ rw e (or_cond (bytes_eq key.now units) (is_seen old (Some units)))

pub none_seen : (seen : BTreeSet (Bor (List ℕ))) → seen.keys ≡ [] → (other : Option (List ℕ)) → is_seen seen other ≡ false
none_seen seen e None = refl
none_seen seen e (Some units) = rw e refl

same-swap : (one other : Option (List ℕ)) → same_text one other ≡ same_text other one
same-swap (Some a) (Some b) = same_from_decides (bytes_eq a b) (bytes_eq b a) (bytes_eq-Decides a b) (λ e. sym ((bytes_eq-Decides b a).0 e), λ e. (bytes_eq-Decides b a).1 (sym e))
same-swap (Some a) None = refl
same-swap None (Some b) = refl
same-swap None None = refl

-- ---- filters

module _ {A : Type 0} where
  filter-same : (p q : A → Bool) → ((x : A) → p x ≡ q x) → (xs : List A) → filter p xs ≡ filter q xs
  filter-same p q h [] = refl
  filter-same p q h (x ∷ xs) = rw (h x) (ap (λ (ys : List A). cond (q x) (x ∷ ys) ys) (filter-same p q h xs))

  filter-both : (p q r : A → Bool) → ((x : A) → r x ≡ (p x && q x)) → (xs : List A) → filter p (filter q xs) ≡ filter r xs
  filter-both p q r h [] = refl
  filter-both p q r h (x ∷ xs) = by (p x) (q x) refl refl (filter-both p q r h xs)
    where
      by : (a b : Bool) → p x ≡ a → q x ≡ b → filter p (filter q xs) ≡ filter r xs → filter p (cond b (x ∷ filter q xs) (filter q xs)) ≡ cond (r x) (x ∷ filter r xs) (filter r xs)
      by true true e f next = rw (h x, e, f) (ap (λ (ys : List A). x ∷ ys) next)
      by true false e f next = rw (h x, e, f) next
      by false true e f next = rw (h x, e) next
      by false false e f next = rw (h x, e) next

-- ---- those whose names were not met

not_either : (a b c : Bool) → b ≡ c → not (a || b) ≡ (not a && not c)
not_either true b c e = refl
not_either false b c e = ap not e

module _ {A : Type 0} (name : A → Option (List ℕ)) where
  abbrev pub unseen : (Option (List ℕ) → Bool) → List A → List A
  unseen seen items = filter (λ item. not (seen (name item))) items

  -- where one name alone was met, those of other names are left
  pub started : (one : Option (List ℕ)) (old next : Option (List ℕ) → Bool) → ((other : Option (List ℕ)) → old other ≡ false) → ((other : Option (List ℕ)) → next other ≡ (old other || same_text one other))
      → (xs : List A) → unseen next xs ≡ filter (λ item. not (same_text (name item) one)) xs
  started one old next none added xs =
      filter-same (λ item. not (next (name item))) (λ item. not (same_text (name item) one))
      (λ item. ap not (added (name item) ∙ ap (λ b. b || same_text one (name item)) (none (name item)) ∙ same-swap one (name item))) xs

  -- one more is met: it is left where it is new, and nothing more of its name
  pub one_more : (old next : Option (List ℕ) → Bool) (x : A) (xs : List A) → ((other : Option (List ℕ)) → next other ≡ (old other || same_text (name x) other))
      → unseen old (once name (x ∷ xs)) ≡ cond (old (name x)) (unseen next (once name xs)) (x ∷ unseen next (once name xs))
  one_more old next x xs added = by (old (name x))
      (filter-both (λ y. not (old (name y))) (λ y. not (same_text (name y) (name x))) (λ y. not (next (name y)))
      (λ y. ap not (added (name y)) ∙ not_either (old (name y)) (same_text (name x) (name y)) (same_text (name y) (name x)) (same-swap (name x) (name y))) (once name xs))
    where
      by : (b : Bool) → unseen old (without name x (once name xs)) ≡ unseen next (once name xs)
          → cond (not b) (x ∷ unseen old (without name x (once name xs))) (unseen old (without name x (once name xs))) ≡ cond b (unseen next (once name xs)) (x ∷ unseen next (once name xs))
      by true e = e
      by false e = ap (λ (ys : List A). x ∷ ys) e

  -- what is kept, and what is left to be kept, together
  pub kept_more : (kept more : List A) (old next : Option (List ℕ) → Bool) (x : A) (xs : List A) → ((other : Option (List ℕ)) → next other ≡ (old other || same_text (name x) other))
      → more ≡ cond (old (name x)) kept (kept ++ x ∷ []) → more ++ unseen next (once name xs) ≡ kept ++ unseen old (once name (x ∷ xs))
  kept_more kept more old next x xs added e =
      ap (λ (ys : List A). ys ++ unseen next (once name xs)) e ∙ by (old (name x)) ∙ sym (ap (λ (ys : List A). kept ++ ys) (one_more old next x xs added))
    where
      by : (b : Bool) → cond b kept (kept ++ x ∷ []) ++ unseen next (once name xs) ≡ kept ++ cond b (unseen next (once name xs)) (x ∷ unseen next (once name xs))
      by true = refl
      by false = append_assoc kept (x ∷ []) (unseen next (once name xs))
