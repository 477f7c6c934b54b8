-- Lists in which each name stands once.
use Rattle.std.proofs.Common.{◌≡◌, ℕ, Bool, true, false, cond, List, [], ◌∷◌, ◌++◌, map, Option, Some, None, refl, sym, ap, ◌∙◌}
use Rattle.std.specs.Prelude.{not}
use Rattle.std.specs.List.{filter}
use Rattle.std.proofs.lemmas.List.Elements.{filter-append}
use Rattle.std.proofs.lemmas.Slice.Eq.{bytes_eq-Decides}
use Rattle.mvm_shape.specs.Members.{same_text}
use Rattle.mvm_set.specs.Once.{without, once}

-- ---- names

pub same_names : (one other : Option (List ℕ)) → same_text one other ≡ true → one ≡ other
same_names (Some a) (Some b) e = ap Some ((bytes_eq-Decides a b).0 e)
same_names (Some a) None e = absurd cc
same_names None other e = absurd cc

-- ---- filters

module _ {A : Type 0} where
  pub filter-swap : (p q : A → Bool) (xs : List A) → filter p (filter q xs) ≡ filter q (filter p xs)
  filter-swap p q [] = refl
  filter-swap p q (x ∷ xs) = by (p x) (q x) refl refl (filter-swap p q xs)
    where
      by : (a b : Bool) → p x ≡ a → q x ≡ b → filter p (filter q xs) ≡ filter q (filter p xs)
          → filter p (cond b (x ∷ filter q xs) (filter q xs)) ≡ filter q (cond a (x ∷ filter p xs) (filter p xs))
      by true true e f next = rw (e, f) (ap (λ (ys : List A). x ∷ ys) next)
      by true false e f next = rw f next
      by false true e f next = rw e next
      by false false e f next = next

  -- what passes the one test passes the other, so the other takes nothing more out
  pub filter-weaker : (p q : A → Bool) → ((x : A) → p x ≡ true → q x ≡ true) → (xs : List A) → filter p (filter q xs) ≡ filter p xs
  filter-weaker p q h [] = refl
  filter-weaker p q h (x ∷ xs) = by (p x) (q x) refl refl (filter-weaker p q h xs)
    where
      by : (a b : Bool) → p x ≡ a → q x ≡ b → filter p (filter q xs) ≡ filter p xs
          → filter p (cond b (x ∷ filter q xs) (filter q xs)) ≡ cond a (x ∷ filter p xs) (filter p xs)
      by true true e f next = rw e (ap (λ (ys : List A). x ∷ ys) next)
      by true false e f next = let g : q x ≡ true = h x e in absurd cc
      by false true e f next = rw e next
      by false false e f next = next

-- ---- each name once

module _ {A : Type 0} (name : A → Option (List ℕ)) where
  abbrev differs : A → A → Bool
  differs x y = not (same_text (name y) (name x))

  pub without-twice : (x : A) (xs : List A) → without name x (without name x xs) ≡ without name x xs
  without-twice x xs = filter-weaker (differs x) (differs x) (λ y e. e) xs

  apart : (test : Option (List ℕ) → Bool) (x : A) → test (name x) ≡ false → (y : A) → test (name y) ≡ true → differs x y ≡ true
  apart test x e y f = by (same_text (name y) (name x)) refl
    where
      by : (b : Bool) → same_text (name y) (name x) ≡ b → not b ≡ true
      by false h = refl
      by true h = let n = ap test (same_names (name y) (name x) h) in absurd cc

  -- what a test of names takes out, it takes out of the list before
  pub filter-once : (test : Option (List ℕ) → Bool) (xs : List A) → filter (λ y. test (name y)) (once name xs) ≡ once name (filter (λ y. test (name y)) xs)
  filter-once test [] = refl
  filter-once test (x ∷ xs) = by (test (name x)) refl (filter-once test xs)
    where
      by : (b : Bool) → test (name x) ≡ b → filter (λ y. test (name y)) (once name xs) ≡ once name (filter (λ y. test (name y)) xs)
          → cond b (x ∷ filter (λ y. test (name y)) (without name x (once name xs))) (filter (λ y. test (name y)) (without name x (once name xs)))
          ≡ once name (cond b (x ∷ filter (λ y. test (name y)) xs) (filter (λ y. test (name y)) xs))
      by true e next = ap (λ (ys : List A). x ∷ ys) (filter-swap (λ y. test (name y)) (differs x) (once name xs) ∙ ap (without name x) next)
      by false e next = filter-weaker (λ y. test (name y)) (differs x) (apart test x e) (once name xs) ∙ next

  pub without-once : (x : A) (xs : List A) → without name x (once name xs) ≡ once name (without name x xs)
  without-once x xs = filter-once (λ n. not (same_text n (name x))) xs

  pub once-once : (xs : List A) → once name (once name xs) ≡ once name xs
  once-once [] = refl
  once-once (x ∷ xs) =
      ap (λ (ys : List A). x ∷ ys) (ap (without name x) (sym (without-once x (once name xs)) ∙ ap (without name x) (once-once xs)) ∙ without-twice x (once name xs))

  -- what follows may have each name once already
  pub once-right : (xs ys : List A) → once name (xs ++ once name ys) ≡ once name (xs ++ ys)
  once-right [] ys = once-once ys
  once-right (x ∷ xs) ys = ap (λ (zs : List A). x ∷ without name x zs) (once-right xs ys)

  -- what goes before may have each name once already
  pub once-left : (xs ys : List A) → once name (once name xs ++ ys) ≡ once name (xs ++ ys)
  once-left [] ys = refl
  once-left (x ∷ xs) ys =
      ap (λ (zs : List A). x ∷ zs)
      (without-once x (without name x (once name xs) ++ ys)
      ∙ ap (once name) (filter-append (differs x) (without name x (once name xs)) ys
      ∙ ap (λ (zs : List A). zs ++ without name x ys) (without-twice x (once name xs))
      ∙ sym (filter-append (differs x) (once name xs) ys))
      ∙ sym (without-once x (once name xs ++ ys))
      ∙ ap (without name x) (once-left xs ys))

  -- two lists that have the same names at their first places are alike before and behind others
  pub once-before : (xs ys zs : List A) → once name xs ≡ once name ys → once name (xs ++ zs) ≡ once name (ys ++ zs)
  once-before xs ys zs e = sym (once-left xs zs) ∙ ap (λ (ws : List A). once name (ws ++ zs)) e ∙ once-left ys zs

  pub once-behind : (xs ys zs : List A) → once name ys ≡ once name zs → once name (xs ++ ys) ≡ once name (xs ++ zs)
  once-behind xs ys zs e = sym (once-right xs ys) ∙ ap (λ (ws : List A). once name (xs ++ ws)) e ∙ once-right xs zs

-- ---- of what stands for others

module _ {A B : Type 0} (f : A → B) where
  pub filter-map : (test : B → Bool) (xs : List A) → filter test (map f xs) ≡ map f (filter (λ x. test (f x)) xs)
  filter-map test [] = refl
  filter-map test (x ∷ xs) = by (test (f x)) (filter-map test xs)
    where
      by : (b : Bool) → filter test (map f xs) ≡ map f (filter (λ x. test (f x)) xs)
          → cond b (f x ∷ filter test (map f xs)) (filter test (map f xs)) ≡ map f (cond b (x ∷ filter (λ x. test (f x)) xs) (filter (λ x. test (f x)) xs))
      by true next = ap (λ (ys : List B). f x ∷ ys) next
      by false next = next

  pub once-map : (name : B → Option (List ℕ)) (xs : List A) → once name (map f xs) ≡ map f (once (λ x. name (f x)) xs)
  once-map name [] = refl
  once-map name (x ∷ xs) =
      ap (λ (ys : List B). f x ∷ ys) (ap (without name (f x)) (once-map name xs) ∙ filter-map (λ y. not (same_text (name y) (name (f x)))) (once (λ x. name (f x)) xs))
