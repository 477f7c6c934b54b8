-- Lists in which those of one name are one: what is found first is found first where each stands once.
use Rattle.std.proofs.Common.{◌≡◌, ℕ, Bool, true, false, cond, List, [], ◌∷◌, ◌++◌, Option, Some, None, refl, sym, ap, ◌∙◌}
use Rattle.std.specs.Prelude.{not, ◌||◌, option_and_then}
use Rattle.std.specs.List.{filter, list_any}
use Rattle.mvm_shape.specs.Members.{same_text}
use Rattle.mvm_set.specs.Once.{without, once, AreKept, or_else, first}
use Rattle.mvm_set.proofs.Once.{same_names}

-- ---- the first of a list

module _ {B : Type 0} where
  pub or_else-assoc : (a b c : Option B) → or_else (or_else a b) c ≡ or_else a (or_else b c)
  or_else-assoc (Some x) b c = refl
  or_else-assoc None b c = refl

  pub or_else-none : (a : Option B) → or_else a None ≡ a
  or_else-none (Some x) = refl
  or_else-none None = refl

  or_else-twice : (a b : Option B) → or_else a (or_else a b) ≡ or_else a b
  or_else-twice (Some x) b = refl
  or_else-twice None b = refl

  -- behind something, what comes to the same behind it
  behind : (a b c d : Option B) → or_else a c ≡ or_else a d → or_else a (or_else b c) ≡ or_else a (or_else b d)
  behind (Some x) b c d e = refl
  behind None b c d e = ap (or_else b) e

  pub first-append : {A : Type 0} (look : A → Option B) (xs ys : List A) → first look (xs ++ ys) ≡ or_else (first look xs) (first look ys)
  first-append look [] ys = refl
  first-append look (x ∷ xs) ys = ap (or_else (look x)) (first-append look xs ys) ∙ sym (or_else-assoc (look x) (first look xs) (first look ys))

or_twice : (a b : Bool) → (a || (a || b)) ≡ (a || b)
or_twice true b = refl
or_twice false b = refl

or_behind : (a b c d : Bool) → (a || c) ≡ (a || d) → (a || (b || c)) ≡ (a || (b || d))
or_behind true b c d e = refl
or_behind false b c d e = ap (λ (f : Bool). b || f) e

-- ---- those that are kept under their names

module _ {A : Type 0} (name : A → Option (List ℕ)) (kept : List ℕ → Option A) where
  pub kept-append : (xs ys : List A) → AreKept name kept xs → AreKept name kept ys → AreKept name kept (xs ++ ys)
  kept-append [] ys h k = k
  kept-append (x ∷ xs) ys h k = (h.0, kept-append xs ys h.1 k)

  pub kept-filter : (test : A → Bool) (xs : List A) → AreKept name kept xs → AreKept name kept (filter test xs)
  kept-filter test [] k = tt
  kept-filter test (x ∷ xs) k = by (test x) (kept-filter test xs k.1)
    where
      by : (b : Bool) → AreKept name kept (filter test xs) → AreKept name kept (cond b (x ∷ filter test xs) (filter test xs))
      by true next = (k.0, next)
      by false next = next

  pub kept-once : (xs : List A) → AreKept name kept xs → AreKept name kept (once name xs)
  kept-once [] k = tt
  kept-once (x ∷ xs) k = (k.0, kept-filter (λ y. not (same_text (name y) (name x))) (once name xs) (kept-once xs k.1))

  pub same_one : (x y : A) → option_and_then kept (name x) ≡ Some x → option_and_then kept (name y) ≡ Some y → same_text (name y) (name x) ≡ true → y ≡ x
  same_one x y k h s = let n = ap (option_and_then kept) (same_names (name y) (name x) s) in cc

  -- behind the first of a name the others of that name tell nothing
  first-without : {B : Type 0} (look : A → Option B) (x : A) (xs : List A) → option_and_then kept (name x) ≡ Some x → AreKept name kept xs
      → or_else (look x) (first look (without name x xs)) ≡ or_else (look x) (first look xs)
  first-without look x [] k ks = refl
  first-without look x (y ∷ ys) k ks = by (same_text (name y) (name x)) refl (first-without look x ys k ks.1)
    where
      by : (b : Bool) → same_text (name y) (name x) ≡ b → or_else (look x) (first look (without name x ys)) ≡ or_else (look x) (first look ys)
          → or_else (look x) (first look (cond (not b) (y ∷ without name x ys) (without name x ys))) ≡ or_else (look x) (or_else (look y) (first look ys))
      by true s next =
          let q : y ≡ x = same_one x y k ks.0 s in
          next ∙ sym (or_else-twice (look x) (first look ys)) ∙ ap (λ (z : A). or_else (look x) (or_else (look z) (first look ys))) (sym q)
      by false s next = behind (look x) (look y) (first look (without name x ys)) (first look ys) next

  pub first-once : {B : Type 0} (look : A → Option B) (xs : List A) → AreKept name kept xs → first look (once name xs) ≡ first look xs
  first-once look [] k = refl
  first-once look (x ∷ xs) k = first-without look x (once name xs) k.0 (kept-once xs k.1) ∙ ap (or_else (look x)) (first-once look xs k.1)

  -- a test finds in the list in which each stands once what it finds in the whole
  any-without : (test : A → Bool) (x : A) (xs : List A) → option_and_then kept (name x) ≡ Some x → AreKept name kept xs
      → (test x || list_any test (without name x xs)) ≡ (test x || list_any test xs)
  any-without test x [] k ks = refl
  any-without test x (y ∷ ys) k ks = by (same_text (name y) (name x)) refl (any-without test x ys k ks.1)
    where
      by : (b : Bool) → same_text (name y) (name x) ≡ b → (test x || list_any test (without name x ys)) ≡ (test x || list_any test ys)
          → (test x || list_any test (cond (not b) (y ∷ without name x ys) (without name x ys))) ≡ (test x || (test y || list_any test ys))
      by true s next =
          let q : y ≡ x = same_one x y k ks.0 s in
          next ∙ sym (or_twice (test x) (list_any test ys)) ∙ ap (λ (z : A). test x || (test z || list_any test ys)) (sym q)
      by false s next = or_behind (test x) (test y) (list_any test (without name x ys)) (list_any test ys) next

  pub any-kept : (test : A → Bool) (xs : List A) → AreKept name kept xs → list_any test (once name xs) ≡ list_any test xs
  any-kept test [] k = refl
  any-kept test (x ∷ xs) k = any-without test x (once name xs) k.0 (kept-once xs k.1) ∙ ap (λ (b : Bool). test x || b) (any-kept test xs k.1)
