-- Members of lists, and the first that passes a test.
use Rattle.std.proofs.Common.{◌≡◌, ◌<◌, ℕ, zero, suc, length, get_or, arith, Bool, true, false, cond, List, [], ◌∷◌, ◌++◌, Option, Some, None, refl, sym, ap, subst, ◌∙◌, ◌⊎◌, inl, inr}
use Rattle.std.specs.Prelude.{map, All, ◌||◌}
use Rattle.std.specs.List.{find, list_any, filter}
use Rattle.std.proofs.lemmas.Bool.{or_cases}

abbrev pub In : {A : Type 0} → List A → A → Type 0
In [] x = ⊥
In (y ∷ ys) x = (y ≡ x) ⊎ In ys x

pub in_left : {A : Type 0} (xs ys : List A) (x : A) → In xs x → In (xs ++ ys) x
in_left [] ys x h = absurd h
in_left (y ∷ xs) ys x (inl e) = inl e
in_left (y ∷ xs) ys x (inr h) = inr (in_left xs ys x h)

pub in_right : {A : Type 0} (xs ys : List A) (x : A) → In ys x → In (xs ++ ys) x
in_right [] ys x h = h
in_right (y ∷ xs) ys x h = inr (in_right xs ys x h)

pub in_cases : {A : Type 0} (xs ys : List A) (x : A) → In (xs ++ ys) x → In xs x ⊎ In ys x
in_cases [] ys x h = inr h
in_cases (y ∷ xs) ys x (inl e) = inl (inl e)
in_cases (y ∷ xs) ys x (inr h) = elim (in_cases xs ys x h) [ inl a ↦ inl (inr a) | inr b ↦ inr b ]

pub in_filter : {A : Type 0} (t : A → Bool) (xs : List A) (x : A) → In (filter t xs) x → In xs x
in_filter t [] x h = h
in_filter t (y ∷ xs) x h = by (t y) h (in_filter t xs x)
  where
    by : (b : Bool) → In (cond b (y ∷ filter t xs) (filter t xs)) x → (In (filter t xs) x → In xs x) → (y ≡ x) ⊎ In xs x
    by true (inl e) next = inl e
    by true (inr h) next = inr (next h)
    by false h next = inr (next h)

pub filter_in : {A : Type 0} (t : A → Bool) (xs : List A) (x : A) → In xs x → t x ≡ true → In (filter t xs) x
filter_in t [] x h p = h
filter_in t (y ∷ xs) x h p = by (t y) refl h (λ k. filter_in t xs x k p)
  where
    by : (b : Bool) → t y ≡ b → (y ≡ x) ⊎ In xs x → (In xs x → In (filter t xs) x) → In (cond b (y ∷ filter t xs) (filter t xs)) x
    by true e (inl q) next = inl q
    by true e (inr k) next = inr (next k)
    by false e (inl q) next = absurd (let r = ap t q in cc)
    by false e (inr k) next = next k

pub any_in : {A B : Type 0} (t : B → Bool) (f : A → B) (xs : List A) (x : A) → In xs x → t (f x) ≡ true → list_any t (map f xs) ≡ true
any_in t f [] x h p = absurd h
any_in t f (y ∷ xs) x (inl e) p = let q : t (f y) ≡ true = ap (λ z. t (f z)) e ∙ p in rw q refl
any_in t f (y ∷ xs) x (inr h) p = by (t (f y)) (any_in t f xs x h p)
  where
    by : (b : Bool) → list_any t (map f xs) ≡ true → (b || list_any t (map f xs)) ≡ true
    by true e = refl
    by false e = e

-- one that passes
pub record Passing {A B : Type 0} (t : B → Bool) (f : A → B) (xs : List A) : Type 0 where
  pub item : A
  pub is_in : In xs item
  pub passes : t (f item) ≡ true

pub in_any : {A B : Type 0} (t : B → Bool) (f : A → B) (xs : List A) → list_any t (map f xs) ≡ true → Passing t f xs
in_any t f [] e = absurd cc
in_any t f (y ∷ xs) e = by (or_cases (t (f y)) (list_any t (map f xs)) e) (in_any t f xs)
  where
    by : (t (f y) ≡ true) ⊎ (list_any t (map f xs) ≡ true) → (list_any t (map f xs) ≡ true → Passing t f xs) → Passing t f (y ∷ xs)
    by (inl p) next = record { item = y; is_in = inl refl; passes = p }
    by (inr p) next = let r = next p in record { item = r.item; is_in = inr r.is_in; passes = r.passes }

-- the first that passes, with those before it
pub record Split {A B : Type 0} (t : B → Bool) (f : A → B) (xs : List A) (o : B) : Type 0 where
  pub item : A
  pub before : List A
  pub behind : List A
  pub splits : xs ≡ before ++ item ∷ behind
  pub is : f item ≡ o
  pub passes : t (f item) ≡ true
  pub none_before : (y : A) → In before y → t (f y) ≡ true → ⊥

pub in_middle : {A : Type 0} (before behind : List A) (x : A) → In (before ++ x ∷ behind) x
in_middle [] behind x = inl refl
in_middle (y ∷ before) behind x = inr (in_middle before behind x)

pub split_in : {A B : Type 0} {t : B → Bool} {f : A → B} {xs : List A} {o : B} → (s : Split t f xs o) → In xs s.item
split_in s = subst (λ zs. In zs s.item) (sym s.splits) (in_middle s.before s.behind s.item)

pub find_split : {A B : Type 0} (t : B → Bool) (f : A → B) (xs : List A) (o : B) → find t (map f xs) ≡ Some o → Split t f xs o
find_split t f [] o e = absurd cc
find_split t f (x ∷ xs) o e = by (t (f x)) refl e (find_split t f xs o)
  where
    by : (b : Bool) → t (f x) ≡ b → cond b (Some (f x)) (find t (map f xs)) ≡ Some o → (find t (map f xs) ≡ Some o → Split t f xs o) → Split t f (x ∷ xs) o
    by true p e next = record { item = x; before = []; behind = xs; splits = refl; is = cc; passes = p; none_before = λ y h q. h }
    by false p e next =
        let r = next e in
        record {
          item = r.item;
          before = x ∷ r.before;
          behind = r.behind;
          splits = ap (λ zs. x ∷ zs) r.splits;
          is = r.is;
          passes = r.passes;
          none_before = λ y h q. elim h [
            | inl s ↦ (let k = ap (λ z. t (f z)) s in absurd cc)
            | inr k ↦ r.none_before y k q
          ];
        }

pub find_none : {A B : Type 0} (t : B → Bool) (f : A → B) (xs : List A) → find t (map f xs) ≡ None → (y : A) → In xs y → t (f y) ≡ true → ⊥
find_none t f [] e y h q = h
find_none t f (x ∷ xs) e y h q = by (t (f x)) refl e h (λ r k. find_none t f xs r y k q)
  where
    by : (b : Bool) → t (f x) ≡ b → cond b (Some (f x)) (find t (map f xs)) ≡ None → (x ≡ y) ⊎ In xs y → (find t (map f xs) ≡ None → In xs y → ⊥) → ⊥
    by true p e h next = cc
    by false p e (inl s) next = let k = ap (λ z. t (f z)) s in cc
    by false p e (inr k) next = next e k

get_in : {A : Type 0} (xs : List A) (k : ℕ) (d : A) → k < length xs → In xs (get_or xs k d)
get_in [] k d lt = absurd (omega (arith, lt))
get_in (x ∷ xs) zero d lt = inl refl
get_in (x ∷ xs) (suc k) d lt = inr (get_in xs k d (omega (arith, lt)))

-- where one of a list stands
pub record Standing {A : Type 0} (xs : List A) (x : A) : Type 0 where
  pub before : List A
  pub behind : List A
  pub splits : xs ≡ before ++ x ∷ behind

pub standing : {A : Type 0} (xs : List A) (x : A) → In xs x → Standing xs x
standing [] x h = absurd h
standing (y ∷ ys) x (inl e) = record { before = []; behind = ys; splits = ap (λ z. z ∷ ys) e }
standing (y ∷ ys) x (inr h) = let r = standing ys x h in record { before = y ∷ r.before; behind = r.behind; splits = ap (λ zs. y ∷ zs) r.splits }

pub all_from : {A : Type 0} (P : A → Type 0) (xs : List A) → ((x : A) → In xs x → P x) → All P xs
all_from P xs h = λ k d lt. h (get_or xs k d) (get_in xs k d lt)

pub some_option : {A : Type 0} (o : Option A) → ((x : A) × (o ≡ Some x)) ⊎ (o ≡ None)
some_option (Some x) = inl (x, refl)
some_option None = inr refl
