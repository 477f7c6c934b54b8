-- What the names that do not pass a test weigh together.
use Rattle.std.proofs.Common.{◌≡◌, ℕ, ◌+◌, ◌≤◌, ◌<◌, Bool, true, false, List, [], ◌∷◌, ◌++◌, length, refl, ◌∙◌, arith}
use Rattle.std.specs.Prelude.{◌||◌}
use Rattle.std.specs.Str.{bytes_eq}
use Rattle.std.proofs.lemmas.Slice.Eq.{bytes_eq-Decides}
use Rattle.std.proofs.lemmas.List.Folds.{list_any-append}
use Rattle.mvm_table.specs.Load.{is_in}
use Rattle.mvm_table.specs.Work.{weight_if, unpassed}

counted : (n : ℕ) (b : Bool) → weight_if b n ≤ n
counted n true = omega arith
counted n false = omega arith

pub fewer : (weight : List ℕ → ℕ) (old new : List ℕ → Bool) → ((name : List ℕ) → old name ≡ true → new name ≡ true) → (names : List (List ℕ)) → unpassed weight new names ≤ unpassed weight old names
fewer weight old new h [] = omega arith
fewer weight old new h (name ∷ names) = by (old name) (new name) (h name) (fewer weight old new h names)
  where
    by : (a b : Bool) → (a ≡ true → b ≡ true) → unpassed weight new names ≤ unpassed weight old names
        → weight_if b (weight name) + unpassed weight new names ≤ weight_if a (weight name) + unpassed weight old names
    by true true k less = omega (arith, less)
    by true false k less = absurd (let z = k refl in cc)
    by false b k less = let c = counted (weight name) b in omega (arith, less, c)

-- one name more passes
pub one_fewer : (weight : List ℕ → ℕ) (old new : List ℕ → Bool) → ((name : List ℕ) → old name ≡ true → new name ≡ true) → (name : List ℕ) → old name ≡ false → new name ≡ true
    → (names : List (List ℕ)) → is_in names name ≡ true → unpassed weight new names + weight name ≤ unpassed weight old names
one_fewer weight old new h name o n [] k = absurd cc
one_fewer weight old new h name o n (other ∷ names) k = by (bytes_eq other name) refl k (one_fewer weight old new h name o n names)
  where
    here : other ≡ name → unpassed weight new (other ∷ names) + weight name ≤ unpassed weight old (other ∷ names)
    here same =
        let a : weight_if (new other) (weight other) ≡ 0 = rw (same, n) refl in
        let b : weight_if (old other) (weight other) ≡ weight name = rw (same, o) refl in
        let less = fewer weight old new h names in
        omega (arith, a, b, less)

    one_below : (a b : Bool) → (a ≡ true → b ≡ true) → weight_if b (weight other) ≤ weight_if a (weight other)
    one_below true true k = omega arith
    one_below true false k = absurd (let z = k refl in cc)
    one_below false b k = counted (weight other) b

    by : (b : Bool) → bytes_eq other name ≡ b → (b || is_in names name) ≡ true → (is_in names name ≡ true → unpassed weight new names + weight name ≤ unpassed weight old names)
        → unpassed weight new (other ∷ names) + weight name ≤ unpassed weight old (other ∷ names)
    by true e k rest = here ((bytes_eq-Decides other name).0 e)
    by false e k rest =
        let less = rest k in
        let one = one_below (old other) (new other) (h other) in
        omega (arith, less, one)

-- ---- a path that is one name longer

abbrev one : List ℕ → ℕ
one name = 1

abbrev pub unmet : List (List ℕ) → List (List ℕ) → ℕ
unmet path names = unpassed one (is_in path) names

pub unmet-most : (path names : List (List ℕ)) → unmet path names ≤ length names
unmet-most path [] = omega arith
unmet-most path (name ∷ names) =
    let c = counted 1 (is_in path name) in
    omega (arith, unmet-most path names, c)

pub is_in-longer : (path : List (List ℕ)) (name other : List ℕ) → is_in (path ++ name ∷ []) other ≡ (is_in path other || (bytes_eq name other || false))
is_in-longer path name other = list_any-append (λ (x : List ℕ). bytes_eq x other) path (name ∷ [])

or_left : (a b : Bool) → a ≡ true → (a || b) ≡ true
or_left a b e = rw e refl

or_right : (a b : Bool) → b ≡ true → (a || b) ≡ true
or_right true b e = refl
or_right false b e = e

or_first : (a : Bool) → a ≡ true → (a || false) ≡ true
or_first a e = rw e refl

pub is_in-old : (path : List (List ℕ)) (name other : List ℕ) → is_in path other ≡ true → is_in (path ++ name ∷ []) other ≡ true
is_in-old path name other e = is_in-longer path name other ∙ or_left (is_in path other) (bytes_eq name other || false) e

pub is_in-new : (path : List (List ℕ)) (name : List ℕ) → is_in (path ++ name ∷ []) name ≡ true
is_in-new path name =
    let b : bytes_eq name name ≡ true = (bytes_eq-Decides name name).1 refl in
    is_in-longer path name name ∙ or_right (is_in path name) (bytes_eq name name || false) (or_first (bytes_eq name name) b)

pub unmet-new : (path names : List (List ℕ)) (name : List ℕ) → is_in path name ≡ false → is_in names name ≡ true → unmet (path ++ name ∷ []) names < unmet path names
unmet-new path names name off known =
    let less = one_fewer one (is_in path) (is_in (path ++ name ∷ [])) (λ other e. is_in-old path name other e) name off (is_in-new path name) names known in
    omega (arith, less)
