-- The labels of a code, by places: each is found at its own place.
use Rattle.std.proofs.Common.{◌≡◌, ℕ, ◌<◌, ◌≤◌, ◌^◌, Bool, true, false, cond, List, [], ◌∷◌, ◌++◌, map, Some, None, refl, sym, ap, ◌∙◌, arith}
use Rattle.std.specs.Prelude.{◌||◌, ◌==◌, nat_lt, bytes_eq, decimal}
use Rattle.std.specs.List.{list_all, list_any}
use Rattle.std.proofs.lemmas.Bool.{ltb-true, eqb-true, eqb-false, eq-eqb, ne_eqb, lt-ltb}
use Rattle.std.proofs.lemmas.Fmt.{decimal_injective}
use Rattle.std.proofs.lemmas.Slice.Eq.{bytes_eq-Decides}
use Rattle.mvm_listing.specs.Blocks.{labelled}
use Rattle.mvm_listing.specs.Disassembly.{label}
use Rattle.mvm_listing.proofs.Tests.{parts, and_again}

abbrev pub row_of : ℕ → List ℕ × ℕ
row_of at = (label at, at)

label_same : (p n : ℕ) → p < 2 ^ 64 → n < 2 ^ 64 → bytes_eq (label p) (label n) ≡ (p == n)
label_same p n hp hn = by (p == n) refl (bytes_eq (label p) (label n)) refl
  where
    by : (a : Bool) → (p == n) ≡ a → (b : Bool) → bytes_eq (label p) (label n) ≡ b → bytes_eq (label p) (label n) ≡ (p == n)
    by true a true b = b ∙ sym a
    by false a false b = b ∙ sym a
    by true a false b =
        let e : label p ≡ label n = ap label (eqb-true p n a) in
        let t : bytes_eq (label p) (label n) ≡ true = (bytes_eq-Decides (label p) (label n)).1 e in absurd cc
    by false a true b =
        let e : label p ≡ label n = (bytes_eq-Decides (label p) (label n)).0 b in
        let d : decimal p ≡ decimal n = cc in
        absurd (eqb-false p n a (decimal_injective p n hp hn d))

-- every place is below another
abbrev pub below : ℕ → List ℕ → Bool
below n qs = list_all (λ q. nat_lt q n) qs

pub found_none : (qs : List ℕ) (n : ℕ) → below n qs ≡ true → n < 2 ^ 64 → labelled (map row_of qs) (label n) ≡ None
found_none [] n h s = refl
found_none (q ∷ qs) n h s =
    let a = parts (nat_lt q n) _ h in
    let l : q < n = ltb-true q n a.0 in
    let e : (q == n) ≡ false = ne_eqb q n (λ (k : q ≡ n). omega arith) in
    rw (label_same q n (omega arith) s, e) (found_none qs n a.1 s)

pub found_some : (qs : List ℕ) (n : ℕ) → below (2 ^ 64) qs ≡ true → n < 2 ^ 64 → list_any (λ q. q == n) qs ≡ true → labelled (map row_of qs) (label n) ≡ Some n
found_some [] n h s m = absurd cc
found_some (q ∷ qs) n h s m =
    let a = parts (nat_lt q (2 ^ 64)) _ h in
    by (label_same q n (ltb-true q (2 ^ 64) a.0) s) (found_some qs n a.1 s) (q == n) refl m
  where
    by : bytes_eq (label q) (label n) ≡ (q == n) → (list_any (λ q. q == n) qs ≡ true → labelled (map row_of qs) (label n) ≡ Some n) → (b : Bool) → (q == n) ≡ b → b || list_any (λ q. q == n) qs ≡ true → labelled (map row_of (q ∷ qs)) (label n) ≡ Some n
    by same later true e m = rw (same, e) (ap (λ (k : ℕ). Some k) (eqb-true q n e))
    by same later false e m = rw (same, e) (later m)

-- ---- which places have labels

-- the places of labels behind a place that may be marked
abbrev pub marks : (ℕ → Bool) → ℕ → List ℕ → List ℕ
marks f at qs = cond (f at) (qs ++ at ∷ []) qs

pub below_more : (m n : ℕ) (qs : List ℕ) → m ≤ n → below m qs ≡ true → below n qs ≡ true
below_more m n [] l h = refl
below_more m n (q ∷ qs) l h = let a = parts (nat_lt q m) _ h in let k : q < m = ltb-true q m a.0 in and_again _ _ (lt-ltb q n (omega arith)) (below_more m n qs l a.1)

below_end : (n at : ℕ) (qs : List ℕ) → at < n → below n qs ≡ true → below n (qs ++ at ∷ []) ≡ true
below_end n at [] l h = rw (lt-ltb at n l) refl
below_end n at (q ∷ qs) l h = let a = parts (nat_lt q n) _ h in and_again _ _ a.0 (below_end n at qs l a.1)

pub below_marks : (f : ℕ → Bool) (n at : ℕ) (qs : List ℕ) → at < n → below n qs ≡ true → below n (marks f at qs) ≡ true
below_marks f n at qs l h = by (f at)
  where
    by : (b : Bool) → below n (cond b (qs ++ at ∷ []) qs) ≡ true
    by true = below_end n at qs l h
    by false = h

abbrev pub has : ℕ → List ℕ → Bool
has n qs = list_any (λ q. q == n) qs

has_kept : (n at : ℕ) (qs : List ℕ) → has n qs ≡ true → has n (qs ++ at ∷ []) ≡ true
has_kept n at [] h = absurd cc
has_kept n at (q ∷ qs) h = by (has_kept n at qs) (q == n) h
  where
    by : (has n qs ≡ true → has n (qs ++ at ∷ []) ≡ true) → (b : Bool) → b || has n qs ≡ true → b || has n (qs ++ at ∷ []) ≡ true
    by later true k = refl
    by later false k = later k

has_end : (n : ℕ) (qs : List ℕ) → has n (qs ++ n ∷ []) ≡ true
has_end n [] = rw (eq-eqb n n refl) refl
has_end n (q ∷ qs) = by (has_end n qs) (q == n)
  where
    by : has n (qs ++ n ∷ []) ≡ true → (b : Bool) → b || has n (qs ++ n ∷ []) ≡ true
    by later true = refl
    by later false = later

pub marks_kept : (f : ℕ → Bool) (n at : ℕ) (qs : List ℕ) → has n qs ≡ true → has n (marks f at qs) ≡ true
marks_kept f n at qs h = by (f at)
  where
    by : (b : Bool) → has n (cond b (qs ++ at ∷ []) qs) ≡ true
    by true = has_kept n at qs h
    by false = h

pub marked : (f : ℕ → Bool) (n : ℕ) (qs : List ℕ) → f n ≡ true → has n (marks f n qs) ≡ true
marked f n qs h = rw h (has_end n qs)
