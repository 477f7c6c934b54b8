-- What is settled in an index stays settled, as entries are put into it.
use Rattle.std.proofs.Common.{◌≡◌, ℕ, Bool, true, false, ◌||◌, ◌==◌, List, [], ◌∷◌, ◌++◌, Option, Some, None, Result, Ok, Err, refl, sym, ap, ◌∙◌, arith, nat_le, leb-true, leb-false, le-leb, eqb-true, eq-eqb, true≢false, if◌then◌else◌, OnOk}
use Rattle.std.proofs.lemmas.Bool.{or_right}
use Rattle.mvm_layout.specs.declared.parts.Item.{Item}
use Rattle.mvm_constants.specs.declared.key.Key.{Key}
use Rattle.mvm_constants.specs.declared.key.Lack.{Lack}
use Rattle.mvm_constants.specs.declared.key.Lack.TheVariants.{Missing, OtherKind}
use Rattle.mvm_constants.specs.Index.{Keyed, found, lower, Lowers, is_key, Waiting, waiting_for, Waits, is_among, is_by, is_settled, has, key_at, IsSound}
use Rattle.mvm_constants.proofs.Keys.{key_same, key_itself}

-- ---- an entry that is found by a key

lower_by : (index : Option ℕ) (at i : ℕ) → is_by index i ≡ true → is_by (Some (lower index at)) i ≡ true
lower_by None at i h = absurd (true≢false (sym h))
lower_by (Some n) at i h = by (nat_le n at) refl
  where
    by : (b : Bool) → nat_le n at ≡ b → nat_le (if b then n else at) i ≡ true
    by true k = h
    by false k = le-leb at i (omega (arith, leb-false n at k, leb-true n i h))

lower_here : (index : Option ℕ) (at : ℕ) → is_by (Some (lower index at)) at ≡ true
lower_here None at = le-leb at at (omega arith)
lower_here (Some n) at = by (nat_le n at) refl
  where
    by : (b : Bool) → nat_le n at ≡ b → nat_le (if b then n else at) at ≡ true
    by true k = k
    by false k = le-leb at at (omega arith)

under : (old new : Keyed) (key other : Key) (at : ℕ) → Lowers old key at new → is_key key other ≡ true → found other new ≡ Some (lower (found other old) at)
under old new key other at h k =
    h other ∙ ap (λ (b : Bool). if b then Some (lower (found key old) at) else found other old) k
    ∙ ap (λ (q : Key). Some (lower (found q old) at)) (key_same key other k)

beside : (old new : Keyed) (key other : Key) (at : ℕ) → Lowers old key at new → is_key key other ≡ false → found other new ≡ found other old
beside old new key other at h k = h other ∙ ap (λ (b : Bool). if b then Some (lower (found key old) at) else found other old) k

pub lowers_keeps : (old new : Keyed) (waiting : Waiting) (key : Key) (at : ℕ) → Lowers old key at new
    → (e : Result Key Lack) (i : ℕ) → is_settled old waiting e i ≡ true → is_settled new waiting e i ≡ true
lowers_keeps old new waiting key at h (Ok other) i s = by (is_key key other) refl
  where
    by : (b : Bool) → is_key key other ≡ b → is_by (found other new) i ≡ true
    by true k = ap (λ (o : Option ℕ). is_by o i) (under old new key other at h k) ∙ lower_by (found other old) at i s
    by false k = ap (λ (o : Option ℕ). is_by o i) (beside old new key other at h k) ∙ s
lowers_keeps old new waiting key at h (Err (Missing m)) i s = s
lowers_keeps old new waiting key at h (Err OtherKind) i s = s

pub lowers_here : (old new : Keyed) (waiting : Waiting) (key : Key) (at : ℕ) → Lowers old key at new → is_settled new waiting (Ok key) at ≡ true
lowers_here old new waiting key at h = ap (λ (o : Option ℕ). is_by o at) (under old new key key at h (key_itself key)) ∙ lower_here (found key old) at

pub lowers_sound : (pool : List Item) (numbers : List ℕ) (old new : Keyed) (key : Key) (at : ℕ) → Lowers old key at new → key_at pool numbers at ≡ Ok key
    → IsSound pool numbers old → IsSound pool numbers new
lowers_sound pool numbers old new key at h is sound other i f = by (is_key key other) refl
  where
    here : is_key key other ≡ true → has (Some other) (key_at pool numbers at) ≡ true
    here k = ap (has (Some other)) is ∙ ap (is_key other) (key_same key other k) ∙ key_itself other

    which : (o : Option ℕ) → found other old ≡ o → is_key key other ≡ true → Some (lower o at) ≡ Some i → has (Some other) (key_at pool numbers i) ≡ true
    which None g k e = let m : at ≡ i = cc in ap (λ (j : ℕ). has (Some other) (key_at pool numbers j)) (sym m) ∙ here k
    which (Some n) g k e = last (nat_le n at) (let m : lower (Some n) at ≡ i = cc in m)
      where
        last : (b : Bool) → (if b then n else at) ≡ i → has (Some other) (key_at pool numbers i) ≡ true
        last true m = sound other i (g ∙ ap (λ (j : ℕ). Some j) m)
        last false m = ap (λ (j : ℕ). has (Some other) (key_at pool numbers j)) (sym m) ∙ here k

    by : (b : Bool) → is_key key other ≡ b → has (Some other) (key_at pool numbers i) ≡ true
    by true k = which (found other old) refl k (sym (under old new key other at h k) ∙ f)
    by false k = sound other i (sym (beside old new key other at h k) ∙ f)

-- ---- an entry that waits

among_left : (i : ℕ) (xs ys : List ℕ) → is_among i xs ≡ true → is_among i (xs ++ ys) ≡ true
among_left i [] ys h = absurd (true≢false (sym h))
among_left i (x ∷ xs) ys h = by (i == x) h (among_left i xs ys)
  where
    by : (b : Bool) → (b || is_among i xs) ≡ true → (is_among i xs ≡ true → is_among i (xs ++ ys) ≡ true) → (b || is_among i (xs ++ ys)) ≡ true
    by true k later = refl
    by false k later = later k

pub among_last : (i : ℕ) (xs : List ℕ) → is_among i (xs ++ i ∷ []) ≡ true
among_last i [] = ap (λ (b : Bool). b || false) (eq-eqb i i refl)
among_last i (x ∷ xs) = or_right (i == x) (is_among i (xs ++ i ∷ [])) (among_last i xs)

-- one more among them
pub among_more : (i x : ℕ) (xs : List ℕ) → is_among i (xs ++ x ∷ []) ≡ true → is_among i xs ≡ false → i ≡ x
among_more i x [] h out = by (i == x) refl h
  where
    by : (b : Bool) → (i == x) ≡ b → (b || false) ≡ true → i ≡ x
    by true e k = eqb-true i x e
    by false e k = absurd (true≢false (sym k))
among_more i x (y ∷ ys) h out = by (i == y) h out (among_more i x ys)
  where
    by : (b : Bool) → (b || is_among i (ys ++ x ∷ [])) ≡ true → (b || is_among i ys) ≡ false → (is_among i (ys ++ x ∷ []) ≡ true → is_among i ys ≡ false → i ≡ x) → i ≡ x
    by true k n later = absurd (true≢false n)
    by false k n later = later k n

pub waits_keeps : (keyed : Keyed) (old new : Waiting) (index at : ℕ) → Waits old index at new
    → (e : Result Key Lack) (i : ℕ) → is_settled keyed old e i ≡ true → is_settled keyed new e i ≡ true
waits_keeps keyed old new index at h (Ok other) i s = s
waits_keeps keyed old new index at h (Err OtherKind) i s = s
waits_keeps keyed old new index at h (Err (Missing m)) i s = ap (is_among i) (h m) ∙ by (index == m) refl
  where
    by : (b : Bool) → (index == m) ≡ b → is_among i (if b then waiting_for index old ++ at ∷ [] else waiting_for m old) ≡ true
    by true k = among_left i (waiting_for index old) (at ∷ []) (ap (λ (j : ℕ). is_among i (waiting_for j old)) (eqb-true index m k) ∙ s)
    by false k = s

pub waits_here : (keyed : Keyed) (old new : Waiting) (index at : ℕ) → Waits old index at new → is_settled keyed new (Err (Missing index)) at ≡ true
waits_here keyed old new index at h =
    ap (is_among at) (h index ∙ ap (λ (b : Bool). if b then waiting_for index old ++ at ∷ [] else waiting_for index old) (eq-eqb index index refl))
    ∙ among_last at (waiting_for index old)

pub on_ok : {A E : Type 0} (r : Result A E) {P Q : Type 0} → (P → Q) → OnOk r P → OnOk r Q
on_ok (Ok x) f h = f h
on_ok (Err e) f h = h
