-- Reading and replacing one item of a word are reading and setting one item of the list of its digits.
use Rattle.std.proofs.Common.{◌≡◌, ◌≢◌, ℕ, zero, suc, ◌+◌, ◌*◌, ◌/◌, ◌%◌, ◌^◌, ◌<◌, ◌≤◌, List, ◌∷◌, length, get_or, set, refl, ap, sym, subst, ◌∙◌, arith, get_or-set_other, get_or-set_same}
use Rattle.std.proofs.lemmas.Nat.{mod_below, pow-add, shr-shr, mod-pow-add, mod-mul-add, div-mul-add, div_below}
use Rattle.std.proofs.Math.Nat.{mul-le-mul_left}
use Rattle.mvm_heap.specs.Digits.{digits, item_at, replaced}

pub pow_pos : (n : ℕ) → 0 < 2 ^ n
pow_pos zero = omega arith
pow_pos (suc n) = omega (arith, pow_pos n)

-- ---- reading

digit_is : (n bits i w : ℕ) → i < n → get_or (digits n bits w) i 0 ≡ item_at bits (i * bits) w
unfolding item_at
digit_is zero bits i w h = absurd (omega (arith, h))
digit_is (suc n) bits zero w h =
    let z : zero * bits ≡ 0 = omega arith in
    let e : w / 1 ≡ w = omega arith in
    rw (z, e) refl
digit_is (suc n) bits (suc i) w h =
    let e : bits + i * bits ≡ suc i * bits = omega arith in
    digit_is n bits i (w / 2 ^ bits) (omega (arith, h)) ∙ rw (shr-shr w bits (i * bits), e) refl

digit_count : (n bits w : ℕ) → length (digits n bits w) ≡ n
digit_count zero bits w = refl
digit_count (suc n) bits w = omega (arith, digit_count n bits (w / 2 ^ bits))

-- ---- replacing

-- the same by recursion on the place
abbrev put : ℕ → ℕ → ℕ → ℕ → ℕ
put bits zero v w = w / 2 ^ bits * 2 ^ bits + v
put bits (suc i) v w = put bits i v (w / 2 ^ bits) * 2 ^ bits + w % 2 ^ bits

below : (w bits : ℕ) → w % 2 ^ bits < 2 ^ bits
below w bits = mod_below w (2 ^ bits) (pow_pos bits)

put_sets : (n bits i v w : ℕ) → i < n → v < 2 ^ bits → digits n bits (put bits i v w) ≡ set (digits n bits w) i v
put_sets zero bits i v w h f = refl
put_sets (suc n) bits zero v w h f = rw (mod-mul-add (w / 2 ^ bits) (2 ^ bits) v f, div-mul-add (w / 2 ^ bits) (2 ^ bits) v f) refl
put_sets (suc n) bits (suc i) v w h f =
    rw (mod-mul-add (put bits i v (w / 2 ^ bits)) (2 ^ bits) (w % 2 ^ bits) (below w bits), div-mul-add (put bits i v (w / 2 ^ bits)) (2 ^ bits) (w % 2 ^ bits) (below w bits))
    (ap (λ (xs : List ℕ). w % 2 ^ bits ∷ xs) (put_sets n bits i v (w / 2 ^ bits) (omega (arith, h)) f))

regrouped : (x s r b l : ℕ) → (x * s + r) * b + l ≡ x * (s * b) + (r * b + l)
regrouped x s r b l = grind arith

put_is : (bits i v w : ℕ) → put bits i v w ≡ replaced bits (i * bits) v w
unfolding replaced
put_is bits zero v w =
    let z : zero * bits ≡ 0 = omega arith in
    let o : w % 1 ≡ 0 = omega arith in
    let e : w / 1 ≡ w = omega arith in
    rw (z, o, e) (omega arith)
put_is bits (suc i) v w =
    let s : ℕ = i * bits in
    let e : suc i * bits ≡ s + bits = omega arith in
    let f : bits + s ≡ s + bits = omega arith in
    let high : w / 2 ^ bits / 2 ^ s ≡ w / 2 ^ (s + bits) = shr-shr w bits s ∙ ap (λ (k : ℕ). w / 2 ^ k) f in
    ap (λ (n : ℕ). n * 2 ^ bits + w % 2 ^ bits) (put_is bits i v (w / 2 ^ bits))
    ∙ regrouped (w / 2 ^ bits / 2 ^ s / 2 ^ bits * 2 ^ bits + v) (2 ^ s) (w / 2 ^ bits % 2 ^ s) (2 ^ bits) (w % 2 ^ bits)
    ∙ rw (e, mod-pow-add w s bits, ← high, pow-add 2 s bits) refl

-- ---- another item of the same word, and that item

pub item_same : (n bits i v w : ℕ) → i < n → v < 2 ^ bits → item_at bits (i * bits) (replaced bits (i * bits) v w) ≡ v
item_same n bits i v w h f =
    ap (λ (x : ℕ). item_at bits (i * bits) x) (sym (put_is bits i v w)) ∙ sym (digit_is n bits i (put bits i v w) h) ∙ ap (λ (xs : List ℕ). get_or xs i 0) (put_sets n bits i v w h f)
    ∙ get_or-set_same (digits n bits w) i v 0 (omega (arith, h, digit_count n bits w))

pub item_other : (n bits i j v w : ℕ) → i < n → j < n → v < 2 ^ bits → j ≢ i → item_at bits (j * bits) (replaced bits (i * bits) v w) ≡ item_at bits (j * bits) w
item_other n bits i j v w h g f d =
    ap (λ (x : ℕ). item_at bits (j * bits) x) (sym (put_is bits i v w)) ∙ sym (digit_is n bits j (put bits i v w) g) ∙ ap (λ (xs : List ℕ). get_or xs j 0) (put_sets n bits i v w h f)
    ∙ get_or-set_other (digits n bits w) i j v 0 d ∙ digit_is n bits j w g

-- ---- the word stays in range

product_below : (x p b r : ℕ) → x < p → r < b → x * b + r < p * b
product_below x p b r h g = let m : suc x ≤ p = omega (arith, h) in omega (arith, g, mul-le-mul_left b m)

put_small : (m bits i v w : ℕ) → i < m → v < 2 ^ bits → w < 2 ^ (m * bits) → put bits i v w < 2 ^ (m * bits)
put_small zero bits i v w h f l = absurd (omega (arith, h))
put_small (suc m) bits zero v w h f l =
    let e : suc m * bits ≡ m * bits + bits = omega arith in
    let p : 2 ^ (suc m * bits) ≡ 2 ^ (m * bits) * 2 ^ bits = ap (λ (k : ℕ). 2 ^ k) e ∙ pow-add 2 (m * bits) bits in
    subst (λ (k : ℕ). w / 2 ^ bits * 2 ^ bits + v < k) (sym p)
    (product_below (w / 2 ^ bits) (2 ^ (m * bits)) (2 ^ bits) v (div_below w (2 ^ bits) (2 ^ (m * bits)) (pow_pos bits) (subst (λ (k : ℕ). w < k) p l)) f)
put_small (suc m) bits (suc i) v w h f l =
    let e : suc m * bits ≡ m * bits + bits = omega arith in
    let p : 2 ^ (suc m * bits) ≡ 2 ^ (m * bits) * 2 ^ bits = ap (λ (k : ℕ). 2 ^ k) e ∙ pow-add 2 (m * bits) bits in
    let q : w / 2 ^ bits < 2 ^ (m * bits) = div_below w (2 ^ bits) (2 ^ (m * bits)) (pow_pos bits) (subst (λ (k : ℕ). w < k) p l) in
    subst (λ (k : ℕ). put bits i v (w / 2 ^ bits) * 2 ^ bits + w % 2 ^ bits < k) (sym p)
    (product_below (put bits i v (w / 2 ^ bits)) (2 ^ (m * bits)) (2 ^ bits) (w % 2 ^ bits) (put_small m bits i v (w / 2 ^ bits) (omega (arith, h)) f q) (below w bits))

pub replaced_small : (m bits i v w : ℕ) → i < m → v < 2 ^ bits → m * bits ≡ 64 → w < 2 ^ 64 → replaced bits (i * bits) v w < 2 ^ 64
replaced_small m bits i v w h f e l =
    let p : 2 ^ (m * bits) ≡ 2 ^ 64 = ap (λ (k : ℕ). 2 ^ k) e in
    subst (λ (k : ℕ). k < 2 ^ 64) (put_is bits i v w)
    (subst (λ (k : ℕ). put bits i v w < k) p (put_small m bits i v w h f (subst (λ (k : ℕ). w < k) (sym p) l)))

-- so each part of the sum is
abbrev pub parts : ℕ → ℕ → ℕ → ℕ → ℕ
parts bits shift v w = w / 2 ^ shift / 2 ^ bits * 2 ^ bits + v

pub product_small : (x s r n : ℕ) → x * s + r < n → x * s < n
product_small x s r n h = omega (arith, h)

pub factor_small : (x s r n : ℕ) → 0 < s → x * s + r < n → x < n
factor_small x s r n p h = let m : 1 ≤ s = omega (arith, p) in omega (arith, h, mul-le-mul_left x m)

pub replaced_parts : (m bits i v w : ℕ) → i < m → v < 2 ^ bits → m * bits ≡ 64 → w < 2 ^ 64 → parts bits (i * bits) v w * 2 ^ (i * bits) + w % 2 ^ (i * bits) < 2 ^ 64
unfolding replaced
replaced_parts m bits i v w h f e l = replaced_small m bits i v w h f e l

-- ---- the shift

pub shift_small : (count bits place : ℕ) → place < count → count * bits ≡ 64 → place * bits + bits ≤ 64
shift_small count bits place h e = let m : suc place ≤ count = omega (arith, h) in omega (arith, e, mul-le-mul_left bits m)

pub not_none : (count bits : ℕ) → count * bits ≡ 64 → 0 < bits
not_none count zero e = absurd (omega (arith, e))
not_none count (suc bits) e = omega arith

-- a word that has one item
only : (count place : ℕ) → place < count → count * 64 ≡ 64 → place ≡ 0
only count place h e = omega (arith, h, e)

pub whole_item : (count bits place w : ℕ) → bits ≡ 64 → place < count → count * bits ≡ 64 → w < 2 ^ 64 → w ≡ item_at bits (place * bits) w
unfolding item_at
whole_item count bits place w b h e f = rw (b, only count place h (rw b at e)) (omega (arith, f))

pub whole_replaced : (count bits place v w : ℕ) → bits ≡ 64 → place < count → count * bits ≡ 64 → w < 2 ^ 64 → v ≡ replaced bits (place * bits) v w
unfolding replaced
whole_replaced count bits place v w b h e f = rw (b, only count place h (rw b at e)) (omega (arith, f))
