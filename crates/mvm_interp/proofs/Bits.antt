-- Which threads have ended, as the bits of one number.
use native.Mathlib.Omega.{arith}
use Rattle.std.proofs.Common.{◌≡◌, ◌≤◌, ◌<◌, refl, sym, ◌∙◌, ap}
use Rattle.std.proofs.lemmas.Bool.Decides.{nat_tests}
use Rattle.std.proofs.lemmas.Nat.{pow_pos, pow-add, shr-shr}
use Rattle.std.proofs.lemmas.Option.{slice_get_within}
use Rattle.std.specs.Prelude.{nat_lt, ◌&&◌, ℕ, zero, suc, ◌+◌, ◌*◌, ◌/◌, ◌%◌, ◌^◌, List, [], ◌∷◌, ◌++◌, length, map, Bool, true, false, ◌==◌, Some, None, slice_get, slice_set}
use Rattle.mvm_invoke.specs.Leaving.{has_bit}
use Rattle.mvm_interp.specs.Names.{ended_bits, bit_of, is_over}
use Rattle.mvm_interp.specs.declared.row.ThreadRow.{ThreadRow}

twice : (n : ℕ) → 2 ^ suc n ≡ 2 * 2 ^ n
twice n = let e : 2 ^ (1 + n) ≡ 2 ^ 1 * 2 ^ n = pow-add 2 1 n in let s : suc n ≡ 1 + n = omega arith in rw (s) e

bit_most : (b : Bool) → bit_of b ≤ 1
bit_most true = omega arith
bit_most false = omega arith

-- there are no more of them than threads
pub bits_few : (rows : List ThreadRow) → ended_bits rows < 2 ^ length rows
unfolding ended_bits
bits_few [] = omega arith
bits_few (row ∷ rows) = omega (arith, bits_few rows, twice (length rows), bit_most (is_over row.state))

-- ---- one bit

-- the digit of two at this place
abbrev digit : ℕ → ℕ → Bool
digit bits place = (bits / 2 ^ place) % 2 == 1

first_bit : (over : Bool) (others : ℕ) → digit (bit_of over + 2 * others) 0 ≡ over
first_bit true others = let e : ((1 + 2 * others) / 2 ^ 0) % 2 ≡ 1 = omega arith in rw e refl
first_bit false others = let e : ((0 + 2 * others) / 2 ^ 0) % 2 ≡ 0 = omega arith in rw e refl

half : (bit others : ℕ) → bit ≤ 1 → (bit + 2 * others) / 2 ≡ others
half bit others h = omega (arith, h)

next_bit : (over : Bool) (others i : ℕ) → digit (bit_of over + 2 * others) (suc i) ≡ digit others i
next_bit over others i =
    let n = bit_of over + 2 * others in
    let s : suc i ≡ 1 + i = omega arith in
    let e : n / 2 ^ 1 / 2 ^ i ≡ n / 2 ^ (1 + i) = shr-shr n 1 i in
    let h : n / 2 ^ 1 ≡ others = half (bit_of over) others (bit_most over) in
    let f : n / 2 ^ suc i ≡ others / 2 ^ i = rw s (sym e ∙ ap (λ (m : ℕ). m / 2 ^ i) h) in
    ap (λ (m : ℕ). m % 2 == 1) f

no_bit : (i : ℕ) → digit 0 i ≡ false
no_bit i = let e : (0 / 2 ^ i) % 2 ≡ 0 = omega (arith, pow_pos i) in rw e refl

digit_at : (rows : List ThreadRow) (i : ℕ) (row : ThreadRow) → slice_get rows i ≡ Some row → digit (ended_bits rows) i ≡ is_over row.state
unfolding ended_bits
digit_at [] i row e = absurd (let k : None ≡ Some row = e in cc)
digit_at (other ∷ rows) zero row e = let s : other ≡ row = cc in first_bit (is_over other.state) (ended_bits rows) ∙ ap (λ (r : ThreadRow). is_over r.state) s
digit_at (other ∷ rows) (suc i) row e = next_bit (is_over other.state) (ended_bits rows) i ∙ digit_at rows i row e

digit_past : (rows : List ThreadRow) (i : ℕ) → slice_get rows i ≡ None → digit (ended_bits rows) i ≡ false
unfolding ended_bits
digit_past [] i e = no_bit i
digit_past (other ∷ rows) zero e = absurd (let k : Some other ≡ None = e in cc)
digit_past (other ∷ rows) (suc i) e = next_bit (is_over other.state) (ended_bits rows) i ∙ digit_past rows i e

with_true : (a b : Bool) → a ≡ true → (a && b) ≡ b
with_true true b e = refl
with_true false b e = absurd (let k : false ≡ true = e in cc)

with_false : (a b : Bool) → b ≡ false → (a && b) ≡ false
with_false true b e = e
with_false false b e = refl

pub bit_at : (rows : List ThreadRow) (i : ℕ) (row : ThreadRow) → slice_get rows i ≡ Some row → length rows ≤ 64 → has_bit (ended_bits rows) i ≡ is_over row.state
unfolding has_bit
bit_at rows i row e h =
    let w : i < length rows = slice_get_within rows i row e in
    let below : nat_lt i 64 ≡ true = grind (arith, nat_tests) in
    with_true (nat_lt i 64) (digit (ended_bits rows) i) below ∙ digit_at rows i row e

pub bit_past : (rows : List ThreadRow) (i : ℕ) → slice_get rows i ≡ None → has_bit (ended_bits rows) i ≡ false
unfolding has_bit
bit_past rows i e = with_false (nat_lt i 64) (digit (ended_bits rows) i) (digit_past rows i e)

-- ---- changes

pub bits_same : (rows : List ThreadRow) (i : ℕ) (row new : ThreadRow) → slice_get rows i ≡ Some row → is_over new.state ≡ is_over row.state → ended_bits (slice_set rows i new) ≡ ended_bits rows
unfolding ended_bits
bits_same [] i row new e f = refl
bits_same (other ∷ rows) zero row new e f = let s : row ≡ other = cc in ap (λ (b : Bool). bit_of b + 2 * ended_bits rows) (f ∙ ap (λ (r : ThreadRow). is_over r.state) s)
bits_same (other ∷ rows) (suc i) row new e f = ap (λ (n : ℕ). bit_of (is_over other.state) + 2 * n) (bits_same rows i row new e f)

pub bits_one_more : (rows : List ThreadRow) (i : ℕ) (row new : ThreadRow) → slice_get rows i ≡ Some row → is_over row.state ≡ false → is_over new.state ≡ true → ended_bits (slice_set rows i new) ≡ ended_bits rows + 2 ^ i
unfolding ended_bits
bits_one_more [] i row new e f g = absurd (let k : None ≡ Some row = e in cc)
bits_one_more (other ∷ rows) zero row new e f g =
    let s : other ≡ row = cc in
    let h : is_over other.state ≡ false = ap (λ (r : ThreadRow). is_over r.state) s ∙ f in
    rw (g, h) (omega arith)
bits_one_more (other ∷ rows) (suc i) row new e f g = omega (arith, bits_one_more rows i row new e f g, twice i)

pub bits_map : (f : ThreadRow → ThreadRow) → ((row : ThreadRow) → is_over (f row).state ≡ is_over row.state) → (rows : List ThreadRow) → ended_bits (map f rows) ≡ ended_bits rows
unfolding ended_bits
bits_map f same [] = refl
bits_map f same (row ∷ rows) = rw (same row, bits_map f same rows) refl

pub bits_behind : (rows : List ThreadRow) (row : ThreadRow) → is_over row.state ≡ false → ended_bits (rows ++ row ∷ []) ≡ ended_bits rows
unfolding ended_bits
bits_behind [] row e = rw e refl
bits_behind (other ∷ rows) row e = ap (λ (n : ℕ). bit_of (is_over other.state) + 2 * n) (bits_behind rows row e)
