-- A numeral above 2^31 is in no range.
use Rattle.std.proofs.Common.{◌≡◌, ℕ, zero, suc, ◌+◌, ◌-◌, ◌*◌, ◌<◌, ◌≤◌, length, get_or, drop, List, [], ◌∷◌, Bool, true, false, cond, Option, Some, None, refl, sym, ap, ◌∙◌, arith}
use Rattle.std.specs.Prelude.{nat_lt, nat_le}
use Rattle.std.proofs.lemmas.List.{drop_more}
use Rattle.mvm_native.specs.Integers.{digits, is_digit, numeral, capped, positive, negative}

above : (n : ℕ) → 2147483648 < n → nat_le n 2147483648 ≡ false
above n h = grind arith

pub too_big : (n : ℕ) (ds : List ℕ) → 2147483648 < n → capped (digits n ds) ≡ None
too_big n [] h = rw (above n h) refl
too_big n (d ∷ ds) h =
    let P : Bool → Type 0 = λ b. capped (cond b (digits (n * 10 + (d - 48)) ds) None) ≡ None in
    elim (is_digit d) as P [ true ↦ too_big (n * 10 + (d - 48)) ds (omega (arith, h)) | false ↦ refl ]

pub positive_capped : (o : Option ℕ) → positive (capped o) ≡ positive o
positive_capped None = refl
positive_capped (Some n) =
    let P : Bool → Type 0 = λ b. nat_le n 2147483648 ≡ b → positive (cond b (Some n) None) ≡ positive (Some n) in
    elim (nat_le n 2147483648) as P [
      | true ↦ λ e. refl
      | false ↦ λ e. let h : nat_lt n 2147483648 ≡ false = grind arith in rw h refl
    ] refl

pub negative_capped : (o : Option ℕ) → negative (capped o) ≡ negative o
negative_capped None = refl
negative_capped (Some zero) = refl
negative_capped (Some (suc n)) =
    let P : Bool → Type 0 = λ b. nat_le (suc n) 2147483648 ≡ b → negative (cond b (Some (suc n)) None) ≡ negative (Some (suc n)) in
    elim (nat_le (suc n) 2147483648) as P [
      | true ↦ λ e. refl
      | false ↦ λ e. let h : nat_lt n 2147483648 ≡ false = grind arith in rw h refl
    ] refl

pub numeral_some : (us : List ℕ) (i : ℕ) → i < length us → numeral us ≡ digits 0 us
numeral_some [] i h = absurd (omega (arith, h))
numeral_some (u ∷ us) i h = refl

pub digit : (d : ℕ) → 48 ≤ d → d < 58 → is_digit d ≡ true
digit d h k = grind arith

digits_next : (us : List ℕ) (i v : ℕ) → i < length us → 48 ≤ get_or us i 0 → get_or us i 0 < 58 → digits v (drop i us) ≡ digits (v * 10 + (get_or us i 0 - 48)) (drop (i + 1) us)
digits_next us i v h low high = rw (drop_more us i 0 h, digit (get_or us i 0) low high) refl

-- behind these digits the value is too big
pub passed : (us : List ℕ) (i v d : ℕ) → i < length us → 48 ≤ get_or us i 0 → get_or us i 0 < 58 → d ≡ get_or us i 0 - 48 → 2147483648 < v * 10 + d
    → capped (digits v (drop i us)) ≡ capped (digits 0 us) → None ≡ capped (numeral us)
passed us i v d h low high e big inv =
    sym (ap capped (numeral_some us i h) ∙ sym inv ∙ ap capped (digits_next us i v h low high) ∙ too_big (v * 10 + (get_or us i 0 - 48)) (drop (i + 1) us) (omega (arith, big, e)))
