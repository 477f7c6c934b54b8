-- A number is read digit by digit.
use Rattle.std.proofs.Common.{◌≡◌, ℕ, ◌+◌, ◌*◌, ◌<◌, ◌≤◌, min, Bool, true, false, List, [], ◌∷◌, length, take, drop, get_or, Some, None, refl, sym, ap, ◌∙◌, inl, inr, arith, add-one, drop-cons}
use Rattle.std.specs.Prelude.{nat_lt}
use Rattle.std.specs.Char.{digit_value}
use Rattle.std.specs.List.{list_all}
use Rattle.std.specs.Str.Parse.{digits_value}
use Rattle.std.proofs.lemmas.Bool.{cases_lt, lt-ltb, le-ltb}
use Rattle.std.proofs.Math.Nat.{mul-le-mul_left}
use Rattle.std.proofs.lemmas.Int.Digits.{digits_value_more}
use Rattle.mvm_statement.specs.Numbers.{digits_in, too_large}

-- a unit is a digit
abbrev pub is_digit_in : ℕ → ℕ → Bool
is_digit_in radix unit = nat_lt (digit_value unit) radix

-- what is left decides whether all units are digits
abbrev pub all_digits : ℕ → List ℕ → Bool
all_digits radix ds = list_all (is_digit_in radix) ds

-- one more digit, where the number so far may have been too large
pub clipped : (n radix digit : ℕ) → 1 ≤ radix → min (min n too_large * radix + digit) too_large ≡ min (n * radix + digit) too_large
clipped n radix digit h = elim (cases_lt n too_large) [
  | inl small ↦ (let e : min n too_large ≡ n = omega arith in rw e refl)
  | inr large ↦ (
      let e : min n too_large ≡ too_large = omega arith in
      let more : n * 1 ≤ n * radix = mul-le-mul_left n h in
      let a : too_large ≤ too_large * radix + digit = omega arith in
      let b : too_large ≤ n * radix + digit = omega arith in
      let c : min (too_large * radix + digit) too_large ≡ too_large = omega arith in
      let d : min (n * radix + digit) too_large ≡ too_large = omega arith in
      rw (e, c, d) refl)
]

pub value_more : (radix : ℕ) (ds : List ℕ) (i value : ℕ) → 1 ≤ radix → i < length ds → value ≡ min (digits_value radix (take i ds)) too_large
    → min (value * radix + digit_value (get_or ds i 0)) too_large ≡ min (digits_value radix (take (i + 1) ds)) too_large
value_more radix ds i value h l e =
    ap (λ (v : ℕ). min (v * radix + digit_value (get_or ds i 0)) too_large) e
    ∙ clipped (digits_value radix (take i ds)) radix (digit_value (get_or ds i 0)) h
    ∙ ap (λ (v : ℕ). min v too_large) (sym (digits_value_more radix ds i l))

pub digit_here : (radix : ℕ) (ds : List ℕ) (i : ℕ) → i < length ds → digit_value (get_or ds i 0) < radix → all_digits radix (drop i ds) ≡ all_digits radix (drop (i + 1) ds)
digit_here radix ds i l h = rw (drop-cons ds i 0 l, lt-ltb (digit_value (get_or ds i 0)) radix h, add-one) refl

pub no_digit_here : (radix : ℕ) (ds : List ℕ) (i : ℕ) → i < length ds → radix ≤ digit_value (get_or ds i 0) → all_digits radix (drop i ds) ≡ false
no_digit_here radix ds i l h = rw (drop-cons ds i 0 l, le-ltb (digit_value (get_or ds i 0)) radix h) refl

pub digits_none : (radix : ℕ) (ds : List ℕ) → all_digits radix ds ≡ false → digits_in radix ds ≡ None
digits_none radix [] h = refl
digits_none radix (d ∷ ds) h = rw h refl

pub digits_some : (radix : ℕ) (ds : List ℕ) → 0 < length ds → all_digits radix ds ≡ true → digits_in radix ds ≡ Some (min (digits_value radix ds) too_large)
digits_some radix [] l h = absurd (omega arith)
digits_some radix (d ∷ ds) l h = rw h refl
