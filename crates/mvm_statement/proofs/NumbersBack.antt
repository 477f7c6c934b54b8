-- Numbers, read again as they are written.
use Rattle.std.proofs.Common.{◌≡◌, ℕ, suc, ◌-◌, ◌<◌, ◌≤◌, ◌^◌, min, Bool, true, false, cond, List, [], ◌∷◌, length, Some, refl, ap, ◌∙◌, arith}
use Rattle.std.specs.Prelude.{nat_lt, ℤ, pos, negsuc, decimal}
use Rattle.std.specs.Fmt.{signed_decimal}
use Rattle.std.specs.Char.{digit_value}
use Rattle.std.specs.List.{list_all}
use Rattle.std.specs.Str.Parse.{digits_value, AllDigits}
use Rattle.std.proofs.lemmas.Bool.{ltb-false, lt-ltb, ltb-true}
use Rattle.std.proofs.lemmas.Fmt.{decimal_is_IsNumeral}
use Rattle.mvm_statement.specs.Tokens.{is_letter, is_word}
use Rattle.mvm_statement.specs.Numbers.{digits_in, numeral, is_short, too_large}
use Rattle.mvm_statement.specs.Operands.{begins_with}
use Rattle.mvm_statement.proofs.Tests.{both, not_eq}

-- ---- digits

record IsDigit (c : ℕ) : Type 0 where
  low : 48 ≤ c
  high : c < 58

digit_is : (c : ℕ) → digit_value c < 10 → IsDigit c
digit_is c h = by (nat_lt c 48) refl (nat_lt c 58) refl (nat_lt c 65) refl (nat_lt c 91) refl (nat_lt c 97) refl (nat_lt c 123) refl h
  where
    by : (p : Bool) → nat_lt c 48 ≡ p → (q : Bool) → nat_lt c 58 ≡ q → (r : Bool) → nat_lt c 65 ≡ r → (s : Bool) → nat_lt c 91 ≡ s → (t : Bool) → nat_lt c 97 ≡ t → (u : Bool) → nat_lt c 123 ≡ u
        → cond p 36 (cond q (c - 48) (cond r 36 (cond s (c - 55) (cond t 36 (cond u (c - 87) 36))))) < 10 → IsDigit c
    by true p q b r d s e t f u g k = absurd (omega arith)
    by false p true b r d s e t f u g k = record { low = ltb-false _ _ p; high = ltb-true _ _ b }
    by false p false b true d s e t f u g k = absurd (omega arith)
    by false p false b false d true e t f u g k = let l = ltb-false _ _ d in absurd (omega arith)
    by false p false b false d false e true f u g k = absurd (omega arith)
    by false p false b false d false e false f true g k = let l = ltb-false _ _ f in absurd (omega arith)
    by false p false b false d false e false f false g k = absurd (omega arith)

abbrev is_digit : ℕ → Bool
is_digit c = nat_lt (digit_value c) 10

digits_all : (ds : List ℕ) → AllDigits 10 ds → list_all is_digit ds ≡ true
digits_all [] h = refl
digits_all (d ∷ ds) h = rw (lt-ltb _ _ h.0) (digits_all ds h.1)

digits_letters : (ds : List ℕ) → list_all is_digit ds ≡ true → list_all is_letter ds ≡ true
digits_letters [] h = refl
digits_letters (d ∷ ds) h =
    let a = both _ _ h in
    let k = digit_is d (ltb-true _ _ a.0) in
    rw (lt-ltb 32 d (omega (arith, k.low)), lt-ltb d 127 (omega (arith, k.high))) (digits_letters ds a.1)

digits_word : (ds : List ℕ) → 0 < length ds → list_all is_digit ds ≡ true → is_word ds ≡ true
digits_word [] l h = absurd (omega arith)
digits_word (d ∷ ds) l h =
    let k = digit_is d (ltb-true _ _ (both _ _ h).0) in
    rw (not_eq d 34 (λ e. omega (arith, k.low)), not_eq d 59 (λ e. omega (arith, k.high))) (digits_letters (d ∷ ds) h)

digits_read : (ds : List ℕ) → 0 < length ds → list_all is_digit ds ≡ true → digits_in 10 ds ≡ Some (min (digits_value 10 ds) too_large)
digits_read [] l h = absurd (omega arith)
digits_read (d ∷ ds) l h = rw h refl

kept : (n : ℕ) → n < 2 ^ 64 → min n too_large ≡ n
kept n h = omega arith

-- ---- numbers

record Decimal (n : ℕ) : Type 0 where
  is_some : 0 < length (decimal n)
  digits : list_all is_digit (decimal n) ≡ true
  comes_to : digits_in 10 (decimal n) ≡ Some n

decimal_is : (n : ℕ) → n < 2 ^ 64 → Decimal n
decimal_is n h =
    let a = decimal_is_IsNumeral n h in
    let d = digits_all _ a.0.1 in
    record { is_some = a.0.0; digits = d; comes_to = digits_read _ a.0.0 d ∙ ap (λ (m : ℕ). Some (min m too_large)) a.1 ∙ ap (λ (m : ℕ). Some m) (kept n h) }

pub numeral_back : (z : ℤ) → is_short z ≡ true → numeral (signed_decimal z) ≡ Some z
unfolding numeral
numeral_back (pos n) h = rw ((decimal_is n (ltb-true _ _ h)).comes_to) refl
numeral_back (negsuc n) h = rw ((decimal_is (suc n) (ltb-true _ _ h)).comes_to) refl

pub number_letters : (z : ℤ) → is_short z ≡ true → list_all is_letter (signed_decimal z) ≡ true
number_letters (pos n) h = digits_letters (decimal n) ((decimal_is n (ltb-true _ _ h)).digits)
number_letters (negsuc n) h = digits_letters (decimal (suc n)) ((decimal_is (suc n) (ltb-true _ _ h)).digits)

pub number_word : (z : ℤ) → is_short z ≡ true → is_word (signed_decimal z) ≡ true
number_word (pos n) h = let d = decimal_is n (ltb-true _ _ h) in digits_word (decimal n) d.is_some d.digits
number_word (negsuc n) h = number_letters (negsuc n) h

-- a number does not begin with a mark
digits_unmarked : (ds : List ℕ) → list_all is_digit ds ≡ true → begins_with 35 ds ≡ false
digits_unmarked [] h = refl
digits_unmarked (d ∷ ds) h =
    let k = digit_is d (ltb-true _ _ (both _ _ h).0) in
    not_eq d 35 (λ e. omega (arith, k.low))

pub number_unmarked : (z : ℤ) → is_short z ≡ true → begins_with 35 (signed_decimal z) ≡ false
number_unmarked (pos n) h = digits_unmarked (decimal n) ((decimal_is n (ltb-true _ _ h)).digits)
number_unmarked (negsuc n) h = refl
