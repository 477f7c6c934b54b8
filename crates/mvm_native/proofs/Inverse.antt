-- The decimal text of a number, read again.
use Rattle.std.proofs.Common.{◌≡◌, ℕ, suc, ◌+◌, ◌-◌, ◌*◌, ◌/◌, ◌%◌, ◌<◌, ◌≤◌, ◌^◌, List, [], ◌∷◌, ◌++◌, length, Bool, true, false, cond, Some, None, refl, ap, ◌∙◌, arith}
use Rattle.std.specs.Prelude.{ℤ, pos, negsuc, decimal}
use Rattle.std.specs.Fmt.{signed_decimal}
use Rattle.std.proofs.lemmas.Bool.{lt-ltb, ltb-true, ne_eqb}
use Rattle.std.proofs.lemmas.Fmt.{decimal_by_steps}
use Rattle.std.proofs.lemmas.List.{length-append}
use Rattle.mvm_native.specs.Integers.{digits, if_int, is_digit, is_int, negative, numeral, parsed, positive, PLUS}
use Rattle.mvm_native.proofs.Capped.{digit, numeral_some}

no_some : (w : ℕ) → None ≡ Some w → ⊥
no_some w e = absurd cc

same_some : (v w : ℕ) → Some v ≡ Some w → v ≡ w
same_some v w e = cc

-- one digit more
digits_push : (v w d : ℕ) (ds : List ℕ) → digits v ds ≡ Some w → is_digit d ≡ true → digits v (ds ++ d ∷ []) ≡ Some (w * 10 + (d - 48))
digits_push v w d [] e h = rw (h, same_some v w e) refl
digits_push v w d (x ∷ ds) e h =
    let P : Bool → Type 0 = λ b. cond b (digits (v * 10 + (x - 48)) ds) None ≡ Some w → cond b (digits (v * 10 + (x - 48)) (ds ++ d ∷ [])) None ≡ Some (w * 10 + (d - 48)) in
    elim (is_digit x) as P [ true ↦ λ k. digits_push (v * 10 + (x - 48)) w d ds k h | false ↦ λ k. absurd (no_some w k) ] e

record Read (n : ℕ) (ds : List ℕ) : Type 0 where
  comes_to : digits 0 ds ≡ Some n
  is_some : 0 < length ds

read_one : (n : ℕ) → n < 10 → Read n ((48 + n) ∷ [])
read_one n h =
    let e : 0 * 10 + (48 + n - 48) ≡ n = omega arith in
    record { comes_to = rw (digit (48 + n) (omega arith) (omega (arith, h))) (ap (λ (k : ℕ). Some k) e); is_some = omega arith }

read_more : (n : ℕ) (ds : List ℕ) → 10 ≤ n → Read (n / 10) ds → Read n (ds ++ (48 + n % 10) ∷ [])
read_more n ds h r =
    let e : n / 10 * 10 + (48 + n % 10 - 48) ≡ n = omega arith in
    record {
      comes_to = digits_push 0 (n / 10) (48 + n % 10) ds r.comes_to (digit (48 + n % 10) (omega arith) (omega arith)) ∙ ap (λ (k : ℕ). Some k) e;
      is_some = grind (arith, length-append ds ((48 + n % 10) ∷ []));
    }

decimal_read : (n : ℕ) → n < 2 ^ 64 → Read n (decimal n)
decimal_read n h = decimal_by_steps (λ (k : ℕ) (ds : List ℕ). Read k ds) read_one read_more n h

-- ---- with a sign

first_digit : (d n : ℕ) (ds : List ℕ) → digits 0 (d ∷ ds) ≡ Some n → is_digit d ≡ true
first_digit d n ds =
    let P : Bool → Type 0 = λ b. cond b (digits (0 * 10 + (d - 48)) ds) None ≡ Some n → b ≡ true in
    elim (is_digit d) as P [ true ↦ λ k. refl | false ↦ λ k. absurd (no_some n k) ]

digit_low : (d : ℕ) → is_digit d ≡ true → 48 ≤ d
digit_low d h = grind arith

parsed_plain : (us : List ℕ) (n : ℕ) → Read n us → parsed us ≡ positive (Some n)
unfolding parsed
parsed_plain [] n r = absurd (omega (arith, r.is_some))
parsed_plain (d ∷ ds) n r =
    let low = digit_low d (first_digit d n ds r.comes_to) in
    rw (ne_eqb d 43 (λ e. omega (arith, low, e)), ne_eqb d 45 (λ e. omega (arith, low, e))) (ap positive r.comes_to)

numeral_is : (us : List ℕ) (n : ℕ) → Read n us → numeral us ≡ Some n
numeral_is us n r = numeral_some us 0 r.is_some ∙ r.comes_to

int_is : (z : ℤ) → is_int z ≡ true → if_int z ≡ Some z
int_is z h = rw h refl

pub parsed_back : (z : ℤ) → is_int z ≡ true → parsed (signed_decimal z) ≡ Some z
unfolding parsed
parsed_back (pos n) h = let few = ltb-true n (2 ^ 31) h in parsed_plain (decimal n) n (decimal_read n (omega (arith, few))) ∙ int_is (pos n) h
parsed_back (negsuc n) h =
    let few = ltb-true n (2 ^ 31) h in
    ap negative (numeral_is (decimal (suc n)) (suc n) (decimal_read (suc n) (omega (arith, few)))) ∙ int_is (negsuc n) h

pub parsed_plus : (n : ℕ) → n < 2 ^ 31 → parsed (PLUS ∷ decimal n) ≡ Some (pos n)
unfolding parsed
parsed_plus n h = ap positive (numeral_is (decimal n) n (decimal_read n (omega (arith, h)))) ∙ int_is (pos n) (lt-ltb n (2 ^ 31) h)
