-- What the code computes of the bits of numbers, against the integers that they stand for.
use Rattle.std.proofs.Common.{◌≡◌, ℕ, zero, suc, ◌+◌, ◌-◌, ◌*◌, ◌/◌, ◌%◌, ◌^◌, ◌<◌, ◌≤◌, ℤ, pos, negsuc, ◌+ℤ◌, ◌-ℤ◌, ◌*ℤ◌, neg_ℤ, FitsSigned, refl, sym, ap, ◌∙◌, subst, arith, bit_and, Bool, true, false, Ok}
use Rattle.std.specs.Prelude.{unsigned_abs, int_div, int_rem}
use Rattle.std.specs.Int.{Width, w8, w16, w32, w64, w128, cast_signed, cast_unsigned, int_wrap, int_wrapping_neg, int_wrapping_div}
use Rattle.std.specs.Ordering.{int_eq}
use Rattle.std.proofs.lemmas.Int.{ints, int_rem_euclid_is, quot-rem, int_wrap-mul_right, wrapping_mul-bits, wrapping_neg_is, SFits-int_wrap, to_z-of_z}
use Rattle.std.proofs.lemmas.Bool.Decides.{Decides-int_eq}
use Rattle.std.proofs.lemmas.Nat.{pow_pos, pow_below, and_mask}
use Rattle.std.proofs.Math.Nat.{mod-eq_of_lt, div-le_self}
use mir.Val.{bits, hbits}
use Rattle.mvm_arith.specs.Numbers.{low_bits, bits_of, remainder, unless_zero}

half_of : (w : Width) → 2 ^ bits w ≡ 2 ^ hbits w + 2 ^ hbits w
half_of w8 = refl
half_of w16 = refl
half_of w32 = refl
half_of w64 = refl
half_of w128 = refl

-- the low bits of z are those of its bits in more of them
pub low_of : (w : Width) (k j : ℕ) (z : ℤ) → FitsSigned w z → 2 ^ bits w ≡ j * 2 ^ k → low_bits k z ≡ cast_unsigned w z % 2 ^ k
low_of w k j (pos n) f e = refl
low_of w k j (negsuc n) f e =
    let below : negsuc n +ℤ pos (j * 2 ^ k) ≡ pos (2 ^ bits w - suc n) = omega (arith, ints, f.sfits, half_of w, pow_pos (hbits w)) in
    ap unsigned_abs (int_rem_euclid_is (negsuc n) (pos (2 ^ k)) (2 ^ k) j (2 ^ bits w - suc n) (pow_pos k) refl below)

unsigned_fits : (w : Width) (z : ℤ) → FitsSigned w z → cast_unsigned w z < 2 ^ bits w
unsigned_fits w (pos n) f = omega (arith, f.sfits, half_of w, pow_pos (hbits w))
unsigned_fits w (negsuc n) f = omega (arith, f.sfits, half_of w, pow_pos (hbits w))

pub bits_are : (w : Width) (z : ℤ) → FitsSigned w z → bits_of w z ≡ cast_unsigned w z
bits_are w z f = low_of w (bits w) 1 z f (omega arith) ∙ mod-eq_of_lt (unsigned_fits w z f)

-- a number is reduced by way of its bits, if it is not far too large
pub reduced_by_bits : (w : Width) (z : ℤ) → unsigned_abs z < 2 ^ bits w → cast_signed w (cast_unsigned w z) ≡ int_wrap w z
unfolding int_wrap
reduced_by_bits w (pos n) h = ap (cast_signed w) (sym (mod-eq_of_lt h))
reduced_by_bits w (negsuc n) h =
    let small : n < 2 ^ bits w = omega arith in
    let e : 2 ^ bits w - suc n ≡ 2 ^ bits w - 1 - n % 2 ^ bits w = omega (arith, mod-eq_of_lt small) in
    ap (cast_signed w) e

abs_neg : (n : ℕ) → unsigned_abs (neg_ℤ (pos n)) ≡ n
abs_neg zero = refl
abs_neg (suc n) = refl

abs_div : (a b : ℤ) → unsigned_abs (int_div a b) ≤ unsigned_abs a
abs_div (pos a) (pos b) = div-le_self a b
abs_div (pos a) (negsuc b) = omega (arith, abs_neg (a / suc b), div-le_self a (suc b))
abs_div (negsuc a) (pos b) = omega (arith, abs_neg (suc a / b), div-le_self (suc a) b)
abs_div (negsuc a) (negsuc b) = div-le_self (suc a) (suc b)

abs_fits : (w : Width) (z : ℤ) → FitsSigned w z → unsigned_abs z < 2 ^ bits w
abs_fits w (pos n) f = omega (arith, f.sfits, half_of w, pow_pos (hbits w))
abs_fits w (negsuc n) f = omega (arith, f.sfits, half_of w, pow_pos (hbits w))

pub quotient_is : (w : Width) (a b : ℤ) → FitsSigned w a → cast_signed w (cast_unsigned w (int_div a b)) ≡ int_wrap w (int_div a b)
quotient_is w a b f = reduced_by_bits w (int_div a b) (omega (arith, abs_div a b, abs_fits w a f))

difference : (a x r : ℤ) → x +ℤ r ≡ a → r ≡ a -ℤ x
difference a x r e = omega (arith, ints)

pub remainder_is : (a b : ℤ) → int_rem a b ≡ a -ℤ int_div a b *ℤ b
remainder_is a b = difference a (int_div a b *ℤ b) (int_rem a b) (quot-rem a b)

-- a left shift multiplies
pub left_is : (w : Width) (a : ℤ) (k : ℕ) → FitsSigned w a → k < bits w → cast_signed w (cast_unsigned w a * 2 ^ k % 2 ^ bits w) ≡ int_wrap w (a *ℤ pos (2 ^ k))
unfolding int_wrap
left_is w a k f h =
    let small = pow_below k (bits w) h in
    let power : cast_signed w (2 ^ k) ≡ int_wrap w (pos (2 ^ k)) = ap (cast_signed w) (sym (mod-eq_of_lt small)) in
    wrapping_mul-bits w (cast_unsigned w a) (2 ^ k) (unsigned_fits w a f) small
    ∙ ap (λ x. int_wrap w (x *ℤ cast_signed w (2 ^ k))) (to_z-of_z w a f)
    ∙ ap (λ x. int_wrap w (a *ℤ x)) power
    ∙ int_wrap-mul_right w a (pos (2 ^ k))

-- a number that fits a narrower width is reduced to the same from its bits in a wider one
pub narrow_is : (w v : Width) (j : ℕ) (z : ℤ) → FitsSigned w z → 2 ^ bits w ≡ j * 2 ^ bits v → cast_signed v (cast_unsigned w z % 2 ^ bits v) ≡ int_wrap v z
unfolding int_wrap
narrow_is w v j z f e = ap (cast_signed v) (sym (low_of w (bits v) j z f e))

-- ---- what the calls of std answer

-- a result that is reduced is kept as it is
pub kept : (w : Width) (r z : ℤ) → r ≡ int_wrap w z → cast_signed w (cast_unsigned w r) ≡ int_wrap w z
kept w r z e = to_z-of_z w r (subst (FitsSigned w) (sym e) (SFits-int_wrap w z)) ∙ e

pub negated : (w : Width) (a r : ℤ) → FitsSigned w a → r ≡ int_wrapping_neg w (cast_signed w (cast_unsigned w a)) → cast_signed w (cast_unsigned w r) ≡ int_wrap w (neg_ℤ a)
negated w a r f e = kept w r (neg_ℤ a) (e ∙ ap (int_wrapping_neg w) (to_z-of_z w a f) ∙ wrapping_neg_is w a f)

module _ (w : Width) (a b r : ℤ) (f : FitsSigned w a) (g : FitsSigned w b) where
  pub divided : r ≡ int_wrapping_div w (cast_signed w (cast_unsigned w a)) (cast_signed w (cast_unsigned w b)) → cast_signed w (cast_unsigned w r) ≡ int_wrap w (int_div a b)
  divided e = kept w r (int_div a b) (e ∙ (λ i. int_wrapping_div w (to_z-of_z w a f i) (to_z-of_z w b g i)) ∙ quotient_is w a b f)

  pub left_over : FitsSigned w r → r ≡ int_rem (cast_signed w (cast_unsigned w a)) (cast_signed w (cast_unsigned w b)) → cast_signed w (cast_unsigned w r) ≡ remainder a b
  left_over h e = to_z-of_z w r h ∙ e ∙ (λ i. int_rem (to_z-of_z w a f i) (to_z-of_z w b g i)) ∙ remainder_is a b

not_zero : (w : Width) (b : ℤ) → ¬ (cast_unsigned w b ≡ 0) → int_eq b (pos 0) ≡ false
not_zero w b h = by (int_eq b (pos 0)) refl
  where
    by : (t : Bool) → int_eq b (pos 0) ≡ t → int_eq b (pos 0) ≡ false
    by true e = absurd (h (ap (cast_unsigned w) ((Decides-int_eq b (pos 0)).0 e)))
    by false e = e

pub no_zero : (w : Width) (b v r : ℤ) → ¬ (cast_unsigned w b ≡ 0) → r ≡ v → Ok r ≡ unless_zero b v
no_zero w b v r h e = rw (not_zero w b h) (ap Ok e)

pub narrowed : (w v : Width) (j n : ℕ) (z r : ℤ) → FitsSigned w z → 2 ^ bits w ≡ j * 2 ^ bits v → n ≡ cast_unsigned w (cast_signed w (cast_unsigned w z)) → r ≡ cast_signed v (bit_and n (2 ^ bits v - 1)) → cast_signed v (cast_unsigned v r) ≡ int_wrap v z
narrowed w v j n z r f e is answer =
    let n_is : n ≡ cast_unsigned w z = is ∙ ap (cast_unsigned w) (to_z-of_z w z f) in
    let low : bit_and n (2 ^ bits v - 1) ≡ cast_unsigned w z % 2 ^ bits v = and_mask n (bits v) ∙ ap (λ m. m % 2 ^ bits v) n_is in
    kept v r z (answer ∙ ap (cast_signed v) low ∙ narrow_is w v j z f e)

pub shortened : (n : ℕ) (z r : ℤ) → FitsSigned w32 z → n ≡ low_bits 16 (cast_signed w32 (cast_unsigned w32 z)) → r ≡ cast_signed w16 n → cast_signed w16 (cast_unsigned w16 r) ≡ int_wrap w16 z
unfolding int_wrap
shortened n z r f is answer = kept w16 r z (answer ∙ ap (cast_signed w16) (is ∙ ap (low_bits 16) (to_z-of_z w32 z f)))
