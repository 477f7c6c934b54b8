-- What the definitions of specs/Numbers.antt come to.
use Rattle.std.proofs.Common.{◌≡◌, ◌≢◌, ℕ, zero, suc, ◌*◌, ◌/◌, ◌^◌, ◌<◌, ◌≤◌, ℤ, pos, negsuc, ◌+ℤ◌, ◌*ℤ◌, ◌≤ℤ◌, ◌<ℤ◌, FitsSigned, ◌↔◌, refl, sym, ap, ◌∙◌, subst, arith}
use Rattle.std.specs.Prelude.{unsigned_abs, int_div, int_rem}
use Rattle.std.specs.Int.{Width, cast_signed, int_wrap}
use Rattle.std.proofs.lemmas.Int.{ints, quot-rem, rem_below, of_z-to_z, SFits-int_wrap, to_z-of_z}
use Rattle.std.proofs.lemmas.Nat.{pow_pos, div-add-mod'}
use Rattle.std.proofs.lemmas.Nat.Bits.{bit_at_and, bit_at_or, bit_at_xor}
use Rattle.std.proofs.Math.Nat.{mod-lt, mod-eq_of_lt}
use mir.Val.{bits}
use Rattle.mvm_arith.specs.Numbers.{low_bits, bits_of, with_bits, reduced, quotient, remainder, floor}
use Rattle.mvm_arith.specs.Meaning.{IsReduced, IsDivided, IsFloor, IsBitwise}
use Rattle.mvm_arith.proofs.Reduced.{bits_are, remainder_is}

low_lt : (k : ℕ) (z : ℤ) → low_bits k z < 2 ^ k
low_lt k (pos n) = mod-lt n (pow_pos k)
low_lt k (negsuc n) = omega (arith, pow_pos k)

signed_fits : (w : Width) (n : ℕ) → n < 2 ^ bits w → FitsSigned w (cast_signed w n)
unfolding int_wrap
signed_fits w n h = let e : int_wrap w (pos n) ≡ cast_signed w n = ap (cast_signed w) (mod-eq_of_lt h) in subst (FitsSigned w) e (SFits-int_wrap w (pos n))

pub row_law : (w : Width) (n : ℕ) → n < 2 ^ bits w → bits_of w (with_bits w n) ≡ n
row_law w n h = bits_are w (cast_signed w n) (signed_fits w n h) ∙ of_z-to_z w n h

reduced_is : (w : Width) (z : ℤ) → IsReduced w z (reduced w z)
unfolding int_wrap
reduced_is w z = record { fits = SFits-int_wrap w z; bits = row_law w (low_bits (bits w) z) (low_lt (bits w) z) }

is_reduced : (w : Width) (z r : ℤ) → IsReduced w z r → r ≡ reduced w z
unfolding int_wrap
is_reduced w z r h = sym (to_z-of_z w r h.fits) ∙ ap (cast_signed w) (sym (bits_are w r h.fits) ∙ h.bits)

pub reduced_law : (w : Width) (z r : ℤ) → (r ≡ reduced w z) ↔ IsReduced w z r
reduced_law w z r = (λ e. subst (IsReduced w z) (sym e) (reduced_is w z), is_reduced w z r)

not_nothing : (d : ℤ) → d ≢ pos 0 → 0 < unsigned_abs d
not_nothing (pos zero) h = absurd (h refl)
not_nothing (pos (suc n)) h = omega arith
not_nothing (negsuc n) h = omega arith

positive_rem : (n d : ℤ) → pos 0 ≤ℤ n → pos 0 ≤ℤ int_rem n d
positive_rem (pos a) d h = omega (arith, ints)
positive_rem (negsuc a) d h = absurd (omega (arith, ints, h))

negative_rem : (n d : ℤ) → 0 < unsigned_abs d → n ≤ℤ pos 0 → int_rem n d ≤ℤ pos 0
negative_rem (pos zero) d some h = omega (arith, ints, mod-eq_of_lt some)
negative_rem (pos (suc a)) d some h = absurd (omega (arith, ints, h))
negative_rem (negsuc a) d some h = omega (arith, ints)

pub divided_law : (n d : ℤ) → d ≢ pos 0 → IsDivided n d (quotient n d) (remainder n d)
divided_law n d h =
    let some = not_nothing d h in
    let r = remainder_is n d in
    record {
      sum = ap (λ x. int_div n d *ℤ d +ℤ x) (sym r) ∙ quot-rem n d;
      small = subst (λ x. unsigned_abs x < unsigned_abs d) r (rem_below n d some);
      positive = λ p. subst (λ x. pos 0 ≤ℤ x) r (positive_rem n d p);
      negative = λ p. subst (λ x. x ≤ℤ pos 0) r (negative_rem n d some p);
    }

greatest_below : (q m a : ℕ) → q * m ≤ a → negsuc a <ℤ ((negsuc q +ℤ pos 1) *ℤ pos m)
greatest_below zero m a h = omega (arith, ints)
greatest_below (suc q) m a h =
    let up_one : negsuc (suc q) +ℤ pos 1 ≡ negsuc q = omega (arith, ints) in
    rw up_one (omega (arith, ints, h))

pub floor_law : (z : ℤ) (m : ℕ) → 0 < m → IsFloor z m (floor z m)
floor_law (pos a) m h = record { below = omega (arith, ints, div-add-mod' a m); greatest = omega (arith, ints, div-add-mod' a m, mod-lt a h) }
floor_law (negsuc a) m h = record { below = omega (arith, ints, div-add-mod' a m, mod-lt a h); greatest = greatest_below (a / m) m a (omega (arith, div-add-mod' a m)) }

pub bitwise_law : (m n i : ℕ) → IsBitwise m n i
bitwise_law m n i = record { conjunction = bit_at_and m n i; disjunction = bit_at_or m n i; exclusive = bit_at_xor m n i }
