-- One or two bytes in the middle of a method's code.
use Rattle.std.proofs.Common.{◌≡◌, ℕ, zero, suc, ◌+◌, ◌*◌, ◌<◌, ◌≤◌, List, [], ◌∷◌, length, drop, slice_get, Bool, false, Option, Some, refl, ap, arith}
use Rattle.std.specs.Prelude.{nat_lt, Ok}
use Rattle.std.proofs.lemmas.Bool.Decides.{nat_tests}
use Rattle.mvm_base.specs.Endian.{big_number}
use Rattle.mvm_base.specs.Place.{Place, run, big}
use Rattle.mvm_local.specs.Bytes.{Stands}

drop_at : (xs : List ℕ) (i x : ℕ) → slice_get xs i ≡ Some x → drop i xs ≡ x ∷ drop (i + 1) xs
drop_at [] i x e = absurd cc
drop_at (y ∷ ys) zero x e = (let k : y ≡ x = cc in ap (λ z. z ∷ ys) k)
drop_at (y ∷ ys) (suc i) x e = (let k : suc i + 1 ≡ suc (i + 1) = omega arith in rw k (drop_at ys i x e))

inside : (xs : List ℕ) (i x : ℕ) → slice_get xs i ≡ Some x → i + 1 ≤ length xs
inside [] i x e = absurd cc
inside (y ∷ ys) zero x e = grind arith
inside (y ∷ ys) (suc i) x e = (let h : i + 1 ≤ length ys = inside ys i x e in grind (arith, h))

one_value : (x : ℕ) → big_number 1 (x ∷ []) ≡ x
one_value x = omega arith

two_value : (x y : ℕ) → big_number 2 (x ∷ y ∷ []) ≡ x * 256 + y
two_value x y = omega arith

run_one : (at x : ℕ) (rest : List ℕ) → big 1 (record { at = at; rest = x ∷ rest }) ≡ Ok (x, record { at = at + 1; rest = rest })
unfolding run
run_one at x rest = (let e : nat_lt (length (x ∷ rest)) 1 ≡ false = grind (arith, nat_tests) in rw (e, one_value x) refl)

run_two : (at x y : ℕ) (rest : List ℕ) → big 2 (record { at = at; rest = x ∷ y ∷ rest }) ≡ Ok (x * 256 + y, record { at = at + 2; rest = rest })
unfolding run
run_two at x y rest = (let e : nat_lt (length (x ∷ y ∷ rest)) 2 ≡ false = grind (arith, nat_tests) in rw (e, two_value x y) refl)

pub one_byte : (code : List ℕ) (at x : ℕ) → slice_get code at ≡ Some x → Stands 1 at code x
one_byte code at x e = record { read = rw (drop_at code at x e) (run_one at x (drop (at + 1) code)); within = inside code at x e }

pub two_bytes : (code : List ℕ) (at x y : ℕ) → slice_get code at ≡ Some x → slice_get code (at + 1) ≡ Some y → Stands 2 at code (x * 256 + y)
two_bytes code at x y e f =
    let k : at + 1 + 1 ≡ at + 2 = omega arith in
    let second : drop (at + 1) code ≡ y ∷ drop (at + 2) code = rw (← k) (drop_at code (at + 1) y f) in
    record {
      read = rw (drop_at code at x e, second) (run_two at x y (drop (at + 2) code));
      within = omega (arith, inside code (at + 1) y f);
    }
