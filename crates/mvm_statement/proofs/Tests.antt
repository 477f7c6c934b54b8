-- Tests that are put together.
use Rattle.std.proofs.Common.{◌≡◌, ℕ, Bool, true, false, not, List, [], ◌∷◌, ◌++◌, refl, ap}
use Rattle.std.specs.Prelude.{◌&&◌, ◌||◌, ◌==◌}
use Rattle.std.proofs.lemmas.Bool.{eqb-true}

pub both : (a b : Bool) → a && b ≡ true → (a ≡ true) × (b ≡ true)
both true b h = (refl, h)
both false b h = absurd cc

pub and_again : (a b : Bool) → a ≡ true → b ≡ true → (a && b) ≡ true
and_again a b p q = rw (p, q) refl

pub is_not : (b : Bool) → not b ≡ true → b ≡ false
is_not true h = absurd cc
is_not false h = refl

pub neither : (a b : Bool) → a || b ≡ false → (a ≡ false) × (b ≡ false)
neither true b h = absurd cc
neither false b h = (refl, h)

pub not_eq : (c k : ℕ) → (c ≡ k → ⊥) → (c == k) ≡ false
not_eq c k h = by (c == k) refl
  where
    by : (b : Bool) → (c == k) ≡ b → (c == k) ≡ false
    by true t = absurd (h (eqb-true c k t))
    by false t = t

pub append_none : {A : Type 0} (xs : List A) → xs ++ [] ≡ xs
append_none [] = refl
append_none (x ∷ xs) = ap (λ ys. x ∷ ys) (append_none xs)
