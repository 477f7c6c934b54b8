-- The first region of a length, and the lengths without it.
use Rattle.std.proofs.Common.{◌≡◌, ℕ, zero, suc, ◌<◌, List, [], ◌∷◌, length, get_or, refl, ap, sym, ◌∙◌, arith}
use Rattle.std.specs.List.{remove, Contains}
use Rattle.std.proofs.lemmas.Bool.{eq-eqb, ne_eqb}
use Rattle.std.proofs.lemmas.List.{get_or-map, get_or_default}
use Rattle.mvm_region.specs.Words.{Words, without, lengths_of}

pub first_removed : (rs : List Words) (n i : ℕ) → i < length rs → get_or (lengths_of rs) i 0 ≡ n → ((k : ℕ) → k < i → get_or (lengths_of rs) k 0 ≡ n → ⊥)
    → lengths_of (remove rs i) ≡ without n (lengths_of rs)
first_removed [] n i h e f = absurd (omega (arith, h))
first_removed (r ∷ rs) n zero h e f = rw (eq-eqb (length r.words) n e) refl
first_removed (r ∷ rs) n (suc i) h e f =
    rw (ne_eqb (length r.words) n (f 0 (omega arith)))
    (ap (λ (ms : List ℕ). length r.words ∷ ms) (first_removed rs n i (omega (arith, h)) e (λ k l. f (suc k) (omega (arith, l)))))

pub none_removed : (xs : List ℕ) (n : ℕ) → ((k : ℕ) → k < length xs → get_or xs k 0 ≡ n → ⊥) → without n xs ≡ xs
none_removed [] n f = refl
none_removed (x ∷ xs) n f = rw (ne_eqb x n (f 0 (omega arith))) (ap (λ (ms : List ℕ). x ∷ ms) (none_removed xs n (λ k l. f (suc k) (omega (arith, l)))))

pub none_there : (xs : List ℕ) (n : ℕ) → ((k : ℕ) → k < length xs → get_or xs k 0 ≡ n → ⊥) → Contains xs n → ⊥
none_there xs n f c = f c.0 c.1 (get_or_default xs c.0 0 n c.1 ∙ c.2)

pub length_at : (rs : List Words) (i n : ℕ) (r : Words) → r ≡ get_or rs i r → n ≡ length r.words → i < length rs → get_or (lengths_of rs) i 0 ≡ n
length_at rs i n r e l h = get_or-map (λ (w : Words). length w.words) rs i r 0 h ∙ ap (λ (w : Words). length w.words) (sym e) ∙ sym l
