-- The next item of a list, and those behind it.
use Rattle.std.proofs.Common.{◌≡◌, ℕ, zero, suc, ◌+◌, ◌<◌, List, [], ◌∷◌, ◌++◌, length, map, drop, get_or, sym, ap, ◌∙◌, append_assoc, arith}

ahead : {A : Type 0} (xs : List A) (i : ℕ) (x : A) → i < length xs → x ≡ get_or xs i x → drop i xs ≡ x ∷ drop (suc i) xs
ahead [] i x l e = absurd (omega arith)
ahead (y ∷ ys) zero x l e = ap (λ z. z ∷ ys) (sym e)
ahead (y ∷ ys) (suc i) x l e = ahead ys i x (omega arith) e

pub item_ahead : {A : Type 0} (xs : List A) (i : ℕ) (x : A) → i < length xs → x ≡ get_or xs i x → drop i xs ≡ x ∷ drop (i + 1) xs
item_ahead xs i x l e = let n : suc i ≡ i + 1 = omega arith in ahead xs i x l e ∙ ap (λ (k : ℕ). x ∷ drop k xs) n

-- one item more
pub item_added : {A B : Type 0} (f : A → B) (xs : List A) (i : ℕ) (x : A) (one two : List B) → i < length xs → x ≡ get_or xs i x → one ++ map f (drop i xs) ≡ map f xs → two ≡ one ++ f x ∷ []
    → two ++ map f (drop (i + 1) xs) ≡ map f xs
item_added f xs i x one two l e h p =
    let rest = map f (drop (i + 1) xs) in
    ap (λ t. t ++ rest) p ∙ append_assoc one (f x ∷ []) rest ∙ ap (λ t. one ++ map f t) (sym (item_ahead xs i x l e)) ∙ h
