-- Texts of which so much is kept as a comment shows.
use Rattle.std.proofs.Common.{◌≡◌, ℕ, zero, suc, ◌+◌, ◌<◌, ◌≤◌, List, [], ◌∷◌, ◌++◌, length, take, refl, sym, ap, subst, ◌∙◌, append_assoc, append-nil, length-append, arith}
use Rattle.std.specs.Prelude.{slice_index_or}
use Rattle.std.proofs.lemmas.List.{take_at}
use Rattle.mvm_listing.specs.LaidOut.{longest}
use Rattle.mvm_disassembler.specs.Steps.{cut}

-- ---- so many units

taken_before : {A : Type 0} (n : ℕ) (a b : List A) → take n (take n a ++ b) ≡ take n (a ++ b)
taken_before zero a b = refl
taken_before (suc n) [] b = refl
taken_before (suc n) (x ∷ xs) b = ap (λ ys. x ∷ ys) (taken_before n xs b)

taken_again : {A : Type 0} (n : ℕ) (a : List A) → take n (take n a) ≡ take n a
taken_again zero a = refl
taken_again (suc n) [] = refl
taken_again (suc n) (x ∷ xs) = ap (λ ys. x ∷ ys) (taken_again n xs)

all_taken : {A : Type 0} (n : ℕ) (a : List A) → length a ≤ n → a ≡ take n a
all_taken zero [] l = refl
all_taken zero (x ∷ a) l = absurd (omega arith)
all_taken (suc n) [] l = refl
all_taken (suc n) (x ∷ a) l = ap (λ ys. x ∷ ys) (all_taken n a (omega arith))

-- as many or more of what stands behind are as good as all of it
taken_less : {A : Type 0} (n m : ℕ) (a b : List A) → n ≤ m → take n (a ++ take m b) ≡ take n (a ++ b)
taken_less zero m a b l = refl
taken_less (suc n) zero a b l = absurd (omega (arith, l))
taken_less (suc n) (suc m) [] [] l = refl
taken_less (suc n) (suc m) [] (y ∷ ys) l = ap (λ zs. y ∷ zs) (taken_less n m [] ys (omega (arith, l)))
taken_less (suc n) (suc m) (x ∷ xs) b l = ap (λ zs. x ∷ zs) (taken_less n (suc m) xs b (omega (arith, l)))

taken_most : {A : Type 0} (n : ℕ) (a : List A) → length (take n a) ≤ n
taken_most zero a = omega arith
taken_most (suc n) [] = omega arith
taken_most (suc n) (x ∷ a) = let l : length (take n a) ≤ n = taken_most n a in omega (arith, l)

next_unit : (xs : List ℕ) (i : ℕ) → i < length xs → take (suc i) xs ≡ take i xs ++ slice_index_or xs i 0 ∷ []
next_unit [] i l = absurd (omega arith)
next_unit (y ∷ ys) zero l = refl
next_unit (y ∷ ys) (suc i) l = ap (λ zs. y ∷ zs) (next_unit ys i (omega arith))

-- ---- as many as a comment shows

-- a text that is kept is short enough
pub cut_room : (a one : List ℕ) → one ≡ cut a → one ≡ cut one
unfolding cut
cut_room a one e = e ∙ sym (taken_again longest a) ∙ sym (ap (take longest) e)

pub cut_empty : [] ≡ cut []
unfolding cut
cut_empty = refl

pub cut_none : (a : List ℕ) → a ≡ cut a → a ≡ cut (a ++ [])
cut_none a e = e ∙ ap cut (sym (append-nil a))

-- of a text no more than a comment shows is looked at
pub cut_short : (a : List ℕ) → length a ≤ 120 → a ≡ cut a
unfolding cut
cut_short a l = all_taken longest a l

pub cut_long : (a : List ℕ) → take 120 a ≡ cut a
unfolding cut
cut_long a = refl

pub cut_shown : (before a one : List ℕ) → one ≡ cut (before ++ cut a) → one ≡ cut (before ++ a)
unfolding cut
cut_shown before a one e = e ∙ taken_less longest longest before a (omega arith)

-- two texts, one behind the other
pub cut_two : (before a b one two : List ℕ) → one ≡ cut (before ++ a) → two ≡ cut (one ++ b) → two ≡ cut (before ++ (a ++ b))
unfolding cut
cut_two before a b one two p q = q ∙ ap (λ (t : List ℕ). take longest (t ++ b)) p ∙ taken_before longest (before ++ a) b ∙ ap (take longest) (append_assoc before a b)

-- and a unit between them
pub cut_between : (before a c one two three : List ℕ) (x : ℕ) → one ≡ cut (before ++ a) → two ≡ cut (one ++ x ∷ []) → three ≡ cut (two ++ c) → three ≡ cut (before ++ (a ++ x ∷ c))
cut_between before a c one two three x p q r =
    cut_two before (a ++ x ∷ []) c two three (cut_two before a (x ∷ []) one two p q) r ∙ ap (λ (t : List ℕ). cut (before ++ t)) (append_assoc a (x ∷ []) c)

pub room_for : (a : List ℕ) (x : ℕ) → length a < 120 → a ++ x ∷ [] ≡ cut (a ++ x ∷ [])
unfolding cut
room_for a x l = all_taken longest (a ++ x ∷ []) (let size : length (a ++ x ∷ []) ≡ length a + 1 = length-append a (x ∷ []) in omega (arith, size, l))

pub no_room : (a : List ℕ) (x : ℕ) → a ≡ cut a → 120 ≤ length a → a ≡ cut (a ++ x ∷ [])
unfolding cut
no_room a x e m =
    let most : length a ≤ 120 = subst (λ (t : List ℕ). length t ≤ 120) (sym e) (taken_most longest a) in
    sym (take_at a (x ∷ []) longest (omega (arith, most, m)))

pub units_more : (before xs one two : List ℕ) (i : ℕ) → i < length xs → one ≡ cut (before ++ take i xs) → two ≡ cut (one ++ slice_index_or xs i 0 ∷ []) → two ≡ cut (before ++ take (i + 1) xs)
units_more before xs one two i l p q =
    let step : suc i ≡ i + 1 = omega arith in
    cut_two before (take i xs) (slice_index_or xs i 0 ∷ []) one two p q
    ∙ ap (λ (t : List ℕ). cut (before ++ t)) (sym (next_unit xs i l) ∙ ap (λ (k : ℕ). take k xs) step)
