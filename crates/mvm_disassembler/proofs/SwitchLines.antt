-- The rows of a switch, one after the other.
use Rattle.std.proofs.Common.{◌≡◌, ℕ, zero, suc, ◌+◌, ◌≤◌, List, [], ◌∷◌, ◌++◌, length, map, take, drop, Some, refl, sym, ap, arith, ◌∙◌, append_assoc}
use Rattle.std.specs.Prelude.{pos, slice_get, replicate, min}
use Rattle.mvm_insn.specs.declared.switch_rows.SwitchRow.{SwitchRow}
use Rattle.mvm_listing.specs.Disassembly.{lowest}

pub lowest_is : (rows : List SwitchRow) (row : SwitchRow) → slice_get rows 0 ≡ Some row → lowest rows ≡ row.key
lowest_is [] row e = absurd cc
lowest_is (r ∷ rs) row e = let same : r ≡ row = cc in ap (λ (x : SwitchRow). x.key) same

pub lowest_none : (rows : List SwitchRow) → length rows ≡ 0 → lowest rows ≡ pos 0
lowest_none [] e = refl
lowest_none (r ∷ rs) e = absurd (omega arith)

row_ahead : (rows : List SwitchRow) (i : ℕ) (row : SwitchRow) → slice_get rows i ≡ Some row → drop i rows ≡ row ∷ drop (suc i) rows
row_ahead [] i row e = absurd cc
row_ahead (r ∷ rs) zero row e = let same : r ≡ row = cc in ap (λ (x : SwitchRow). x ∷ rs) same
row_ahead (r ∷ rs) (suc i) row e = row_ahead rs i row e

-- the next row, and those behind it
rows_ahead : (rows : List SwitchRow) (i : ℕ) (row : SwitchRow) → slice_get rows i ≡ Some row → drop i rows ≡ row ∷ drop (i + 1) rows
rows_ahead rows i row e = let n : suc i ≡ i + 1 = omega arith in row_ahead rows i row e ∙ ap (λ (k : ℕ). row ∷ drop k rows) n

-- one row more
pub row_added : {B : Type 0} (f : SwitchRow → B) (rows : List SwitchRow) (i : ℕ) (row : SwitchRow) (one two : List B) → slice_get rows i ≡ Some row → one ++ map f (drop i rows) ≡ map f rows → two ≡ one ++ f row ∷ []
    → two ++ map f (drop (i + 1) rows) ≡ map f rows
row_added f rows i row one two e h p =
    let rest = map f (drop (i + 1) rows) in
    ap (λ t. t ++ rest) p ∙ append_assoc one (f row ∷ []) rest ∙ ap (λ (t : List SwitchRow). one ++ map f t) (sym (rows_ahead rows i row e)) ∙ h

-- ---- padding

-- as many zeros as are wanted, of three
pub zeros : (n : ℕ) → n ≤ 3 → take {A = ℕ} n (replicate 3 0) ≡ replicate n 0
zeros zero l = refl
zeros (suc zero) l = refl
zeros (suc (suc zero)) l = refl
zeros (suc (suc (suc zero))) l = refl
zeros (suc (suc (suc (suc n)))) l = absurd (omega arith)

pub drop_first : {A : Type 0} (xs : List A) → drop (min (length xs) 1) xs ≡ drop 1 xs
drop_first [] = refl
drop_first (x ∷ []) = refl
drop_first (x ∷ (y ∷ ys)) = let one : min (suc (suc (length ys))) 1 ≡ 1 = omega arith in ap (λ (k : ℕ). drop k (x ∷ (y ∷ ys))) one
