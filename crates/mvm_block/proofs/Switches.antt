-- The parts of a tableswitch, one behind the other.
use Rattle.std.proofs.Common.{◌≡◌, ℕ, List, [], ◌∷◌, ◌++◌, Result, ap, ◌∙◌, append_assoc}
use Rattle.std.specs.Prelude.{OnOk}
use Rattle.std.proofs.lemmas.Result.{on_ok_weaker}

regrouped : (old : List ℕ) (op : ℕ) (a b c d t : List ℕ) → ((((old ++ op ∷ []) ++ a) ++ b) ++ (c ++ d)) ++ t ≡ old ++ op ∷ (a ++ (b ++ (c ++ (d ++ t))))
regrouped old op a b c d t = simp append_assoc

one_behind_other : (old x y z w new : List ℕ) (op : ℕ) (a b c d t u : List ℕ) → x ≡ old ++ op ∷ [] → y ≡ x ++ a → z ≡ y ++ b → w ≡ z ++ (c ++ d) → t ≡ u → new ≡ w ++ t
    → new ≡ old ++ op ∷ (a ++ (b ++ (c ++ (d ++ u))))
one_behind_other old x y z w new op a b c d t u p q r s same e =
    e ∙ ap (λ (k : List ℕ). k ++ t) (s ∙ ap (λ (k : List ℕ). k ++ (c ++ d)) (r ∙ ap (λ (k : List ℕ). k ++ b) (q ∙ ap (λ (k : List ℕ). k ++ a) p)))
    ∙ regrouped old op a b c d t ∙ ap (λ (k : List ℕ). old ++ op ∷ (a ++ (b ++ (c ++ (d ++ k))))) same

pub table_end : {T E : Type 0} (result : Result T E) (old x y z w new : List ℕ) (op : ℕ) (a b c d t u : List ℕ) → x ≡ old ++ op ∷ [] → y ≡ x ++ a → z ≡ y ++ b → w ≡ z ++ (c ++ d) → t ≡ u
    → OnOk result (new ≡ w ++ t) → OnOk result (new ≡ old ++ op ∷ (a ++ (b ++ (c ++ (d ++ u)))))
table_end {T} {E} result old x y z w new op a b c d t u p q r s same e =
    on_ok_weaker result (one_behind_other old x y z w new op a b c d t u p q r s same) e
