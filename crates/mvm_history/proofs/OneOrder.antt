-- Two lists of the same items are one list where both are ordered by a test that tells each two items apart.
use Rattle.std.proofs.Common.{◌≡◌, ◌<◌, ℕ, suc, ◌+◌, Bool, true, false, cond, List, [], ◌∷◌, length, get_or, refl, sym, ap, ◌∙◌, subst, arith}
use Rattle.std.specs.List.{AllByRecursion, sum_by}
use Rattle.std.specs.List.Sorted.{IsPermutation, IsSortedBy}
use Rattle.std.proofs.lemmas.List.Sums.{sum_by-cons}
use Rattle.std.proofs.lemmas.List.Sorted.{sum_by-IsPermutation}
use Rattle.mvm_history.specs.Merged.{IsOrderedBy}

-- whatever is counted of their items, the lists have as much of it
abbrev pub HasSameItems : {X : Type 0} → List X → List X → Type 0
HasSameItems {X} xs ys = (f : X → ℕ) → sum_by f xs ≡ sum_by f ys

pub same_from_permutation : {X : Type 0} (xs ys : List X) → IsPermutation xs ys → HasSameItems xs ys
same_from_permutation xs ys p f = sym (sum_by-IsPermutation f xs ys p)

tail_same : {X : Type 0} (x y : X) (xs ys : List X) → x ≡ y → HasSameItems (x ∷ xs) (y ∷ ys) → HasSameItems xs ys
tail_same x y xs ys is same f =
    let a = sum_by-cons f x xs in let b = sum_by-cons f y ys in let c = same f in let d = ap f is in omega arith

not_empty : {X : Type 0} (y : X) (ys : List X) → HasSameItems [] (y ∷ ys) → ⊥
not_empty y ys same =
    let a = sum_by-cons (λ z. 1) y ys in let b : 0 ≡ sum_by (λ z. 1) (y ∷ ys) = same (λ z. 1) in absurd (omega arith)

-- how many come before an item
ahead : {X : Type 0} → (X → X → Bool) → X → X → ℕ
ahead before y z = cond (before z y) 1 0

none_ahead : {X : Type 0} (before : X → X → Bool) (y z : X) → before z y ≡ false → ahead before y z ≡ 0
unfolding ahead
none_ahead before y z is = ap (λ (b : Bool). cond b 1 0) is

one_ahead : (b : Bool) → ◌≡◌ {A = ℕ} (cond b 1 0) 0 → b ≡ false
one_ahead true is = absurd (omega (arith, is))
one_ahead false is = refl

count_none : {X : Type 0} (before : X → X → Bool) (y : X) (ys : List X) → AllByRecursion (λ z. before z y ≡ false) ys → sum_by (ahead before y) ys ≡ 0
count_none before y [] all = refl
count_none before y (z ∷ ys) all =
    let a = sum_by-cons (ahead before y) z ys in let b = none_ahead before y z all.0 in let c = count_none before y ys all.1 in omega arith

-- what stands first in one of them comes no later than what stands first in the other
first_no_later : {X : Type 0} (before : X → X → Bool) (x y : X) (xs ys : List X) → before y y ≡ false → AllByRecursion (λ z. before z y ≡ false) ys →
    HasSameItems (x ∷ xs) (y ∷ ys) → before x y ≡ false
unfolding ahead
first_no_later before x y xs ys own all same =
    let a = sum_by-cons (ahead before y) x xs in let b = sum_by-cons (ahead before y) y ys in
    let c = none_ahead before y y own in let d = count_none before y ys all in let e = same (ahead before y) in
    one_ahead (before x y) (omega arith)

pub one_order : {X : Type 0} (before : X → X → Bool) (Q : X → Type 0) → ((x : X) → before x x ≡ false) →
    ((x y : X) → Q x → Q y → before x y ≡ false → before y x ≡ false → x ≡ y) →
    (xs ys : List X) → AllByRecursion Q xs → AllByRecursion Q ys → IsOrderedBy before xs → IsOrderedBy before ys → HasSameItems xs ys → xs ≡ ys
one_order before Q own apart [] [] p q o r same = refl
one_order before Q own apart [] (y ∷ ys) p q o r same = absurd (not_empty y ys same)
one_order before Q own apart (x ∷ xs) [] p q o r same = absurd (not_empty x xs (λ f. sym (same f)))
one_order before Q own apart (x ∷ xs) (y ∷ ys) p q o r same =
    let first : x ≡ y = apart x y p.0 q.0 (first_no_later before x y xs ys (own y) r.0 same)
    (first_no_later before y x ys xs (own x) o.0 (λ f. sym (same f))) in
    let rest : xs ≡ ys = one_order before Q own apart xs ys p.1 q.1 o.1 r.1 (tail_same x y xs ys first same) in
    ap (λ (z : _). z ∷ xs) first ∙ ap (λ (zs : List _). y ∷ zs) rest

-- ---- from order by places

abbrev IsChain : {X : Type 0} → (X → X → Bool) → List X → Type 0
IsChain before [] = Unit {0}
IsChain before (x ∷ []) = Unit {0}
IsChain before (x ∷ y ∷ ys) = (before y x ≡ false) × IsChain before (y ∷ ys)

one_more : (k : ℕ) → suc k ≡ k + 1
one_more k = omega arith

sorted_tail : {X : Type 0} (before : X → X → Bool) (x : X) (xs : List X) → IsSortedBy before (x ∷ xs) → IsSortedBy before xs
sorted_tail before x xs up k d low high =
    let next = one_more k in let after = one_more (k + 1) in
    let is = up (k + 1) d (omega arith) (let h : k + 1 < length xs = high in omega arith) in
    subst (λ (n : ℕ). before (get_or (x ∷ xs) n d) (get_or xs k d) ≡ false) (sym after)
    (subst (λ (n : ℕ). before (get_or (x ∷ xs) (k + 1 + 1) d) (get_or (x ∷ xs) n d) ≡ false) (sym next) is)

chain_from_sorted : {X : Type 0} (before : X → X → Bool) (xs : List X) → IsSortedBy before xs → IsChain before xs
chain_from_sorted before [] up = tt
chain_from_sorted before (x ∷ []) up = tt
chain_from_sorted before (x ∷ y ∷ ys) up =
    (up 0 x (omega arith) (omega arith), chain_from_sorted before (y ∷ ys) (sorted_tail before x (y ∷ ys) up))

abbrev IsPassedOn : {X : Type 0} → (X → X → Bool) → Type 0
IsPassedOn {X} before = (x y z : X) → before y x ≡ false → before z y ≡ false → before z x ≡ false

all_passed : {X : Type 0} (before : X → X → Bool) → IsPassedOn before → (x y : X) (ys : List X) → before y x ≡ false →
    AllByRecursion (λ z. before z y ≡ false) ys → AllByRecursion (λ z. before z x ≡ false) ys
all_passed before on x y [] is all = tt
all_passed before on x y (z ∷ ys) is all = (on x y z is all.0, all_passed before on x y ys is all.1)

far_from_chain : {X : Type 0} (before : X → X → Bool) → IsPassedOn before → (x : X) (xs : List X) → IsChain before (x ∷ xs) →
    AllByRecursion (λ y. before y x ≡ false) xs
far_from_chain before on x [] chain = tt
far_from_chain before on x (y ∷ ys) chain = (chain.0, all_passed before on x y ys chain.0 (far_from_chain before on y ys chain.1))

ordered_from_chain : {X : Type 0} (before : X → X → Bool) → IsPassedOn before → (xs : List X) → IsChain before xs → IsOrderedBy before xs
ordered_from_chain before on [] chain = tt
ordered_from_chain before on (x ∷ []) chain = (tt, tt)
ordered_from_chain before on (x ∷ y ∷ ys) chain = (far_from_chain before on x (y ∷ ys) chain, ordered_from_chain before on (y ∷ ys) chain.1)

pub ordered_from_sorted : {X : Type 0} (before : X → X → Bool) → IsPassedOn before → (xs : List X) → IsSortedBy before xs → IsOrderedBy before xs
ordered_from_sorted before on xs up = ordered_from_chain before on xs (chain_from_sorted before xs up)
