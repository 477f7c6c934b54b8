-- The order of items, and what `sorted` makes of a list: the same items, in that order.
use Rattle.std.proofs.Common.{◌≡◌, ◌<◌, ◌≤◌, ◌⊎◌, ℕ, Bool, true, false, if◌then◌else◌, List, [], ◌∷◌, refl, arith}
use Rattle.std.specs.List.{AllByRecursion}
use Rattle.std.specs.List.Sorted.{IsPermutation}
use Rattle.std.proofs.lemmas.Bool.Decides.{nat_tests}
use Rattle.std.proofs.lemmas.List.Sorted.{IsPermutation-refl, IsPermutation-cons, IsPermutation-sym, IsPermutation-trans, IsPermutation-middle}
use Rattle.mvm_history.specs.Merged.{Item, comes_first, is_before, IsOrdered, insert, sorted}

-- ---- the order

pub not_itself : (s i k : ℕ) → comes_first s i k s i k ≡ false
not_itself s i k = grind (arith, nat_tests)

pub passed_on : (s i k t j l u m n : ℕ) → comes_first t j l s i k ≡ false → comes_first u m n t j l ≡ false → comes_first u m n s i k ≡ false
passed_on s i k t j l u m n a b = grind (arith, nat_tests)

other_way : (s i k t j l : ℕ) → comes_first t j l s i k ≡ true → comes_first s i k t j l ≡ false
other_way s i k t j l a = grind (arith, nat_tests)

pub same_stamp : (s i k t j l : ℕ) → comes_first s i k t j l ≡ false → comes_first t j l s i k ≡ false → s ≡ t
same_stamp s i k t j l a b = grind (arith, nat_tests)

pub same_isolate : (s i k t j l : ℕ) → comes_first s i k t j l ≡ false → comes_first t j l s i k ≡ false → i ≡ j
same_isolate s i k t j l a b = grind (arith, nat_tests)

pub same_place : (s i k t j l : ℕ) → comes_first s i k t j l ≡ false → comes_first t j l s i k ≡ false → k ≡ l
same_place s i k t j l a b = grind (arith, nat_tests)

-- what it says of stamps and isolates
pub in_order : (s i k t j l : ℕ) → comes_first t j l s i k ≡ false → (s < t) ⊎ (s ≡ t) × (i ≤ j)
in_order s i k t j l a = grind (arith, nat_tests)

items_passed_on : (x y z : Item) → is_before y x ≡ false → is_before z y ≡ false → is_before z x ≡ false
items_passed_on x y z a b = passed_on x.entry.stamp x.isolate x.place y.entry.stamp y.isolate y.place z.entry.stamp z.isolate z.place a b

-- ---- the same items

moved_behind : (x y : Item) (ys zs : List Item) → IsPermutation (x ∷ ys) zs → IsPermutation (x ∷ y ∷ ys) (y ∷ zs)
moved_behind x y ys zs p =
    IsPermutation-trans (x ∷ y ∷ ys) (y ∷ x ∷ ys) (y ∷ zs)
    (IsPermutation-sym (y ∷ x ∷ ys) (x ∷ y ∷ ys) (IsPermutation-middle (y ∷ []) x ys)) (IsPermutation-cons y (x ∷ ys) zs p)

chosen_same : (b : Bool) (x y : Item) (ys zs : List Item) → IsPermutation (x ∷ ys) zs → IsPermutation (x ∷ y ∷ ys) (if b then y ∷ zs else x ∷ y ∷ ys)
chosen_same true x y ys zs p = moved_behind x y ys zs p
chosen_same false x y ys zs p = IsPermutation-refl (x ∷ y ∷ ys)

inserted_same : (x : Item) (ys : List Item) → IsPermutation (x ∷ ys) (insert x ys)
unfolding insert
inserted_same x [] = IsPermutation-refl (x ∷ [])
inserted_same x (y ∷ ys) = chosen_same (is_before y x) x y ys (insert x ys) (inserted_same x ys)

pub sorted_same : (xs : List Item) → IsPermutation xs (sorted xs)
unfolding sorted
sorted_same [] = IsPermutation-refl []
sorted_same (x ∷ xs) =
    IsPermutation-trans (x ∷ xs) (x ∷ sorted xs) (insert x (sorted xs)) (IsPermutation-cons x xs (sorted xs) (sorted_same xs)) (inserted_same x (sorted xs))

-- ---- in order

all_chosen : (P : Item → Type 0) (b : Bool) (x y : Item) (ys zs : List Item) → P x → AllByRecursion P (y ∷ ys) → AllByRecursion P zs →
    AllByRecursion P (if b then y ∷ zs else x ∷ y ∷ ys)
all_chosen P true x y ys zs p all rest = (all.0, rest)
all_chosen P false x y ys zs p all rest = (p, all)

all_inserted : (P : Item → Type 0) (x : Item) (ys : List Item) → P x → AllByRecursion P ys → AllByRecursion P (insert x ys)
unfolding insert
all_inserted P x [] p all = (p, tt)
all_inserted P x (y ∷ ys) p all = all_chosen P (is_before y x) x y ys (insert x ys) p all (all_inserted P x ys p all.1)

pub all_sorted : (P : Item → Type 0) (xs : List Item) → AllByRecursion P xs → AllByRecursion P (sorted xs)
unfolding sorted
all_sorted P [] all = tt
all_sorted P (x ∷ xs) all = all_inserted P x (sorted xs) all.0 (all_sorted P xs all.1)

all_passed : (x y : Item) (ys : List Item) → is_before y x ≡ false → AllByRecursion (λ z. is_before z y ≡ false) ys → AllByRecursion (λ z. is_before z x ≡ false) ys
all_passed x y [] is all = tt
all_passed x y (z ∷ ys) is all = (items_passed_on x y z is all.0, all_passed x y ys is all.1)

ordered_chosen : (b : Bool) (x y : Item) (ys zs : List Item) → is_before y x ≡ b → IsOrdered (y ∷ ys) →
    (is_before x y ≡ false → AllByRecursion (λ z. is_before z y ≡ false) zs) → IsOrdered zs → IsOrdered (if b then y ∷ zs else x ∷ y ∷ ys)
ordered_chosen true x y ys zs is o f r = (f (other_way x.entry.stamp x.isolate x.place y.entry.stamp y.isolate y.place is), r)
ordered_chosen false x y ys zs is o f r = ((is, all_passed x y ys is o.0), o)

ordered_inserted : (x : Item) (ys : List Item) → IsOrdered ys → IsOrdered (insert x ys)
unfolding insert
ordered_inserted x [] o = (tt, tt)
ordered_inserted x (y ∷ ys) o =
    ordered_chosen (is_before y x) x y ys (insert x ys) refl o (λ p. all_inserted (λ z. is_before z y ≡ false) x ys p o.0) (ordered_inserted x ys o.1)

pub sorted_ordered : (xs : List Item) → IsOrdered (sorted xs)
unfolding sorted
sorted_ordered [] = tt
sorted_ordered (x ∷ xs) = ordered_inserted x (sorted xs) (sorted_ordered xs)
