-- The merge is the one list of all entries in the order, and has those of each isolate as they stand in its history.
use Rattle.std.proofs.Common.{◌≡◌, ◌<◌, ◌≤◌, ℕ, zero, suc, ◌+◌, Bool, true, false, cond, ◌==◌, if◌then◌else◌, Some, None, List, [], ◌∷◌, ◌++◌, map, slice_get, refl, sym, ap, ◌∙◌, subst, arith, add-zero, zero-add}
use Rattle.std.specs.List.{AllByRecursion, cons_option, filter, sum_by}
use Rattle.std.specs.List.Sorted.{IsPermutation}
use Rattle.std.proofs.lemmas.Bool.{ne_eqb, eq-eqb}
use Rattle.std.proofs.lemmas.Bool.Decides.{nat_tests}
use Rattle.std.proofs.lemmas.List.Elements.{All-from_recursion, recursion_from_All, filter-append}
use Rattle.std.proofs.lemmas.List.Sorted.{All-permutation}
use Rattle.std.proofs.lemmas.List.Sums.{sum_by-cons}
use Rattle.mvm_history.specs.declared.entry.Entry.{Entry}
use Rattle.mvm_history.specs.Merged.{Item, comes_first, is_before, IsOrderedBy, IsOrdered, IsMerge, items_of, items_from, items, merge, history_of, entries_of}
use Rattle.mvm_history.specs.Stamps.{IsRising}
use Rattle.mvm_history.proofs.OneOrder.{HasSameItems, one_order, same_from_permutation}
use Rattle.mvm_history.proofs.Inserting.{not_itself, same_isolate, same_place, sorted_same, sorted_ordered, all_sorted}

-- ---- each item is the entry at its place

abbrev pub IsThere : List (List Entry) → Item → Type 0
IsThere hs x = slice_get (history_of hs x.isolate) x.place ≡ Some x.entry

some_same : {A : Type 0} (x y : A) → Some x ≡ Some y → x ≡ y
some_same x y is = cc

same_entry : (hs : List (List Entry)) (i j k l : ℕ) (e f : Entry) → i ≡ j → k ≡ l → slice_get (history_of hs i) k ≡ Some e → slice_get (history_of hs j) l ≡ Some f → e ≡ f
same_entry hs i j k l e f is at a b = some_same e f (sym a ∙ ap (λ (n : ℕ). slice_get (history_of hs n) k) is ∙ ap (slice_get (history_of hs j)) at ∙ b)

items_apart : (hs : List (List Entry)) (x y : Item) → IsThere hs x → IsThere hs y → is_before x y ≡ false → is_before y x ≡ false → x ≡ y
items_apart hs x y p q a b =
    let i = same_isolate x.entry.stamp x.isolate x.place y.entry.stamp y.isolate y.place a b in
    let k = same_place x.entry.stamp x.isolate x.place y.entry.stamp y.isolate y.place a b in
    let e = same_entry hs x.isolate y.isolate x.place y.place x.entry y.entry i k p q in
    ap (λ (n : ℕ). record { isolate = n; place = x.place; entry = x.entry }) i
    ∙ ap (λ (n : ℕ). record { isolate = y.isolate; place = n; entry = x.entry }) k
    ∙ ap (λ (f : Entry). record { isolate = y.isolate; place = y.place; entry = f }) e

all_append : {X : Type 0} (P : X → Type 0) (xs ys : List X) → AllByRecursion P xs → AllByRecursion P ys → AllByRecursion P (xs ++ ys)
all_append P [] ys all rest = rest
all_append P (x ∷ xs) ys all rest = (all.0, all_append P xs ys all.1 rest)

next_place : (k n : ℕ) → k + 1 + n ≡ k + suc n
next_place k n = omega arith

there_of : (all : List (List Entry)) (i k : ℕ) (h : List Entry) → ((n : ℕ) → slice_get (history_of all i) (k + n) ≡ slice_get h n) → AllByRecursion (IsThere all) (items_of i k h)
unfolding items_of
there_of all i k [] at = tt
there_of all i k (e ∷ h) at = (
  ap (slice_get (history_of all i)) (sym (add-zero k)) ∙ at 0,
  there_of all i (k + 1) h (λ n. ap (slice_get (history_of all i)) (next_place k n) ∙ at (suc n)),
)

there_from : (all : List (List Entry)) (i : ℕ) (hs : List (List Entry)) → ((n : ℕ) → history_of all (i + n) ≡ history_of hs n) → AllByRecursion (IsThere all) (items_from i hs)
unfolding items_from
there_from all i [] at = tt
there_from all i (h ∷ hs) at =
    let own : history_of all i ≡ h = ap (history_of all) (sym (add-zero i)) ∙ at 0 in
    all_append (IsThere all) (items_of i 0 h) (items_from (i + 1) hs)
    (there_of all i 0 h (λ n. ap (slice_get (history_of all i)) (zero-add n) ∙ ap (λ (g : List Entry). slice_get g n) own))
    (there_from all (i + 1) hs (λ n. ap (history_of all) (next_place i n) ∙ at (suc n)))

all_there : (hs : List (List Entry)) → AllByRecursion (IsThere hs) (items hs)
all_there hs = there_from hs 0 hs (λ n. ap (history_of hs) (zero-add n))

-- ---- the one list

own_place : (x : Item) → is_before x x ≡ false
own_place x = not_itself x.entry.stamp x.isolate x.place

pub only_merge : (hs : List (List Entry)) (xs : List Item) → IsPermutation (items hs) xs → IsOrdered xs → xs ≡ merge hs
only_merge hs xs same o =
    let there : AllByRecursion (IsThere hs) xs =
    recursion_from_All (IsThere hs) xs (All-permutation (IsThere hs) (items hs) xs same (All-from_recursion (IsThere hs) (items hs) (all_there hs))) in
    one_order is_before (IsThere hs) own_place (items_apart hs) xs (merge hs) there (all_sorted (IsThere hs) (items hs) (all_there hs)) o (sorted_ordered (items hs))
    (λ f. sym (same_from_permutation (items hs) xs same f) ∙ same_from_permutation (items hs) (merge hs) (sorted_same (items hs)) f)

-- ---- the items of one isolate

abbrev is_of : ℕ → Item → Bool
is_of i x = x.isolate == i

chosen_sum : {X : Type 0} (f : X → ℕ) (b : Bool) (x : X) (xs : List X) → sum_by f (cond b (x ∷ xs) xs) ≡ cond b (f x) 0 + sum_by f xs
chosen_sum f true x xs = sum_by-cons f x xs
chosen_sum f false x xs = sym (zero-add (sum_by f xs))

filter_sum : {X : Type 0} (p : X → Bool) (f : X → ℕ) (xs : List X) → sum_by f (filter p xs) ≡ sum_by (λ x. cond (p x) (f x) 0) xs
filter_sum p f [] = refl
filter_sum p f (x ∷ xs) =
    let a = chosen_sum f (p x) x (filter p xs) in let b = filter_sum p f xs in let c = sum_by-cons (λ x. cond (p x) (f x) 0) x xs in omega arith

filter_same : {X : Type 0} (p : X → Bool) (xs ys : List X) → HasSameItems xs ys → HasSameItems (filter p xs) (filter p ys)
filter_same p xs ys same f = filter_sum p f xs ∙ same (λ x. cond (p x) (f x) 0) ∙ sym (filter_sum p f ys)

chosen_all : {X : Type 0} (P : X → Type 0) (b : Bool) (x : X) (xs : List X) → P x → AllByRecursion P xs → AllByRecursion P (cond b (x ∷ xs) xs)
chosen_all P true x xs p all = (p, all)
chosen_all P false x xs p all = all

filter_all : {X : Type 0} (p : X → Bool) (P : X → Type 0) (xs : List X) → AllByRecursion P xs → AllByRecursion P (filter p xs)
filter_all p P [] all = tt
filter_all p P (x ∷ xs) all = chosen_all P (p x) x (filter p xs) all.0 (filter_all p P xs all.1)

chosen_ordered : {X : Type 0} (before : X → X → Bool) (b : Bool) (x : X) (xs : List X) → AllByRecursion (λ y. before y x ≡ false) xs → IsOrderedBy before xs → IsOrderedBy before (cond b (x ∷ xs) xs)
chosen_ordered before true x xs all o = (all, o)
chosen_ordered before false x xs all o = o

filter_ordered : {X : Type 0} (before : X → X → Bool) (p : X → Bool) (xs : List X) → IsOrderedBy before xs → IsOrderedBy before (filter p xs)
filter_ordered before p [] o = tt
filter_ordered before p (x ∷ xs) o =
    chosen_ordered before (p x) x (filter p xs) (filter_all p (λ y. before y x ≡ false) xs o.0) (filter_ordered before p xs o.1)

-- its items among those of another, and among its own
kept : {X : Type 0} (b : Bool) (x : X) (xs : List X) → b ≡ true → cond b (x ∷ xs) xs ≡ x ∷ xs
kept true x xs is = refl
kept false x xs is = absurd (cc)

left_out : {X : Type 0} (b : Bool) (x : X) (xs : List X) → b ≡ false → cond b (x ∷ xs) xs ≡ xs
left_out true x xs is = absurd (cc)
left_out false x xs is = refl

own_kept : (i k : ℕ) (h : List Entry) → filter (is_of i) (items_of i k h) ≡ items_of i k h
unfolding items_of
own_kept i k [] = refl
own_kept i k (e ∷ h) =
    kept (i == i) (record { isolate = i; place = k; entry = e }) (filter (is_of i) (items_of i (k + 1) h)) (eq-eqb i i refl)
    ∙ ap (λ (xs : List Item). record { isolate = i; place = k; entry = e } ∷ xs) (own_kept i (k + 1) h)

other_left_out : (i j k : ℕ) (h : List Entry) → (j == i) ≡ false → filter (is_of i) (items_of j k h) ≡ []
unfolding items_of
other_left_out i j k [] other = refl
other_left_out i j k (e ∷ h) other =
    left_out (j == i) (record { isolate = j; place = k; entry = e }) (filter (is_of i) (items_of j (k + 1) h)) other ∙ other_left_out i j (k + 1) h other

none_below : (i j : ℕ) (hs : List (List Entry)) → i < j → filter (is_of i) (items_from j hs) ≡ []
unfolding items_from
none_below i j [] low = refl
none_below i j (h ∷ hs) low =
    filter-append (is_of i) (items_of j 0 h) (items_from (j + 1) hs)
    ∙ ap (λ (xs : List Item). xs ++ filter (is_of i) (items_from (j + 1) hs)) (other_left_out i j 0 h (ne_eqb j i (λ same. omega (arith, same))))
    ∙ none_below i (j + 1) hs (omega arith)

append-none : {X : Type 0} (xs ys : List X) → ys ≡ [] → xs ++ ys ≡ xs
append-none [] ys none = none
append-none (x ∷ xs) ys none = ap (λ (zs : List _). x ∷ zs) (append-none xs ys none)

items_at : (j n : ℕ) (hs : List (List Entry)) → filter (is_of (j + n)) (items_from j hs) ≡ items_of (j + n) 0 (history_of hs n)
unfolding items_of items_from
items_at j n [] = refl
items_at j zero (h ∷ hs) =
    subst (λ (i : ℕ). filter (is_of i) (items_of j 0 h ++ items_from (j + 1) hs) ≡ items_of i 0 h) (sym (add-zero j))
    (filter-append (is_of j) (items_of j 0 h) (items_from (j + 1) hs)
    ∙ append-none (filter (is_of j) (items_of j 0 h)) (filter (is_of j) (items_from (j + 1) hs)) (none_below j (j + 1) hs (omega arith))
    ∙ own_kept j 0 h)
items_at j (suc n) (h ∷ hs) =
    filter-append (is_of (j + suc n)) (items_of j 0 h) (items_from (j + 1) hs)
    ∙ ap (λ (xs : List Item). xs ++ filter (is_of (j + suc n)) (items_from (j + 1) hs)) (other_left_out (j + suc n) j 0 h (ne_eqb j (j + suc n) (λ same. omega (arith, same))))
    ∙ subst (λ (i : ℕ). filter (is_of i) (items_from (j + 1) hs) ≡ items_of i 0 (history_of hs n)) (next_place j n) (items_at (j + 1) n hs)

-- ---- where no stamp is below one before it

later : (s t i k l : ℕ) → s ≤ t → k < l → comes_first t i l s i k ≡ false
later s t i k l up high = grind (arith, nat_tests)

all_later : (s i k l : ℕ) (h : List Entry) → k < l → AllByRecursion (λ f. s ≤ f.stamp) h → AllByRecursion (λ y. comes_first y.entry.stamp y.isolate y.place s i k ≡ false) (items_of i l h)
unfolding items_of
all_later s i k l [] high up = tt
all_later s i k l (f ∷ h) high up = (later s f.stamp i k l up.0 high, all_later s i k (l + 1) h (omega arith) up.1)

rising_ordered : (i k : ℕ) (h : List Entry) → IsRising h → IsOrdered (items_of i k h)
unfolding items_of
rising_ordered i k [] up = tt
rising_ordered i k (e ∷ h) up = (all_later e.stamp i k (k + 1) h (omega arith) up.0, rising_ordered i (k + 1) h up.1)

item_entries : (i k : ℕ) (h : List Entry) → map (λ (x : Item). x.entry) (items_of i k h) ≡ h
unfolding items_of
item_entries i k [] = refl
item_entries i k (e ∷ h) = ap (λ (es : List Entry). e ∷ es) (item_entries i (k + 1) h)

chosen_entries : (b : Bool) (x : Item) (xs : List Item) (es : List Entry) → es ≡ map (λ (y : Item). y.entry) xs →
    cons_option (if b then Some x.entry else None) es ≡ map (λ (y : Item). y.entry) (cond b (x ∷ xs) xs)
chosen_entries true x xs es is = ap (λ (fs : List Entry). x.entry ∷ fs) is
chosen_entries false x xs es is = is

entries_kept : (i : ℕ) (xs : List Item) → entries_of i xs ≡ map (λ (x : Item). x.entry) (filter (is_of i) xs)
entries_kept i [] = refl
entries_kept i (x ∷ xs) = chosen_entries (x.isolate == i) x (filter (is_of i) xs) (entries_of i xs) (entries_kept i xs)

own_items : (hs : List (List Entry)) (i : ℕ) → IsRising (history_of hs i) → filter (is_of i) (merge hs) ≡ items_of i 0 (history_of hs i)
own_items hs i up =
    let at : filter (is_of i) (items hs) ≡ items_of i 0 (history_of hs i) =
    subst (λ (n : ℕ). filter (is_of n) (items hs) ≡ items_of n 0 (history_of hs i)) (zero-add i) (items_at 0 i hs) in
    let there : AllByRecursion (IsThere hs) (items_of i 0 (history_of hs i)) =
    subst (AllByRecursion (IsThere hs)) at (filter_all (is_of i) (IsThere hs) (items hs) (all_there hs)) in
    let same : HasSameItems (filter (is_of i) (merge hs)) (items_of i 0 (history_of hs i)) =
    λ f. sym (filter_same (is_of i) (items hs) (merge hs) (same_from_permutation (items hs) (merge hs) (sorted_same (items hs))) f)
    ∙ ap (sum_by f) at in
    one_order is_before (IsThere hs) own_place (items_apart hs) (filter (is_of i) (merge hs)) (items_of i 0 (history_of hs i))
    (filter_all (is_of i) (IsThere hs) (merge hs) (all_sorted (IsThere hs) (items hs) (all_there hs))) there
    (filter_ordered is_before (is_of i) (merge hs) (sorted_ordered (items hs))) (rising_ordered i 0 (history_of hs i) up) same

pub merge_is : (hs : List (List Entry)) → ((i : ℕ) → IsRising (history_of hs i)) → IsMerge hs (merge hs)
merge_is hs up = record {
  whole = sorted_same (items hs);
  ordered = sorted_ordered (items hs);
  each = λ i. entries_kept i (merge hs) ∙ ap (map (λ (x : Item). x.entry)) (own_items hs i (up i)) ∙ item_entries i 0 (history_of hs i);
}
