-- The rows of all entries, in order, are the rows of the merge.
use Rattle.std.proofs.Common.{◌≡◌, ℕ, ◌+◌, get_or, Bool, true, false, cond, ◌==◌, nat_lt, ◌&&◌, ◌||◌, List, [], ◌∷◌, map, refl, sym, ap, ◌∙◌, subst, Less, Equal, Greater}
use Rattle.std.specs.List.{AllByRecursion}
use Rattle.std.specs.List.Sorted.{IsPermutation, IsSortedBy}
use Rattle.std.specs.Ordering.{is_lt, nat_cmp, ordering_then}
use Rattle.std.proofs.lemmas.List.Sorted.{IsPermutation-map, IsPermutation-trans, IsPermutation-sym}
use Rattle.mvm_history.specs.declared.entry.Entry.{Entry}
use Rattle.mvm_history.specs.declared.merging.Row.{Row}
use Rattle.mvm_history.specs.declared.merging.Placed.{Placed}
use Rattle.mvm_history.specs.Merged.{Item, comes_first, is_before, IsOrderedBy, IsOrdered, items, merge, placed}
use Rattle.mvm_history.specs.Rows.{row, rows_from, placed_row}
use Rattle.mvm_history.proofs.OneOrder.{one_order, ordered_from_sorted, same_from_permutation}
use Rattle.mvm_history.proofs.Inserting.{not_itself, passed_on, same_stamp, same_isolate, same_place, sorted_same, sorted_ordered}

abbrev row_before : Row → Row → Bool
row_before x y = comes_first x.stamp x.isolate x.place y.stamp y.isolate y.place

-- the order in which code sorts them
abbrev pub row_less : Row → Row → Bool
row_less x y =
    is_lt (ordering_then (nat_cmp x.stamp y.stamp) (ordering_then (nat_cmp x.isolate y.isolate) (nat_cmp x.place y.place)))

tests_agree : (a b c d e f : Bool) →
    is_lt (ordering_then (cond a Less (cond b Equal Greater)) (ordering_then (cond c Less (cond d Equal Greater)) (cond e Less (cond f Equal Greater))))
    ≡ (a || b && (c || d && e))
tests_agree true b c d e f = refl
tests_agree false false c d e f = refl
tests_agree false true true d e f = refl
tests_agree false true false false e f = refl
tests_agree false true false true true f = refl
tests_agree false true false true false true = refl
tests_agree false true false true false false = refl

less_is : (x y : Row) → row_less x y ≡ row_before x y
less_is x y =
    tests_agree (nat_lt x.stamp y.stamp) (x.stamp == y.stamp) (nat_lt x.isolate y.isolate) (x.isolate == y.isolate) (nat_lt x.place y.place) (x.place == y.place)

sorted_before : (rows : List Row) → IsSortedBy row_less rows → IsSortedBy row_before rows
sorted_before rows up k d low high = sym (less_is (get_or rows (k + 1) d) (get_or rows k d)) ∙ up k d low high

rows_apart : (x y : Row) → row_before x y ≡ false → row_before y x ≡ false → x ≡ y
rows_apart x y a b =
    let s = same_stamp x.stamp x.isolate x.place y.stamp y.isolate y.place a b in
    let i = same_isolate x.stamp x.isolate x.place y.stamp y.isolate y.place a b in
    let k = same_place x.stamp x.isolate x.place y.stamp y.isolate y.place a b in
    ap (λ (n : ℕ). record { stamp = n; isolate = x.isolate; place = x.place }) s
    ∙ ap (λ (n : ℕ). record { stamp = y.stamp; isolate = n; place = x.place }) i
    ∙ ap (λ (n : ℕ). record { stamp = y.stamp; isolate = y.isolate; place = n }) k

-- what holds of items holds of their rows
all_rows : (x : Item) (xs : List Item) → AllByRecursion (λ y. is_before y x ≡ false) xs → AllByRecursion (λ y. row_before y (row x) ≡ false) (map row xs)
all_rows x [] all = tt
all_rows x (y ∷ xs) all = (all.0, all_rows x xs all.1)

rows_ordered : (xs : List Item) → IsOrdered xs → IsOrderedBy row_before (map row xs)
rows_ordered [] o = tt
rows_ordered (x ∷ xs) o = (all_rows x xs o.0, rows_ordered xs o.1)

all_true : {X : Type 0} (xs : List X) → AllByRecursion (λ x. Unit {0}) xs
all_true [] = tt
all_true (x ∷ xs) = (tt, all_true xs)

places_of_rows : (xs : List Item) → map placed_row (map row xs) ≡ map placed xs
places_of_rows [] = refl
places_of_rows (x ∷ xs) = ap (λ (ps : List Placed). placed x ∷ ps) (places_of_rows xs)

rows_merged : (hs : List (List Entry)) (rows : List Row) → IsPermutation (rows_from 0 hs) rows → IsSortedBy row_less rows → rows ≡ map row (merge hs)
rows_merged hs rows same up =
    let moved : IsPermutation (rows_from 0 hs) (map row (merge hs)) = IsPermutation-map row (items hs) (merge hs) (sorted_same (items hs)) in
    let both : IsPermutation rows (map row (merge hs)) =
    IsPermutation-trans rows (rows_from 0 hs) (map row (merge hs)) (IsPermutation-sym (rows_from 0 hs) rows same) moved in
    one_order row_before (λ x. Unit {0}) (λ x. not_itself x.stamp x.isolate x.place) (λ x y p q. rows_apart x y)
    rows (map row (merge hs)) (all_true rows) (all_true (map row (merge hs)))
    (ordered_from_sorted row_before (λ x y z. passed_on x.stamp x.isolate x.place y.stamp y.isolate y.place z.stamp z.isolate z.place) rows (sorted_before rows up))
    (rows_ordered (merge hs) (sorted_ordered (items hs)))
    (same_from_permutation rows (map row (merge hs)) both)

-- where the rows stand, is where the entries of the merge stand
pub places_merged : (hs : List (List Entry)) (all rows : List Row) → all ≡ rows_from 0 hs → IsPermutation all rows → IsSortedBy row_less rows →
    map placed_row rows ≡ map placed (merge hs)
places_merged hs all rows is same up =
    ap (map placed_row) (rows_merged hs rows (subst (λ (xs : List Row). IsPermutation xs rows) is same) up) ∙ places_of_rows (merge hs)
