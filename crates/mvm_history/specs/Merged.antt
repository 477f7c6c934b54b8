-- The entries of all histories in one list, by stamp, then by the number of the isolate, then by place.
use Rattle.std.specs.Prelude.{ℕ, zero, suc, ◌+◌, ◌≡◌, List, [], ◌∷◌, ◌++◌, filter_map, Bool, false, ◌==◌, nat_lt, ◌&&◌, ◌||◌, if◌then◌else◌, Option, Some, None}
use Rattle.std.specs.List.{AllByRecursion}
use Rattle.std.specs.List.Sorted.{IsPermutation}
use Rattle.mvm_history.specs.declared.entry.Entry.{Entry}
use Rattle.mvm_history.specs.declared.merging.Placed.{Placed}

-- an entry, with the number of its isolate and its place in that isolate's history
pub record Item : Type 0 where
  pub isolate : ℕ
  pub place : ℕ
  pub entry : Entry

-- the entries of an isolate from a place on
unfoldable pub items_of : ℕ → ℕ → List Entry → List Item
items_of isolate place [] = []
items_of isolate place (e ∷ es) = record { isolate = isolate; place = place; entry = e } ∷ items_of isolate (place + 1) es

-- the entries of the isolates from a number on
unfoldable pub items_from : ℕ → List (List Entry) → List Item
items_from isolate [] = []
items_from isolate (h ∷ hs) = items_of isolate 0 h ++ items_from (isolate + 1) hs

abbrev pub items : List (List Entry) → List Item
items hs = items_from 0 hs

-- ---- the order

abbrev pub comes_first : ℕ → ℕ → ℕ → ℕ → ℕ → ℕ → Bool
comes_first stamp isolate place stamp_ isolate_ place_ =
    nat_lt stamp stamp_ || stamp == stamp_ && (nat_lt isolate isolate_ || isolate == isolate_ && nat_lt place place_)

-- an item comes before another: by stamp, then by isolate, then by place
abbrev pub is_before : Item → Item → Bool
is_before x y = comes_first x.entry.stamp x.isolate x.place y.entry.stamp y.isolate y.place

-- nothing later comes before, by a test
abbrev pub IsOrderedBy : {X : Type 0} → (X → X → Bool) → List X → Type 0
IsOrderedBy before [] = Unit {0}
IsOrderedBy before (x ∷ xs) = AllByRecursion (λ y. before y x ≡ false) xs × IsOrderedBy before xs

abbrev pub IsOrdered : List Item → Type 0
IsOrdered xs = IsOrderedBy is_before xs

-- ---- the merge

-- an item goes behind those that come before it
unfoldable pub insert : Item → List Item → List Item
insert x [] = x ∷ []
insert x (y ∷ ys) = if is_before y x then y ∷ insert x ys else x ∷ y ∷ ys

unfoldable pub sorted : List Item → List Item
sorted [] = []
sorted (x ∷ xs) = insert x (sorted xs)

abbrev pub merge : List (List Entry) → List Item
merge hs = sorted (items hs)

-- where an item stands
abbrev pub placed : Item → Placed
placed x = record { isolate = x.isolate; place = x.place }

-- ---- what it is by its properties

-- the history of an isolate; none where there is no such isolate
abbrev pub history_of : List (List Entry) → ℕ → List Entry
history_of [] isolate = []
history_of (h ∷ hs) zero = h
history_of (h ∷ hs) (suc isolate) = history_of hs isolate

-- one isolate's entries, in the order of the list
abbrev pub entry_of : ℕ → Item → Option Entry
entry_of isolate x = if x.isolate == isolate then Some x.entry else None

abbrev pub entries_of : ℕ → List Item → List Entry
entries_of isolate xs = filter_map (entry_of isolate) xs

-- the list has all entries of these histories, in the order, and those of each isolate as they stand in its history
pub record IsMerge (hs : List (List Entry)) (xs : List Item) : Type 0 where
  pub whole : IsPermutation (items hs) xs
  pub ordered : IsOrdered xs
  pub each : (isolate : ℕ) → entries_of isolate xs ≡ history_of hs isolate
