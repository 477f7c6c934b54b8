-- The index of the table (../src/index.rt): names in rising order, each with the place of a line.
use Rattle.std.specs.Prelude.{◌≡◌, ℕ, ◌<◌, List, length, map, Bool}
use Rattle.std.specs.Borrow.{Bor}
use Rattle.std.specs.Cmp.Lexicographic.{slice_cmp}
use Rattle.std.specs.List.{HoldsAt}
use Rattle.std.specs.Ordering.{nat_cmp, is_lt}
use Rattle.mvm_builtin.specs.declared.index.TheConstants.{INDEX}

-- a name, and the place of a line
abbrev pub Entry : Type 0
Entry = List ℕ × ℕ

abbrev pub is_below : Entry → Entry → Bool
is_below one other = is_lt (slice_cmp nat_cmp one.0 other.0)

-- an index as the code has it
abbrev pub entry_of : Bor (List ℕ) × ℕ → Entry
entry_of entry = (entry.0.now, entry.1)

abbrev pub entries_of : List (Bor (List ℕ) × ℕ) → List Entry
entries_of index = map entry_of index

-- that of the table
abbrev pub index : List Entry
index = map (λ entry. (entry.0.now, entry.1)) INDEX

-- some entry has this name and this line
pub record IsEntryOf (index : List Entry) (name : List ℕ) (line : ℕ) : Type 0 where
  pub at : ℕ
  pub within : at < length index
  pub holds : HoldsAt (λ entry. (entry.0 ≡ name) × (entry.1 ≡ line)) index at
