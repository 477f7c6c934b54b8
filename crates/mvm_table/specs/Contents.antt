-- What a table stands for.
use Rattle.std.specs.Str.{bytes_eq}
use Rattle.mvm_set.specs.Names.{own_name}
use Rattle.std.specs.Prelude.{◌≡◌, ◌<◌, ◌^◌, ◌==◌, ◌&&◌, if◌then◌else◌, option_and_then, true, ℕ, List, [], ◌∷◌, length, slice_get, slice_set, Bool, is_some, Option, Some, None, All, Ok}
use Rattle.mvm_set.specs.declared.class.Lineage.{Lineage}
use Rattle.mvm_table.specs.Files.{File}
use Rattle.mvm_table.specs.Loads.{class_in}
use Rattle.mvm_table.specs.NameMap.{Rows, row, without}
use Rattle.mvm_table.specs.declared.source.SourceRow.{SourceRow}

-- of each set its files, and the classes that stand on its shelf
pub record Contents : Type 0 where
  pub files : List (List File)
  pub shelves : List (Rows Lineage)

abbrev pub or_empty : {X : Type 0} → Option (Rows X) → Rows X
or_empty (Some rows) = rows
or_empty None = []

-- the shelf of a set
abbrev pub shelf_of : {X : Type 0} → ℕ → List (Rows X) → Rows X
shelf_of set shelves = or_empty (slice_get shelves set)

-- a class of this name stands on the shelf of a set
abbrev pub is_shelved : Contents → ℕ → List ℕ → Bool
is_shelved table set name = is_some (row name (shelf_of set table.shelves))

-- a class stands on the shelf of its set
abbrev pub stands : Contents → Lineage → Bool
stands table class = is_some (option_and_then (λ name. row name (shelf_of class.set table.shelves)) (own_name class.file))

-- what stood on a shelf stays
abbrev pub Stay : Contents → Contents → Type 0
Stay old new = (set : ℕ) (name : List ℕ) → is_shelved old set name ≡ true → is_shelved new set name ≡ true

-- a class stands under its name on the shelf of a set, besides what stood there
abbrev pub PutsOn : List (Rows Lineage) → ℕ → List ℕ → Lineage → List (Rows Lineage) → Type 0
PutsOn old set name class new =
    (other_set : ℕ) (other : List ℕ) → row other (shelf_of other_set new) ≡ (if (other_set == set) && bytes_eq other name then Some class else row other (shelf_of other_set old))

-- ---- classes taken off again

abbrev pub off_name : Option (List ℕ) → ℕ → List (Rows Lineage) → List (Rows Lineage)
off_name (Some name) set shelves = slice_set shelves set (without name (shelf_of set shelves))
off_name None set shelves = shelves

-- a class is taken off the shelf of its set
abbrev pub off : Lineage → List (Rows Lineage) → List (Rows Lineage)
off class shelves = off_name (own_name class.file) class.set shelves

-- these are, the last of them first
abbrev pub all_off : List Lineage → List (Rows Lineage) → List (Rows Lineage)
all_off [] shelves = shelves
all_off (class ∷ classes) shelves = off class (all_off classes shelves)

-- ---- what every table keeps

-- each class on a shelf is the one that loading gives for its name
pub record AreShelved (files : List (List File)) (shelves : List (Rows Lineage)) : Type 0 where
  pub each : (set : ℕ) (name : List ℕ) (class : Lineage) → row name (shelf_of set shelves) ≡ Some class → class_in files set name ≡ Ok class

-- the bytes of each source can be counted in 32 bits
abbrev pub AreShort : List SourceRow → Type 0
AreShort sources = All (λ source. length source.bytes < 2 ^ 32) sources

-- no class stands on a shelf
abbrev pub AreEmpty : List (Rows Lineage) → Type 0
AreEmpty shelves = (set : ℕ) → shelf_of set shelves ≡ []
