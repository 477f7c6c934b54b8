-- What a load reads: a step for each byte of a file, each file once, and none of a class that stands on the shelf.
use Rattle.std.specs.Prelude.{◌≡◌, ◌≤◌, ◌+◌, ◌⊎◌, ℕ, List, [], ◌∷◌, length, true, false, if◌then◌else◌, Option, Some, None, Result, Ok, Err}
use Rattle.mvm_layout.specs.declared.parts.Parts.{Parts}
use Rattle.mvm_builtin.specs.Classes.{builtin}
use Rattle.mvm_set.specs.ClassOf.{own_walk_name}
use Rattle.mvm_set.specs.Names.{superclass, superinterfaces, with_name}
use Rattle.mvm_set.specs.declared.class.Lineage.{Lineage}
use Rattle.mvm_table.specs.Contents.{Contents, is_shelved}
use Rattle.mvm_table.specs.Files.{File, bytes_of, files_in}
use Rattle.mvm_table.specs.Load.{is_in, found}
use Rattle.mvm_table.specs.Begun.{is_met}
use Rattle.mvm_table.specs.NameMap.{Rows}
use Rattle.mvm_table.specs.Work.{unpassed}
use Rattle.mvm_table.specs.declared.fault.LoadFault.{LoadFault}

abbrev pub size_of : Option Parts → Option (List ℕ) → ℕ
size_of (Some built) bytes = 0
size_of None (Some bytes) = length bytes
size_of None None = 0

-- the bytes that are read for the class of a name; a built-in class has no file
abbrev pub cost : List File → List ℕ → ℕ
cost files name = size_of (builtin name) (bytes_of name files)

-- what a load has to read for the class of a name in a set: nothing where it stands on the shelf
abbrev pub to_read : Contents → ℕ → List ℕ → ℕ
to_read table set name = if is_shelved table set name then 0 else cost (files_in set table.files) name

-- what it has to read for all of these
abbrev pub costs : (List ℕ → ℕ) → List (List ℕ) → ℕ
costs weight [] = 0
costs weight (name ∷ names) = weight name + costs weight names

-- the names of those in a list that have one
abbrev pub names_by : {A : Type 0} → (A → Option (List ℕ)) → List A → List (List ℕ)
names_by name [] = []
names_by name (item ∷ items) = with_name (name item) (names_by name items)

-- the names of a class and of all that it inherits from
abbrev pub walk_names : Lineage → List (List ℕ)
walk_names class = names_by own_walk_name class.walk

-- ---- names that have all supers

-- no name stands twice
abbrev pub AreApart : List (List ℕ) → Type 0
AreApart [] = Unit {0}
AreApart (name ∷ names) = (is_in names name ≡ false) × AreApart names

-- a super of the class of this file
abbrev pub IsSuper : Parts → List ℕ → Type 0
IsSuper file super = (is_in (superclass file) super ≡ true) ⊎ (is_in (superinterfaces file) super ≡ true)

-- each of these names stands there once, and with each the names of its supers
pub record HasSupers (files : List File) (names : List (List ℕ)) : Type 0 where
  pub apart : AreApart names
  pub supers : (name super : List ℕ) (file : Parts) → is_in names name ≡ true → found files name ≡ Ok file → IsSuper file super → is_in names super ≡ true

-- ---- a load that is under way

-- all names that were met are among these
abbrev pub AreAmong : Rows (Option Lineage) → List (List ℕ) → Type 0
AreAmong met names = (name : List ℕ) → is_met met name ≡ true → is_in names name ≡ true

-- what it has to read for those of the names that were not met
abbrev pub left : (List ℕ → ℕ) → Rows (Option Lineage) → List (List ℕ) → ℕ
left weight met names = unpassed weight (is_met met) names

-- what one step of a load reads is not left to be read
abbrev pub Reads : (List ℕ → ℕ) → List (List ℕ) → Result (Option Lineage) LoadFault → Rows (Option Lineage) → ℕ → Rows (Option Lineage) → ℕ → Type 0
Reads weight names (Ok found) old before new after = AreAmong new names × (after + left weight new names ≡ before + left weight old names)
Reads weight names (Err fault) old before new after = after ≤ before + left weight old names
