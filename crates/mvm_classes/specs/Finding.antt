-- What is found of the class of a name.
use Rattle.std.specs.Prelude.{◌≡◌, ◌≢◌, ◌<◌, ◌≤◌, ℕ, List, length, Some, Ok, Err, ⊤}
use Rattle.mvm_set.specs.Names.{own_name}
use Rattle.mvm_set.specs.declared.class.Lineage.{Lineage}
use Rattle.mvm_table.specs.Files.{File, files_in}
use Rattle.mvm_table.specs.Link.{linked}
use Rattle.mvm_table.specs.Loads.{class_in, IsLoaded}
use Rattle.mvm_table.specs.Resolve.{resolve}
use Rattle.mvm_table.specs.declared.fault.LoadFault.TheVariants as load_fault
use Rattle.mvm_table.specs.declared.resolved.Resolved.{Resolved}
use Rattle.mvm_classes.specs.declared.finding.Finding.{Finding}
use Rattle.mvm_classes.specs.declared.finding.Finding.TheVariants.{Linked, Unlinked, Unloaded, OutOfMemory}

-- What a finding says of a name in the first set of a table: loading it gives this class, which links; or this class, and linking it has this first
-- fault; or loading it has this first fault. Want of memory says nothing, and is told as neither kind of fault.
abbrev pub Finds : List (List File) → List ℕ → Finding → Type 0
Finds table name (Linked class) = (class_in table 0 name ≡ Ok class) × ((own : List ℕ) → own_name class.file ≡ Some own → linked (files_in class.set table) own ≡ Ok tt)
Finds table name (Unlinked class fault) =
    (fault ≢ load_fault.OutOfMemory) × (class_in table 0 name ≡ Ok class)
    × ((own : List ℕ) → own_name class.file ≡ Some own → linked (files_in class.set table) own ≡ Err fault)
Finds table name (Unloaded fault) = (fault ≢ load_fault.OutOfMemory) × (class_in table 0 name ≡ Err fault)
Finds table name OutOfMemory = ⊤

-- the class of a finding was loaded
abbrev pub AllLoaded : List (List File) → Finding → Type 0
AllLoaded table (Linked class) = IsLoaded table class
AllLoaded table (Unlinked class fault) = IsLoaded table class
AllLoaded table _ = ⊤

-- an entry of the constant pool of a class stands for something
abbrev pub Resolves : List (List File) → Lineage → ℕ → Type 0
Resolves table class index = (found : Resolved) × (resolve table class index ≡ Ok found)

-- and so does each
abbrev pub ResolvesAll : List (List File) → Lineage → Type 0
ResolvesAll table class = (index : ℕ) → 0 < index → index ≤ length class.file.pool → Resolves table class index

-- the class of the name loads and links, and each entry of its constant pool stands for something
abbrev pub Links : List (List File) → List ℕ → Type 0
Links table name = (class : Lineage) × Finds table name (Linked class) × ResolvesAll table class
