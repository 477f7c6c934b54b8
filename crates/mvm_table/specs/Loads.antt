-- What the calls that load answer.
use Rattle.std.specs.Prelude.{◌≡◌, ◌<◌, ℕ, length, List, Option, Some, None, Result, Ok, Err}
use Rattle.mvm_base.specs.Answers.{◌>>=◌}
use Rattle.mvm_set.specs.Names.{own_name}
use Rattle.mvm_set.specs.Family.{Family}
use Rattle.mvm_set.specs.ClassOf.{class_of}
use Rattle.mvm_set.specs.declared.class.Lineage.{Lineage}
use Rattle.mvm_layout.specs.declared.fault.ClassFault.{ClassFault}
use Rattle.mvm_layout.specs.declared.fault.ClassFault.TheVariants as class_fault
use Rattle.mvm_table.specs.Files.{File, files_in}
use Rattle.mvm_table.specs.Load.{load}
use Rattle.mvm_table.specs.declared.fault.LoadFault.{LoadFault}
use Rattle.mvm_table.specs.declared.fault.LoadFault.TheVariants.{Format, OutOfMemory}

-- the class of a set that stands for the one that was loaded
abbrev pub classed : ℕ → Result Family LoadFault → Result Lineage LoadFault
classed set loaded = loaded >>= λ one. Ok (class_of set one)

-- the class of a name in a set, by the files of all sets
abbrev pub class_in : List (List File) → ℕ → List ℕ → Result Lineage LoadFault
class_in table set name = classed set (load (files_in set table) name)

-- The class is the one that loading gives for its name, on the files of its set.
pub record IsLoaded (table : List (List File)) (class : Lineage) : Type 0 where
  pub name : List ℕ
  pub is_name : own_name class.file ≡ Some name
  pub is_class : class_in table class.set name ≡ Ok class
  -- its set is one of them
  pub is_set : class.set < length table

-- ---- what was loaded, by name

abbrev pub ok_of : Result Family LoadFault → Option Family
ok_of (Ok one) = Some one
ok_of (Err fault) = None

-- the class of a name, if it was loaded
abbrev pub kept_by : (List ℕ → Result Family LoadFault) → List ℕ → Option Family
kept_by load name = ok_of (load name)

-- why a class is not loaded of which the file is not read
abbrev pub unread : ClassFault → LoadFault
unread class_fault.OutOfMemory = OutOfMemory
unread fault = Format fault
