-- What an attempt looks up of classes, each time by name (JVM Specification, chapter 5). It is a parameter of every rule that needs a class, so
-- that what shares values that were looked up before keeps these rules.
use Rattle.std.specs.Prelude.{ℕ, List, Bool, false, ◌&&◌, Option, Some, None, Result, Ok, Err}
use Rattle.std.specs.List.{list_any}
use Rattle.mvm_base.specs.Answers.{◌>>=◌}
use Rattle.mvm_set.specs.Access.{is_subclass}
use Rattle.mvm_set.specs.Names.{is_called}
use Rattle.mvm_set.specs.declared.class.Lineage.{Lineage}
use Rattle.mvm_table.specs.Files.{File, files_in}
use Rattle.mvm_table.specs.Link.{linked}
use Rattle.mvm_table.specs.Loads.{class_in}
use Rattle.mvm_table.specs.Resolve.{resolve}
use Rattle.mvm_table.specs.declared.fault.LoadFault.{LoadFault}
use Rattle.mvm_table.specs.declared.resolved.Resolved.{Resolved}

pub record Look : Type 0 where
  -- the class of a name (5.3)
  pub class : List ℕ → Result Lineage LoadFault
  -- the entry of an index of the constant pool of the class of a name, resolved (5.4.3)
  pub entry : List ℕ → ℕ → Result Resolved LoadFault
  -- the code of the class of a name and of all that it inherits from keeps its static constraints (5.4.1)
  pub linked : List ℕ → Result (Unit {0}) LoadFault

-- the values that the definitions give, on the files of a set
unfoldable pub look_in : List (List File) → ℕ → Look
look_in table set = record {
  class = class_in table set;
  entry = λ name index. class_in table set name >>= λ class. resolve table class index;
  linked = linked (files_in set table);
}

-- ---- what a class that was looked up says

abbrev pub is_below : List ℕ → Result Lineage LoadFault → Bool
is_below target (Ok class) = is_subclass class target
is_below target (Err fault) = false

-- the class of a name is that class, or inherits from it
unfoldable pub is_sub : Look → List ℕ → List ℕ → Bool
is_sub look name target = is_below target (look.class name)

abbrev pub is_in_line : List ℕ → Result Lineage LoadFault → Bool
is_in_line target (Ok class) = list_any (λ own. is_called target own.file) class.line
is_in_line target (Err fault) = false

-- the class of a name is that class, or has it as a superclass
unfoldable pub extends : Look → List ℕ → List ℕ → Bool
extends look name target = is_in_line target (look.class name)
