-- Linking (JVM Specification 5.4.1): the code of a class, and of all that it inherits from, keeps its static constraints.
use Rattle.std.specs.Prelude.{ℕ, List, Option, Some, None, Result, Ok, Err}
use Rattle.mvm_base.specs.Answers.{◌>>=◌}
use Rattle.mvm_layout.specs.declared.parts.Parts.{Parts}
use Rattle.mvm_check.specs.Check.{check_of}
use Rattle.mvm_check.specs.declared.fault.CheckFault.{CheckFault}
use Rattle.mvm_set.specs.Family.{Family, file, fault_in}
use Rattle.mvm_set.specs.Once.{first}
use Rattle.mvm_set.specs.declared.own.OwnWalk.{OwnWalk}
use Rattle.mvm_table.specs.Files.{File}
use Rattle.mvm_table.specs.Load.{load}
use Rattle.mvm_table.specs.declared.fault.LoadFault.{LoadFault}
use Rattle.mvm_table.specs.declared.fault.LoadFault.TheVariants.{Check}

abbrev pub fault_told : Result (Unit {0}) CheckFault → Option LoadFault
fault_told (Ok sound) = None
fault_told (Err fault) = Some (Check fault)

-- the first fault of a file's code, if it has one
abbrev pub code_fault : Parts → Option LoadFault
code_fault file = fault_told (check_of file)

abbrev pub or_sound : Option LoadFault → Result (Unit {0}) LoadFault
or_sound (Some fault) = Err fault
or_sound None = Ok tt

-- the code of the class, then that of its superclass by this rule, then that of its direct superinterfaces in order by this rule
unfoldable pub linked_family : Family → Result (Unit {0}) LoadFault
linked_family one = or_sound (fault_in (λ other. code_fault (file other)) one)

-- the class of a name among these files and the built-in classes is linked, or the first fault
unfoldable pub linked : List File → List ℕ → Result (Unit {0}) LoadFault
linked files name = load files name >>= linked_family

-- ---- the same over the order of verification, in which each class stands once

abbrev pub linked_files : List OwnWalk → Result (Unit {0}) LoadFault
linked_files owns = or_sound (first (λ own. code_fault own.file) owns)
