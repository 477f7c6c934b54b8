-- What is wrong with the bytes of a class file.
use Rattle.std.specs.Prelude.{◌≡◌, ◌≢◌, ℕ, List, Some, Ok, Err, ⊤}
use Rattle.mvm_layout.specs.declared.fault.ClassFault.TheVariants as class_fault
use Rattle.mvm_layout.specs.declared.parts.Parts.{Parts}
use Rattle.mvm_classfile.specs.Reading.{Reads, fault_of}
use Rattle.mvm_check.specs.Check.{check_of}
use Rattle.mvm_check.specs.declared.fault.CheckFault.TheVariants as check_fault
use Rattle.mvm_inspect.specs.declared.inspect.Finding.{Finding}
use Rattle.mvm_inspect.specs.declared.inspect.Finding.TheVariants.{Sound, Class, Code, OutOfMemory}

-- What a finding says of the bytes: they read as a class file whose code is sound; or this is their first fault; or they read as a class
-- file, and this is the first fault of its code. Want of memory says nothing, and is told as neither kind of fault.
abbrev pub Finds : List ℕ → Finding → Type 0
Finds bytes Sound = (parts : Parts) × Reads bytes parts × (check_of parts ≡ Ok tt)
Finds bytes (Class fault) = (fault ≢ class_fault.OutOfMemory) × (fault_of bytes ≡ Some fault)
Finds bytes (Code fault) = (fault ≢ check_fault.OutOfMemory) × ((parts : Parts) × Reads bytes parts × (check_of parts ≡ Err fault))
Finds bytes OutOfMemory = ⊤
