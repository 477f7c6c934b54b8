-- What each command makes of the bytes that it reads, and why it refuses them.
use Rattle.std.specs.Prelude.{◌≡◌, ◌≢◌, ℕ, ◌⊎◌, List, [], ◌∷◌, Some, Ok, Err, true, false, ⊤}
use Rattle.mvm_layout.specs.declared.fault.ClassFault.{ClassFault}
use Rattle.mvm_layout.specs.declared.fault.ClassFault.TheVariants as class_fault
use Rattle.mvm_layout.specs.Pool.{class_name}
use Rattle.mvm_layout.specs.declared.parts.Parts.{Parts}
use Rattle.mvm_classfile.specs.Reading.{Reads, fault_of}
use Rattle.mvm_classfile.specs.Writing.{written}
use Rattle.mvm_listing.specs.declared.fault.AsmFault.TheVariants as asm_fault
use Rattle.mvm_listing.specs.Assembly.{class_of}
use Rattle.mvm_listing.specs.Disassembly.{disassembly}
use Rattle.mvm.specs.Alone.{runs_alone}
use Rattle.mvm.specs.Report.{report_text}
use Rattle.mvm.specs.Running.{RunsTo}
use Rattle.mvm.specs.declared.outcome.Block.{Block}
use Rattle.mvm.specs.declared.outcome.Outcome.{Outcome}
use Rattle.mvm.specs.declared.outcome.What.{What}
use Rattle.mvm.specs.declared.outcome.What.TheVariants.{Ran, Made}
use Rattle.mvm.specs.declared.refusal.Refusal.{Refusal}
use Rattle.mvm.specs.declared.refusal.Refusal.TheVariants.{Class, Assembly}
use Rattle.mvm.specs.declared.words.Command.{Command}
use Rattle.mvm.specs.declared.words.Command.TheVariants.{Run, Assemble, Disassemble}

-- ---- class files

-- the bytes read as these parts of a class file, and have no fault
pub record IsClassFile (bytes : List ℕ) (parts : Parts) : Type 0 where
  pub reads : Reads bytes parts
  pub faultless : (fault : ClassFault) → fault_of bytes ≢ Some fault

-- this is the first fault of the bytes, which read as no class file
pub record IsFaulty (bytes : List ℕ) (fault : ClassFault) : Type 0 where
  pub told : fault_of bytes ≡ Some fault
  pub unread : (parts : Parts) → ¬ Reads bytes parts

-- the bytes are a class file that runs alone
pub record IsRunnable (bytes : List ℕ) (parts : Parts) : Type 0 where
  pub class_file : IsClassFile bytes parts
  pub alone : runs_alone parts ≡ true

-- the bytes are a class file that does not run alone
pub record IsOther (bytes : List ℕ) : Type 0 where
  pub parts : Parts
  pub class_file : IsClassFile bytes parts
  pub other : runs_alone parts ≡ false

-- the bytes are a class file, and this is what is left of its run
pub record RunsBytes (bytes : List ℕ) (outcome : Outcome) : Type 0 where
  pub parts : Parts
  pub runnable : IsRunnable bytes parts
  pub name : List ℕ
  pub is_name : class_name parts.pool parts.this_class ≡ Some name
  pub block : Block
  pub run : RunsTo name bytes block
  pub only : outcome.isolates ≡ block ∷ []

-- ---- commands

-- the bytes are what the command asks for: a class file that can be run, the text of a class file, or a class file
abbrev pub Accepts : Command → List ℕ → Type 0
Accepts Run bytes = (parts : Parts) × IsRunnable bytes parts
Accepts Assemble bytes = (parts : Parts) × (class_of bytes ≡ Ok parts)
Accepts Disassemble bytes = (parts : Parts) × IsClassFile bytes parts

-- what a command makes of the bytes: its answer, and its output
abbrev pub Makes : Command → List ℕ → What → List ℕ → Type 0
Makes Run bytes (Ran outcome) output = RunsBytes bytes outcome × (output ≡ report_text outcome)
Makes Assemble bytes Made output = (parts : Parts) × (class_of bytes ≡ Ok parts) × (output ≡ written parts)
Makes Disassemble bytes Made output = (parts : Parts) × IsClassFile bytes parts × (output ≡ disassembly parts)
Makes _ bytes what output = ⊥

-- why a run refuses the bytes: they have this fault, or they are a class file that does not run alone
abbrev pub IsUnfitToRun : List ℕ → ClassFault → Type 0
IsUnfitToRun bytes fault = IsFaulty bytes fault ⊎ ((fault ≡ class_fault.Unsupported 0) × IsOther bytes)

-- why a command refuses the bytes
abbrev pub Refuses : Command → List ℕ → Refusal → Type 0
Refuses Run bytes (Class fault) = IsUnfitToRun bytes fault
Refuses Assemble bytes (Assembly fault) = class_of bytes ≡ Err fault
Refuses Disassemble bytes (Class fault) = IsFaulty bytes fault
Refuses _ bytes refusal = ⊥

-- the fault is not want of memory, which is an answer of its own
abbrev pub IsNamed : Refusal → Type 0
IsNamed (Class fault) = fault ≢ class_fault.OutOfMemory
IsNamed (Assembly fault) = (fault ≢ asm_fault.OutOfMemory) × (fault ≢ asm_fault.Refused class_fault.OutOfMemory)
IsNamed _ = ⊤
