-- What a call answered, against what a definition reads.
use Rattle.std.specs.Prelude.{◌≡◌, ◌≢◌, Option, Some, None, Result, Ok, Err}
use Rattle.mvm_statement.specs.declared.fault.AsmKind.{AsmKind}
use Rattle.mvm_statement.specs.declared.fault.AsmKind.TheVariants as kinds
use Rattle.mvm_statement.specs.declared.fault.LineFault.{LineFault}
use Rattle.mvm_statement.specs.declared.fault.LineFault.TheVariants as faults
use Rattle.mvm_statement.specs.declared.fault.Unread.{Unread}
use Rattle.mvm_statement.specs.declared.fault.Unread.TheVariants.{OutOfMemory}

-- the definition reads the value, or, but for want of memory, none
abbrev pub Reads : {A : Type 0} → Result A Unread → Option A → Type 0
Reads (Ok x) definition = definition ≡ Some x
Reads (Err fault) definition = fault ≢ OutOfMemory → definition ≡ None

-- the line says the value or has the fault; of want of memory nothing is said
abbrev pub Says : {A : Type 0} → Result A LineFault → Result A AsmKind → Type 0
Says (Ok x) definition = definition ≡ Ok x
Says (Err faults.Word) definition = definition ≡ Err kinds.Word
Says (Err faults.Operand) definition = definition ≡ Err kinds.Operand
Says (Err faults.OutOfMemory) definition = Unit {0}
