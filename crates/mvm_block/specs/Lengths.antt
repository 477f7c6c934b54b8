-- How many bytes an instruction has, by its shape.
use Rattle.std.specs.Prelude.{ℕ, ◌+◌, ◌*◌, ◌-◌, ◌%◌, length, if◌then◌else◌}
use Rattle.mvm_insn.specs.Opcodes.{operands_of}
use Rattle.mvm_statement.specs.declared.instruction.Instruction.{Instruction}
use Rattle.mvm_statement.specs.declared.instruction.Instruction.TheVariants.{Plain, Push, Load, LoadLong, OfClass, OfMember, Local, Increment, Jump, Table, Lookup, Invocation, Items, Dimensions}
use Rattle.mvm_listing.specs.Range.{pushes_byte, names_byte, jumps_far, takes_wide}

abbrev pub line_length : ℕ → Instruction → ℕ
line_length at (Plain op) = 1
line_length at (Push op n) = if pushes_byte (operands_of op) then 2 else 3
line_length at (Load op x) = if names_byte (operands_of op) then 2 else 3
line_length at (LoadLong op x) = 3
line_length at (OfClass op class) = 3
line_length at (OfMember op member) = 3
line_length at (Local op n wide) = if takes_wide wide n then 4 else 2
line_length at (Increment op n by wide) = if takes_wide wide n then 6 else 3
line_length at (Jump op target) = if jumps_far (operands_of op) then 5 else 3
line_length at (Table op low targets otherwise) = 13 + (3 - at % 4) + 4 * length targets
line_length at (Lookup op rows otherwise) = 9 + (3 - at % 4) + 8 * length rows
line_length at (Invocation op member count) = 5
line_length at (Items op kind) = 2
line_length at (Dimensions op class count) = 4
