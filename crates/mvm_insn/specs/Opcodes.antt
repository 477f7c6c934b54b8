-- What is known of an opcode (JVM Specification 6.5): its row of the one table, src/table.rt.
use Rattle.std.specs.Prelude.{ℕ, nat_le, ◌&&◌, ◌||◌, ◌==◌, Bool, List, map, slice_get, Option, unwrap_or}
use Rattle.mvm_insn.specs.declared.opcodes.TheConstants as jvm
use Rattle.mvm_insn.specs.declared.table.Operands.{Operands}
use Rattle.mvm_insn.specs.declared.table.Operands.TheVariants.{Absent}
use Rattle.mvm_insn.specs.declared.table.TheConstants.{TABLE}

-- the opcodes from one to another, both of them in
abbrev pub between : ℕ → ℕ → ℕ → Bool
between low high op = nat_le low op && nat_le op high

-- iload, lload, aload, istore, lstore and astore: the loads and stores that name the local variable
abbrev pub names_local : ℕ → Bool
names_local op = op == jvm.ILOAD || op == jvm.LLOAD || op == jvm.ALOAD || op == jvm.ISTORE || op == jvm.LSTORE || op == jvm.ASTORE

-- the columns of the table
abbrev pub all_mnemonics : List (List ℕ)
all_mnemonics = map (λ row. row.0.now) TABLE

abbrev pub all_operands : List Operands
all_operands = map (λ row. row.1) TABLE

-- what stands behind an opcode; behind the last row there is no instruction
unfoldable pub operands_of : ℕ → Operands
operands_of op = unwrap_or (slice_get all_operands op) Absent

-- the mnemonic of an opcode
unfoldable pub mnemonic_of : ℕ → Option (List ℕ)
mnemonic_of op = slice_get all_mnemonics op
