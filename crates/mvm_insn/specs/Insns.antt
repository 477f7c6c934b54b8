-- The instruction that stands at a place of a method's code (JVM Specification 6.5 and 4.7.3).
use Rattle.std.specs.Prelude.{ℕ, ◌+◌, ◌-◌, ◌*◌, ◌%◌, ◌^◌, ℤ, pos, negsuc, ◌+ℤ◌, ◌-ℤ◌, List, drop, Bool, true, false, nat_lt, ◌==◌, ◌||◌, if◌then◌else◌, Result, Ok, Err}
use Rattle.std.specs.Int.{w8, w16, w32}
use Rattle.mvm_base.specs.Answers.{◌>>=◌}
use Rattle.mvm_base.specs.Place.{Place}
use Rattle.mvm_insn.specs.Readers.{bytes, number, signed}
use Rattle.mvm_insn.specs.Rows.{SwitchParts, rows, table_row, lookup_row, word, rising}
use Rattle.mvm_insn.specs.Opcodes.{names_local, operands_of}
use Rattle.mvm_insn.specs.declared.fault.InsnFault.{InsnFault}
use Rattle.mvm_insn.specs.declared.fault.InsnFault.TheVariants.{Unknown, Unsupported, Switch}
use Rattle.mvm_insn.specs.declared.insn.Insn.{Insn}
use Rattle.mvm_insn.specs.declared.insn.Insn.TheVariants.{Plain, Number, Pool, Local, Inc, Jump, Choice, Interface, NewArray, Multi}
use Rattle.mvm_insn.specs.declared.opcodes.TheConstants as jvm
use Rattle.mvm_insn.specs.declared.insn.At.{At}
use Rattle.mvm_insn.specs.declared.table.Operands.{Operands}
use Rattle.mvm_insn.specs.declared.table.Operands.TheVariants.{Alone, ByteNumber, ShortNumber, BytePool, ShortPool, ByteLocal, Increment, ShortJump, LongJump, Table, Lookup, Invocation, Items, Dimensions, Widened, Foreign, Absent}

-- an instruction and the place behind it, or a fault
abbrev pub Read : Type 0
Read = Result (Insn × Place) InsnFault

-- bipush
unfoldable pub byte_number : ℕ → Place → Read
byte_number op p = signed 1 w8 p >>= λ n. Ok (Number op n.0, n.1)

-- sipush
unfoldable pub short_number : ℕ → Place → Read
short_number op p = signed 2 w16 p >>= λ n. Ok (Number op n.0, n.1)

-- ldc: an entry of the constant pool
unfoldable pub byte_pool : ℕ → Place → Read
byte_pool op p = number 1 p >>= λ n. Ok (Pool op n.0, n.1)

-- ldc_w, ldc2_w, getstatic, putstatic, getfield, putfield, invokevirtual, invokespecial, invokestatic, new, anewarray, checkcast, instanceof
unfoldable pub short_pool : ℕ → Place → Read
short_pool op p = number 2 p >>= λ n. Ok (Pool op n.0, n.1)

-- iload, lload, aload, istore, lstore, astore: a local variable
unfoldable pub byte_local : ℕ → Place → Read
byte_local op p = number 1 p >>= λ n. Ok (Local op n.0 false, n.1)

-- the same behind wide
unfoldable pub short_local : ℕ → Place → Read
short_local op p = number 2 p >>= λ n. Ok (Local op n.0 true, n.1)

-- iinc: a local variable, and what to add to it
unfoldable pub increment : Place → Read
increment p = number 1 p >>= λ n. signed 1 w8 n.1 >>= λ by. Ok (Inc n.0 by.0 false, by.1)

-- iinc behind wide
unfoldable pub wide_increment : Place → Read
wide_increment p = number 2 p >>= λ n. signed 2 w16 n.1 >>= λ by. Ok (Inc n.0 by.0 true, by.1)

-- ifeq to if_acmpne, goto, ifnull, ifnonnull: a branch, whose offset is counted from the place of the opcode
unfoldable pub short_jump : ℕ → ℕ → Place → Read
short_jump pc op p = signed 2 w16 p >>= λ n. Ok (Jump op (pos pc +ℤ n.0), n.1)

-- goto_w
unfoldable pub long_jump : ℕ → ℕ → Place → Read
long_jump pc op p = signed 4 w32 p >>= λ n. Ok (Jump op (pos pc +ℤ n.0), n.1)

-- invokeinterface: an entry of the constant pool, a count and a byte that is to be 0
unfoldable pub invocation : Place → Read
invocation p = number 2 p >>= λ n. number 1 n.1 >>= λ count. number 1 count.1 >>= λ last. Ok (Interface n.0 count.0 last.0, last.1)

-- newarray: the kind of the items
unfoldable pub items : Place → Read
items p = number 1 p >>= λ kind. Ok (NewArray kind.0, kind.1)

-- multianewarray: an entry of the constant pool and the count of the dimensions
unfoldable pub dimensions : Place → Read
dimensions p = number 2 p >>= λ n. number 1 n.1 >>= λ dims. Ok (Multi n.0 dims.0, dims.1)

-- what stands behind wide and the opcode behind it
unfoldable pub widened_by : ℕ → Place → Read
widened_by op p =
    if names_local op then short_local op p else (
    if op == jvm.IINC then wide_increment p else (
    if op == jvm.FLOAD || op == jvm.DLOAD || op == jvm.FSTORE || op == jvm.DSTORE || op == jvm.RET then Err (Unsupported op) else
    Err (Unknown op)))

-- wide: an opcode, and its operands in twice the width
unfoldable pub widened : Place → Read
widened p = number 1 p >>= λ op. widened_by op.0 op.1

-- how many rows lie between two keys, both of them in
abbrev pub counted : ℤ → Result ℕ InsnFault
counted (pos n) = Ok (n + 1)
counted (negsuc n) = Err Switch

-- the bytes up to the next place that four divides, behind an opcode at a place, are passed over
abbrev pub aligned : ℕ → Place → Result Place InsnFault
aligned pc p = bytes (3 - pc % 4) p >>= λ text. Ok text.1

-- the rows of a tableswitch, whose keys stand from the lowest to the highest
unfoldable pub table_rows : ℕ → ℤ → ℤ → ℤ → Place → Result (SwitchParts × Place) InsnFault
table_rows pc otherwise low high p =
    counted (high -ℤ low) >>= λ count.
    bytes (4 * count) p >>= λ text.
    Ok (record { otherwise = otherwise; rows = rows count (table_row pc low text.0) }, text.1)

-- where to go for a key of no row, the lowest and the highest key, and the rows
unfoldable pub table_parts : ℕ → Place → Result (SwitchParts × Place) InsnFault
table_parts pc p =
    signed 4 w32 p >>= λ offset.
    signed 4 w32 offset.1 >>= λ low.
    signed 4 w32 low.1 >>= λ high.
    table_rows pc (pos pc +ℤ offset.0) low.0 high.0 high.1

-- tableswitch
unfoldable pub table : ℕ → Place → Result (SwitchParts × Place) InsnFault
table pc p = aligned pc p >>= λ q. table_parts pc q

-- the rows, if their keys rise
abbrev pub sorted : Bool → SwitchParts × Place → Result (SwitchParts × Place) InsnFault
sorted true x = Ok x
sorted false x = Err Switch

-- the rows of a lookupswitch, whose keys rise; a count of 2 ^ 31 and above is a negative number
unfoldable pub lookup_rows : ℕ → ℤ → ℕ → Place → Result (SwitchParts × Place) InsnFault
lookup_rows pc otherwise count p =
    if nat_lt count (2 ^ 31) then (
    bytes (8 * count) p >>= λ text.
    sorted (rising (count - 1) (λ i. word text.0 (2 * i))) (record { otherwise = otherwise; rows = rows count (lookup_row pc text.0) }, text.1))
    else Err Switch

-- where to go for a key of no row, the count of the rows, and the rows
unfoldable pub lookup_parts : ℕ → Place → Result (SwitchParts × Place) InsnFault
lookup_parts pc p =
    signed 4 w32 p >>= λ offset.
    number 4 offset.1 >>= λ count.
    lookup_rows pc (pos pc +ℤ offset.0) count.0 count.1

-- lookupswitch
unfoldable pub lookup : ℕ → Place → Result (SwitchParts × Place) InsnFault
lookup pc p = aligned pc p >>= λ q. lookup_parts pc q

-- a switch as an instruction
abbrev pub chosen : ℕ → Result (SwitchParts × Place) InsnFault → Read
chosen op (Ok x) = Ok (Choice op x.0, x.1)
chosen op (Err fault) = Err fault

-- what stands behind an opcode at a place
unfoldable pub operands : ℕ → ℕ → Operands → Place → Read
operands pc op Alone p = Ok (Plain op, p)
operands pc op ByteNumber p = byte_number op p
operands pc op ShortNumber p = short_number op p
operands pc op BytePool p = byte_pool op p
operands pc op ShortPool p = short_pool op p
operands pc op ByteLocal p = byte_local op p
operands pc op Increment p = increment p
operands pc op ShortJump p = short_jump pc op p
operands pc op LongJump p = long_jump pc op p
operands pc op Table p = chosen op (table pc p)
operands pc op Lookup p = chosen op (lookup pc p)
operands pc op Invocation p = invocation p
operands pc op Items p = items p
operands pc op Dimensions p = dimensions p
operands pc op Widened p = widened p
operands pc op Foreign p = Err (Unsupported op)
operands pc op Absent p = Err (Unknown op)

-- an instruction and the place behind it
abbrev pub located : Read → Result At InsnFault
located (Ok x) = Ok (record { insn = x.0; next = x.1.at })
located (Err fault) = Err fault

-- an opcode and what stands behind it
unfoldable pub read_at : ℕ → Place → Read
read_at pc p = number 1 p >>= λ op. operands pc op.0 (operands_of op.0) op.1

-- the instruction at a place of a method's code, and the place behind it
unfoldable pub insn : List ℕ → ℕ → Result At InsnFault
insn code pc = located (read_at pc (record { at = pc; rest = drop pc code }))
