-- The first word of a line: a directive, a label with its colon, or the mnemonic of an instruction. The mnemonics and what stands
-- behind each opcode are those of the one table of mvm_insn.
use Rattle.std.specs.Prelude.{ℕ, ◌-◌, List, [], ◌∷◌, length, take, slice_index, Bool, true, false, ◌&&◌, ◌||◌, nat_lt, ◌==◌, if◌then◌else◌, Option, Some, None, codes, bytes_eq, option_map, option_and_then, unwrap_or, find, position}
use Rattle.mvm_insn.specs.Opcodes.{operands_of, mnemonic_of}
use Rattle.mvm_insn.specs.declared.table.TheConstants.{TABLE}
use Rattle.mvm_insn.specs.declared.opcodes.TheConstants as jvm
use Rattle.mvm_insn.specs.declared.table.Operands.{Operands}
use Rattle.mvm_insn.specs.declared.table.Operands.TheVariants.{Alone, ByteNumber, ShortNumber, BytePool, ShortPool, ByteLocal, Increment, ShortJump, LongJump, Table, Lookup, Invocation, Items, Dimensions, Widened, Foreign, Absent}
use Rattle.mvm_statement.specs.declared.words.Directive.{Directive}
use Rattle.mvm_statement.specs.declared.words.Directive.TheVariants.{Version, Entry, Class, Implements, Field, Method, Code, Byte, Catch, End}
use Rattle.mvm_statement.specs.declared.words.Head.{Head}
use Rattle.mvm_statement.specs.declared.words.Head.TheVariants as heads
use Rattle.mvm_statement.specs.declared.words.Shape.{Shape}
use Rattle.mvm_statement.specs.declared.words.Shape.TheVariants as shapes

-- ---- directives

abbrev pub word_of : Directive → List ℕ
word_of Version = codes "version"
word_of Entry = codes "pool"
word_of Class = codes "class"
word_of Implements = codes "implements"
word_of Field = codes "field"
word_of Method = codes "method"
word_of Code = codes "code"
word_of Byte = codes "byte"
word_of Catch = codes "catch"
word_of End = codes "end"

abbrev pub directives : List Directive
directives = Version ∷ Entry ∷ Class ∷ Implements ∷ Field ∷ Method ∷ Code ∷ Byte ∷ Catch ∷ End ∷ []

-- the directive of a word
unfoldable pub directive_of : List ℕ → Option Directive
directive_of word = find (λ directive. bytes_eq word (word_of directive)) directives

-- ---- instructions

-- what stands behind the mnemonic of an instruction on an entry of the constant pool, of two bytes
abbrev pub shape_on_pool : ℕ → Shape
shape_on_pool op =
    if op == jvm.LDC_W then shapes.Load else (
    if op == jvm.LDC2_W then shapes.LoadLong else (
    if op == jvm.NEW || op == jvm.ANEWARRAY || op == jvm.CHECKCAST || op == jvm.INSTANCEOF then shapes.OfClass else
    shapes.OfMember))

-- what stands behind a mnemonic, by what stands behind the opcode
abbrev pub shape_by : ℕ → Operands → Shape
shape_by op Alone = shapes.Plain
shape_by op ByteNumber = shapes.Push
shape_by op ShortNumber = shapes.Push
shape_by op BytePool = shapes.Load
shape_by op ShortPool = shape_on_pool op
shape_by op ByteLocal = shapes.Local
shape_by op Increment = shapes.Increment
shape_by op ShortJump = shapes.Jump
shape_by op LongJump = shapes.Jump
shape_by op Table = shapes.Table
shape_by op Lookup = shapes.Lookup
shape_by op Invocation = shapes.Invocation
shape_by op Items = shapes.Items
shape_by op Dimensions = shapes.Dimensions
shape_by op Widened = shapes.Wide
shape_by op Foreign = shapes.Unknown
shape_by op Absent = shapes.Unknown

unfoldable pub shape_of : ℕ → Shape
shape_of op = shape_by op (operands_of op)

-- the opcode of a mnemonic
unfoldable pub opcode_of : List ℕ → Option ℕ
opcode_of word = position (λ row. bytes_eq word row.0.now) TABLE

-- the mnemonic of an opcode
abbrev pub name_of : ℕ → List ℕ
name_of op = unwrap_or (mnemonic_of op) []

abbrev pub is_unknown : Shape → Bool
is_unknown shapes.Unknown = true
is_unknown _ = false

-- ---- the first word

-- what stands before the colon that a word ends in, if anything does
abbrev pub label_of : List ℕ → Option (List ℕ)
label_of word = if nat_lt 1 (length word) && slice_index word (length word - 1) == 58 then Some (take (length word - 1) word) else None

-- an instruction, if it is supported
abbrev pub instruction_head : ℕ → Option Head
instruction_head op = if is_unknown (shape_of op) then None else Some (heads.Instruction op)

abbrev pub or_else : {A : Type 0} → Option A → Option A → Option A
or_else (Some x) other = Some x
or_else None other = other

-- what a word tells as the first of a line, if anything
unfoldable pub head_of : List ℕ → Option Head
head_of word =
    or_else (option_map heads.Label (label_of word)) (
    or_else (option_map heads.Directive (directive_of word)) (
    option_and_then instruction_head (opcode_of word)))
