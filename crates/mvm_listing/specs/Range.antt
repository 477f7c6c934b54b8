-- Numbers that fit the fields of a class file for which they are meant (JVM Specification 4.1, 4.4 to 4.7, and 6.5 for instructions).
use Rattle.std.specs.Prelude.{ℕ, ℤ, pos, ◌+ℤ◌, ◌-ℤ◌, List, length, Bool, true, false, ◌&&◌, ◌||◌, nat_lt, int_le, if◌then◌else◌, Option, Some, None, codes}
use Rattle.std.specs.List.{list_all}
use Rattle.mvm_layout.specs.Pool.{text, is_text}
use Rattle.mvm_layout.specs.declared.parts.Item.{Item}
use Rattle.mvm_insn.specs.Opcodes.{operands_of}
use Rattle.mvm_insn.specs.declared.table.Operands.{Operands}
use Rattle.mvm_insn.specs.declared.table.Operands.TheVariants.{ByteNumber, BytePool, LongJump}
use Rattle.mvm_statement.specs.Numbers.{magnitude}
use Rattle.mvm_statement.specs.declared.operand.Reference.{Reference}
use Rattle.mvm_statement.specs.declared.operand.Reference.TheVariants as references
use Rattle.mvm_statement.specs.declared.operand.Member.{Member}
use Rattle.mvm_statement.specs.declared.operand.Member.TheVariants as members
use Rattle.mvm_statement.specs.declared.operand.Loadable.{Loadable}
use Rattle.mvm_statement.specs.declared.operand.Loadable.TheVariants as loadables
use Rattle.mvm_statement.specs.declared.operand.LongConstant.{LongConstant}
use Rattle.mvm_statement.specs.declared.operand.LongConstant.TheVariants as longs
use Rattle.mvm_statement.specs.declared.operand.Initial.{Initial}
use Rattle.mvm_statement.specs.declared.operand.Initial.TheVariants as initials
use Rattle.mvm_statement.specs.declared.operand.Place.{Place}
use Rattle.mvm_statement.specs.declared.pool_value.NumberKind.{NumberKind}
use Rattle.mvm_statement.specs.declared.pool_value.NumberKind.TheVariants as numbers
use Rattle.mvm_statement.specs.declared.pool_value.MixedKind.{MixedKind}
use Rattle.mvm_statement.specs.declared.pool_value.MixedKind.TheVariants as mixed
use Rattle.mvm_statement.specs.declared.pool_value.PoolValue.{PoolValue}
use Rattle.mvm_statement.specs.declared.pool_value.PoolValue.TheVariants as values
use Rattle.mvm_statement.specs.declared.instruction.Instruction.{Instruction as Line}
use Rattle.mvm_statement.specs.declared.instruction.Instruction.TheVariants as insns
use Rattle.mvm_statement.specs.declared.statement.Statement.{Statement}
use Rattle.mvm_statement.specs.declared.statement.Statement.TheVariants.{Version, Entry, Class, Implements, Field, Method, Code, Label, Instruction, Byte, Catch, End}

abbrev pub within : ℤ → ℤ → ℤ → Bool
within low high z = int_le low z && int_le z high

-- ---- numbers of so many bytes, unsigned

abbrev pub is_u1 : ℤ → Bool
is_u1 z = within (pos 0) (pos 255) z

abbrev pub is_u2 : ℤ → Bool
is_u2 z = within (pos 0) (pos 65535) z

abbrev pub is_u4 : ℤ → Bool
is_u4 z = within (pos 0) (pos 4294967295) z

abbrev pub is_u8 : ℤ → Bool
is_u8 z = within (pos 0) (pos 18446744073709551615) z

-- ---- and in two's complement

abbrev pub is_i1 : ℤ → Bool
is_i1 z = within (pos 0 -ℤ pos 128) (pos 127) z

abbrev pub is_i2 : ℤ → Bool
is_i2 z = within (pos 0 -ℤ pos 32768) (pos 32767) z

abbrev pub is_i4 : ℤ → Bool
is_i4 z = within (pos 0 -ℤ pos 2147483648) (pos 2147483647) z

abbrev pub is_i8 : ℤ → Bool
is_i8 z = within (pos 0 -ℤ pos 9223372036854775808) (pos 9223372036854775807) z

-- ---- entries of the constant pool

abbrev pub fits_number : NumberKind → ℤ → Bool
fits_number numbers.Integer n = is_i4 n
fits_number numbers.Float n = is_u4 n
fits_number numbers.Long n = is_i8 n
fits_number numbers.Double n = is_u8 n

-- the kind of a method handle is of one byte, the bootstrap method of a call site of two
abbrev pub fits_mixed : MixedKind → ℤ → Bool
fits_mixed mixed.MethodHandle n = is_u1 n
fits_mixed mixed.InvokeDynamic n = is_u2 n

abbrev pub fits_value : PoolValue → Bool
fits_value (values.Text text) = true
fits_value (values.Number kind n) = fits_number kind n
fits_value (values.Index kind n) = is_u2 n
fits_value (values.Indices kind first second) = is_u2 first && is_u2 second
fits_value (values.NumberAndIndex kind n at) = fits_mixed kind n && is_u2 at

-- ---- what stands behind an opcode, by the table of the instructions

-- a number to push, of one byte
abbrev pub pushes_byte : Operands → Bool
pushes_byte ByteNumber = true
pushes_byte _ = false

-- an entry of the constant pool, by an index of one byte
abbrev pub names_byte : Operands → Bool
names_byte BytePool = true
names_byte _ = false

-- an offset of four bytes
abbrev pub jumps_far : Operands → Bool
jumps_far LongJump = true
jumps_far _ = false

-- ---- operands

abbrev pub fits_reference : Reference → Bool
fits_reference (references.Indexed n) = is_u2 n
fits_reference (references.Named name) = true

abbrev pub fits_class : Option Reference → Bool
fits_class None = true
fits_class (Some class) = fits_reference class

abbrev pub fits_member : Member → Bool
fits_member (members.Indexed n) = is_u2 n
fits_member (members.Named class name desc) = true

-- the index of an entry, which is of one byte behind ldc
abbrev pub fits_entry : ℕ → ℤ → Bool
fits_entry op n = if names_byte (operands_of op) then is_u1 n else is_u2 n

abbrev pub fits_loadable : ℕ → Loadable → Bool
fits_loadable op (loadables.Indexed n) = fits_entry op n
fits_loadable op (loadables.Integer n) = is_i4 n
fits_loadable op (loadables.Text text) = true
fits_loadable op (loadables.Class name) = true

abbrev pub fits_long : LongConstant → Bool
fits_long (longs.Indexed n) = is_u2 n
fits_long (longs.Long n) = is_i8 n

-- the descriptor of a field of type long, by the constant pool as it stands before the line
abbrev pub is_long_text : List Item → Reference → Bool
is_long_text pool (references.Indexed n) = is_text (codes "J") (text pool (magnitude n))
is_long_text pool (references.Named name) = is_text (codes "J") (Some name)

abbrev pub fits_initial : Bool → Initial → Bool
fits_initial is_long (initials.Indexed n) = is_u2 n
fits_initial is_long (initials.Number n) = if is_long then is_i8 n else is_i4 n
fits_initial is_long (initials.Text text) = true

abbrev pub fits_constant : Bool → Option Initial → Bool
fits_constant is_long None = true
fits_constant is_long (Some x) = fits_initial is_long x

-- ---- instructions

-- an instruction on a local variable is written with `wide`, since the line says so or its index needs it
abbrev pub takes_wide : Bool → ℤ → Bool
takes_wide wide local = wide || nat_lt 255 (magnitude local)

-- the key of the last row of a tableswitch
abbrev pub highest : ℤ → List Place → ℤ
highest low targets = (low +ℤ pos (length targets)) -ℤ pos 1

-- of places it is not asked here: what a label stands for is not known yet
abbrev pub fits_instruction : Line → Bool
fits_instruction (insns.Plain op) = true
fits_instruction (insns.Push op n) = if pushes_byte (operands_of op) then is_i1 n else is_i2 n
fits_instruction (insns.Load op x) = fits_loadable op x
fits_instruction (insns.LoadLong op x) = fits_long x
fits_instruction (insns.OfClass op class) = fits_reference class
fits_instruction (insns.OfMember op member) = fits_member member
fits_instruction (insns.Local op n wide) = is_u2 n
fits_instruction (insns.Increment op n by wide) = is_u2 n && (if takes_wide wide n then is_i2 by else is_i1 by)
fits_instruction (insns.Jump op target) = true
fits_instruction (insns.Table op low targets otherwise) = is_i4 low && is_i4 (highest low targets)
fits_instruction (insns.Lookup op rows otherwise) = list_all (λ row. is_i4 row.key) rows
fits_instruction (insns.Invocation op member count) = fits_member member && is_u1 count
fits_instruction (insns.Items op kind) = is_u1 kind
fits_instruction (insns.Dimensions op class count) = fits_reference class && is_u1 count

-- ---- lines

-- each number of the line fits its field
abbrev pub fits : List Item → Statement → Bool
fits pool (Version minor major) = is_u2 minor && is_u2 major
fits pool (Entry n value) = is_u2 n && fits_value value
fits pool (Class flags this super) = is_u2 flags && (fits_reference this && fits_class super)
fits pool (Implements interface) = fits_reference interface
fits pool (Field flags name desc constant) = is_u2 flags && (fits_reference name && (fits_reference desc && fits_constant (is_long_text pool desc) constant))
fits pool (Method flags name desc) = is_u2 flags && (fits_reference name && fits_reference desc)
fits pool (Code max_stack max_locals) = is_u2 max_stack && is_u2 max_locals
fits pool (Label name) = true
fits pool (Instruction line) = fits_instruction line
fits pool (Byte n) = is_u1 n
fits pool (Catch start end handler class) = fits_class class
fits pool End = true
