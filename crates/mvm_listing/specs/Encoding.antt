-- The bytes of an instruction (JVM Specification 6.5), whose entry of the constant pool is known by its index.
use Rattle.std.specs.Prelude.{ℕ, ◌-◌, ◌%◌, ℤ, pos, ◌-ℤ◌, List, [], ◌∷◌, ◌++◌, length, replicate, flat_map, map, Bool, if◌then◌else◌}
use Rattle.std.specs.Int.{w8, w16, w32, cast_unsigned}
use Rattle.mvm_base.specs.Endian.{big_bytes}
use Rattle.mvm_insn.specs.Opcodes.{operands_of}
use Rattle.mvm_insn.specs.declared.opcodes.TheConstants as jvm
use Rattle.mvm_statement.specs.Numbers.{magnitude}
use Rattle.mvm_statement.specs.declared.operand.Reference.{Reference}
use Rattle.mvm_statement.specs.declared.operand.Reference.TheVariants as references
use Rattle.mvm_statement.specs.declared.operand.Member.{Member}
use Rattle.mvm_statement.specs.declared.operand.Member.TheVariants as members
use Rattle.mvm_statement.specs.declared.operand.Loadable.{Loadable}
use Rattle.mvm_statement.specs.declared.operand.Loadable.TheVariants as loadables
use Rattle.mvm_statement.specs.declared.operand.LongConstant.{LongConstant}
use Rattle.mvm_statement.specs.declared.operand.LongConstant.TheVariants as longs
use Rattle.mvm_statement.specs.declared.operand.Place.{Place}
use Rattle.mvm_statement.specs.declared.instruction.Instruction.{Instruction}
use Rattle.mvm_statement.specs.declared.instruction.Instruction.TheVariants.{Plain, Push, Load, LoadLong, OfClass, OfMember, Local, Increment, Jump, Table, Lookup, Invocation, Items, Dimensions}
use Rattle.mvm_listing.specs.declared.piece.Piece.{Piece}
use Rattle.mvm_listing.specs.declared.piece.Piece.TheVariants.{Own, OneByte}
use Rattle.mvm_listing.specs.Range.{pushes_byte, names_byte, jumps_far, takes_wide, highest}

-- ---- indices of the constant pool, which names were looked up for

abbrev pub reference_index : Reference → ℕ
reference_index (references.Indexed n) = magnitude n
reference_index (references.Named name) = 0

abbrev pub member_index : Member → ℕ
member_index (members.Indexed n) = magnitude n
member_index (members.Named class name desc) = 0

abbrev pub loadable_index : Loadable → ℕ
loadable_index (loadables.Indexed n) = magnitude n
loadable_index _ = 0

abbrev pub long_index : LongConstant → ℕ
long_index (longs.Indexed n) = magnitude n
long_index (longs.Long n) = 0

-- ---- numbers, the high byte first

abbrev pub u1 : ℕ → List ℕ
u1 n = big_bytes 1 n

abbrev pub u2 : ℕ → List ℕ
u2 n = big_bytes 2 n

abbrev pub u4 : ℕ → List ℕ
u4 n = big_bytes 4 n

-- in two's complement
abbrev pub i1 : ℤ → List ℕ
i1 z = u1 (cast_unsigned w8 z)

abbrev pub i2 : ℤ → List ℕ
i2 z = u2 (cast_unsigned w16 z)

abbrev pub i4 : ℤ → List ℕ
i4 z = u4 (cast_unsigned w32 z)

-- ---- instructions

-- the opcode and its index of a local variable, in twice the width behind wide
abbrev pub on_local : Bool → ℕ → ℕ → List ℕ → List ℕ → List ℕ
on_local wide op local narrow_rest wide_rest = if wide then jvm.WIDE ∷ op ∷ u2 local ++ wide_rest else op ∷ u1 local ++ narrow_rest

-- from an opcode at a place up to the next that four divides
abbrev pub padding : ℕ → List ℕ
padding at = replicate (3 - at % 4) 0

-- An instruction at a place, where it is known for which place each target stands.
unfoldable pub encoded : (Place → ℤ) → ℕ → Instruction → List ℕ
encoded place at (Plain op) = op ∷ []
encoded place at (Push op n) = op ∷ (if pushes_byte (operands_of op) then i1 n else i2 n)
encoded place at (Load op x) = op ∷ (if names_byte (operands_of op) then u1 (loadable_index x) else u2 (loadable_index x))
encoded place at (LoadLong op x) = op ∷ u2 (long_index x)
encoded place at (OfClass op class) = op ∷ u2 (reference_index class)
encoded place at (OfMember op member) = op ∷ u2 (member_index member)
encoded place at (Local op n wide) = on_local (takes_wide wide n) op (magnitude n) [] []
encoded place at (Increment op n by wide) = on_local (takes_wide wide n) op (magnitude n) (i1 by) (i2 by)
encoded place at (Jump op target) = op ∷ (if jumps_far (operands_of op) then i4 (place target -ℤ pos at) else i2 (place target -ℤ pos at))
encoded place at (Table op low targets otherwise) =
    op ∷ (padding at ++ (i4 (place otherwise -ℤ pos at) ++ (i4 low ++ (i4 (highest low targets) ++ flat_map (λ target. i4 (place target -ℤ pos at)) targets))))
encoded place at (Lookup op rows otherwise) =
    op ∷ (padding at ++ (i4 (place otherwise -ℤ pos at) ++ (u4 (length rows) ++ flat_map (λ row. i4 row.key ++ i4 (place row.target -ℤ pos at)) rows)))
encoded place at (Invocation op member count) = op ∷ (u2 (member_index member) ++ (u1 (magnitude count) ++ 0 ∷ []))
encoded place at (Items op kind) = op ∷ u1 (magnitude kind)
encoded place at (Dimensions op class count) = op ∷ (u2 (reference_index class) ++ u1 (magnitude count))

abbrev pub encoded_piece : (Place → ℤ) → ℕ → Piece → List ℕ
encoded_piece place at (Own line) = encoded place at line
encoded_piece place at (OneByte n) = n ∷ []

-- how long it is does not hang on its targets
abbrev pub length_of : ℕ → Piece → ℕ
length_of at piece = length (encoded_piece (λ target. pos 0) at piece)

-- where it may lead
abbrev pub targets_of : Piece → List Place
targets_of (Own (Jump op target)) = target ∷ []
targets_of (Own (Table op low targets otherwise)) = otherwise ∷ targets
targets_of (Own (Lookup op rows otherwise)) = otherwise ∷ map (λ row. row.target) rows
targets_of _ = []
