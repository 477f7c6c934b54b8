-- Instructions: what stands behind a mnemonic (JVM Specification 6.5).
use Rattle.std.specs.Prelude.{ℕ, ℤ, List, [], ◌∷◌, Bool, true, false, ◌&&◌, Option, Some, None, option_map, option_and_then}
use Rattle.mvm_insn.specs.declared.opcodes.TheConstants as jvm
use Rattle.mvm_statement.specs.Operands.{number, reference, member, loadable, long_constant, place}
use Rattle.mvm_statement.specs.Lines.{nothing, one, two, targets, rows, both_of}
use Rattle.mvm_statement.specs.Words.{shape_of, opcode_of, name_of}
use Rattle.mvm_statement.specs.declared.token.Token.{Token}
use Rattle.mvm_statement.specs.declared.token.Token.TheVariants.{Bare}
use Rattle.mvm_statement.specs.declared.operand.Place.{Place}
use Rattle.mvm_statement.specs.declared.operand.KeyRow.{KeyRow}
use Rattle.mvm_statement.specs.declared.words.Shape.{Shape}
use Rattle.mvm_statement.specs.declared.words.Shape.TheVariants as shapes
use Rattle.mvm_statement.specs.declared.instruction.Instruction.{Instruction}
use Rattle.mvm_statement.specs.declared.instruction.Instruction.TheVariants.{Plain, Push, Load, LoadLong, OfClass, OfMember, Local, Increment, Jump, Table, Lookup, Invocation, Items, Dimensions}

-- ---- as they are read

-- a tableswitch has a row at least
abbrev pub table : ℕ → ℤ → List Place × Place → Option Instruction
table op low x = elim x.0 [ [] ↦ None | t ∷ ts ↦ Some (Table op low (t ∷ ts) x.1) ]

abbrev pub table_in : ℕ → List Token → Option Instruction
table_in op [] = None
table_in op (t ∷ ts) = option_and_then (λ x. table op x.0 x.1) (both_of (number.read t) (targets.read ts))

-- behind `wide` and a mnemonic
abbrev pub widened : ℕ → Shape → List Token → Option Instruction
widened op shapes.Local ts = option_map (λ n. Local op n true) ((one number).read ts)
widened op shapes.Increment ts = option_map (λ x. Increment op x.0 x.1 true) ((two number number).read ts)
widened op _ ts = None

abbrev pub mnemonic_in : Token → Option ℕ
mnemonic_in (Bare word) = opcode_of word
mnemonic_in _ = None

abbrev pub wide_in : List Token → Option Instruction
wide_in [] = None
wide_in (t ∷ ts) = option_and_then (λ op. widened op (shape_of op) ts) (mnemonic_in t)

-- behind a mnemonic
abbrev pub instruction_in : ℕ → Shape → List Token → Option Instruction
instruction_in op shapes.Plain ts = option_map (λ x. Plain op) (nothing.read ts)
instruction_in op shapes.Push ts = option_map (Push op) ((one number).read ts)
instruction_in op shapes.Load ts = option_map (Load op) ((one loadable).read ts)
instruction_in op shapes.LoadLong ts = option_map (LoadLong op) ((one long_constant).read ts)
instruction_in op shapes.OfClass ts = option_map (OfClass op) ((one reference).read ts)
instruction_in op shapes.OfMember ts = option_map (OfMember op) ((one member).read ts)
instruction_in op shapes.Local ts = option_map (λ n. Local op n false) ((one number).read ts)
instruction_in op shapes.Increment ts = option_map (λ x. Increment op x.0 x.1 false) ((two number number).read ts)
instruction_in op shapes.Jump ts = option_map (Jump op) ((one place).read ts)
instruction_in op shapes.Table ts = table_in op ts
instruction_in op shapes.Lookup ts = option_map (λ x. Lookup op x.0 x.1) (rows.read ts)
instruction_in op shapes.Invocation ts = option_map (λ x. Invocation op x.0 x.1) ((two member number).read ts)
instruction_in op shapes.Items ts = option_map (Items op) ((one number).read ts)
instruction_in op shapes.Dimensions ts = option_map (λ x. Dimensions op x.0 x.1) ((two reference number).read ts)
instruction_in op shapes.Wide ts = wide_in ts
instruction_in op shapes.Unknown ts = None

-- ---- as they are written

-- the mnemonic, behind `wide` where it is so
abbrev pub spelled_op : Bool → ℕ → List Token → List Token
spelled_op true op ts = Bare (name_of jvm.WIDE) ∷ Bare (name_of op) ∷ ts
spelled_op false op ts = Bare (name_of op) ∷ ts

abbrev pub spelled_table : ℤ → List Place → Place → List Token
spelled_table low ts otherwise = number.spelled low ∷ targets.spelled (ts, otherwise)

abbrev pub spelled_lookup : List KeyRow → Place → List Token
spelled_lookup rs otherwise = rows.spelled (rs, otherwise)

abbrev pub op_of : Instruction → ℕ
op_of (Plain op) = op
op_of (Push op n) = op
op_of (Load op x) = op
op_of (LoadLong op x) = op
op_of (OfClass op class) = op
op_of (OfMember op x) = op
op_of (Local op n wide) = op
op_of (Increment op n by wide) = op
op_of (Jump op target) = op
op_of (Table op low ts otherwise) = op
op_of (Lookup op rs otherwise) = op
op_of (Invocation op x count) = op
op_of (Items op kind) = op
op_of (Dimensions op class count) = op

-- behind `wide`
abbrev pub is_wide : Instruction → Bool
is_wide (Local op n wide) = wide
is_wide (Increment op n by wide) = wide
is_wide _ = false

abbrev pub spelled_operands : Instruction → List Token
spelled_operands (Plain op) = []
spelled_operands (Push op n) = (one number).spelled n
spelled_operands (Load op x) = (one loadable).spelled x
spelled_operands (LoadLong op x) = (one long_constant).spelled x
spelled_operands (OfClass op class) = (one reference).spelled class
spelled_operands (OfMember op x) = (one member).spelled x
spelled_operands (Local op n wide) = (one number).spelled n
spelled_operands (Increment op n by wide) = (two number number).spelled (n, by)
spelled_operands (Jump op target) = (one place).spelled target
spelled_operands (Table op low ts otherwise) = spelled_table low ts otherwise
spelled_operands (Lookup op rs otherwise) = spelled_lookup rs otherwise
spelled_operands (Invocation op x count) = (two member number).spelled (x, count)
spelled_operands (Items op kind) = (one number).spelled kind
spelled_operands (Dimensions op class count) = (two reference number).spelled (class, count)

abbrev pub spelled_instruction : Instruction → List Token
spelled_instruction i = spelled_op (is_wide i) (op_of i) (spelled_operands i)

-- ---- which can be written

abbrev pub same_shape : Shape → Shape → Bool
same_shape shapes.Plain shapes.Plain = true
same_shape shapes.Push shapes.Push = true
same_shape shapes.Load shapes.Load = true
same_shape shapes.LoadLong shapes.LoadLong = true
same_shape shapes.OfClass shapes.OfClass = true
same_shape shapes.OfMember shapes.OfMember = true
same_shape shapes.Local shapes.Local = true
same_shape shapes.Increment shapes.Increment = true
same_shape shapes.Jump shapes.Jump = true
same_shape shapes.Table shapes.Table = true
same_shape shapes.Lookup shapes.Lookup = true
same_shape shapes.Invocation shapes.Invocation = true
same_shape shapes.Items shapes.Items = true
same_shape shapes.Dimensions shapes.Dimensions = true
same_shape _ _ = false

-- the opcode is one of this shape
unfoldable pub has_shape : ℕ → Shape → Bool
has_shape op shape = same_shape (shape_of op) shape

abbrev pub has_row : List Place → Bool
has_row [] = false
has_row (t ∷ ts) = true

abbrev pub is_good_instruction : Instruction → Bool
is_good_instruction (Plain op) = has_shape op shapes.Plain
is_good_instruction (Push op n) = has_shape op shapes.Push && (one number).is_good n
is_good_instruction (Load op x) = has_shape op shapes.Load && (one loadable).is_good x
is_good_instruction (LoadLong op x) = has_shape op shapes.LoadLong && (one long_constant).is_good x
is_good_instruction (OfClass op class) = has_shape op shapes.OfClass && (one reference).is_good class
is_good_instruction (OfMember op x) = has_shape op shapes.OfMember && (one member).is_good x
is_good_instruction (Local op n wide) = has_shape op shapes.Local && (one number).is_good n
is_good_instruction (Increment op n by wide) = has_shape op shapes.Increment && (two number number).is_good (n, by)
is_good_instruction (Jump op target) = has_shape op shapes.Jump && (one place).is_good target
is_good_instruction (Table op low ts otherwise) = has_shape op shapes.Table && (has_row ts && (number.is_good low && targets.is_good (ts, otherwise)))
is_good_instruction (Lookup op rs otherwise) = has_shape op shapes.Lookup && rows.is_good (rs, otherwise)
is_good_instruction (Invocation op x count) = has_shape op shapes.Invocation && (two member number).is_good (x, count)
is_good_instruction (Items op kind) = has_shape op shapes.Items && (one number).is_good kind
is_good_instruction (Dimensions op class count) = has_shape op shapes.Dimensions && (two reference number).is_good (class, count)
