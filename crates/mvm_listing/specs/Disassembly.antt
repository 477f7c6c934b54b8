-- The lines that a class file is written as. An instruction is written by its mnemonic exactly where that line is assembled to its bytes.
use Rattle.std.specs.Prelude.{ℕ, zero, suc, ◌+◌, ◌-◌, ℤ, pos, negsuc, List, [], ◌∷◌, ◌++◌, length, take, drop, flat_map, map, Bool, true, false, ◌&&◌, ◌||◌, nat_le, ◌==◌, if◌then◌else◌, Option, Some, None, option_map, Ok, Err, decimal, bytes_eq}
use Rattle.std.specs.List.{list_all, list_any}
use Rattle.std.specs.Ordering.{int_eq}
use Rattle.mvm_layout.specs.declared.parts.Code.{Code}
use Rattle.mvm_layout.specs.declared.parts.Item.{Item}
use Rattle.mvm_layout.specs.declared.parts.Item.TheVariants as items
use Rattle.mvm_layout.specs.declared.parts.Member.{Member}
use Rattle.mvm_layout.specs.declared.parts.Parts.{Parts}
use Rattle.mvm_layout.specs.declared.parts.Row.{Row}
use Rattle.mvm_insn.specs.Insns.{Read, read_at}
use Rattle.mvm_insn.specs.Opcodes.{operands_of}
use Rattle.mvm_insn.specs.Rows.{SwitchParts}
use Rattle.mvm_insn.specs.declared.table.Operands.{Operands}
use Rattle.mvm_insn.specs.declared.table.Operands.TheVariants as operands
use Rattle.mvm_insn.specs.declared.insn.Insn.{Insn}
use Rattle.mvm_insn.specs.declared.insn.Insn.TheVariants as insn
use Rattle.mvm_insn.specs.declared.opcodes.TheConstants as jvm
use Rattle.mvm_insn.specs.declared.switch_rows.SwitchRow.{SwitchRow}
use Rattle.mvm_statement.specs.Statements.{is_good}
use Rattle.mvm_statement.specs.declared.operand.Place.{Place}
use Rattle.mvm_statement.specs.declared.operand.Place.TheVariants.{At, Label}
use Rattle.mvm_statement.specs.declared.operand.KeyRow.{KeyRow}
use Rattle.mvm_statement.specs.declared.operand.Reference.{Reference}
use Rattle.mvm_statement.specs.declared.operand.Reference.TheVariants as references
use Rattle.mvm_statement.specs.declared.operand.Member.TheVariants as members
use Rattle.mvm_statement.specs.declared.operand.Loadable.TheVariants as loadables
use Rattle.mvm_statement.specs.declared.operand.LongConstant.TheVariants as longs
use Rattle.mvm_statement.specs.declared.operand.Initial.TheVariants as initials
use Rattle.mvm_statement.specs.declared.pool_value.NumberKind.TheVariants as numbers
use Rattle.mvm_statement.specs.declared.pool_value.IndexKind.TheVariants as single
use Rattle.mvm_statement.specs.declared.pool_value.PairKind.TheVariants as pairs
use Rattle.mvm_statement.specs.declared.pool_value.MixedKind.TheVariants as mixed
use Rattle.mvm_statement.specs.declared.pool_value.PoolValue.{PoolValue}
use Rattle.mvm_statement.specs.declared.pool_value.PoolValue.TheVariants as values
use Rattle.mvm_statement.specs.declared.instruction.Instruction.{Instruction as Line}
use Rattle.mvm_statement.specs.declared.instruction.Instruction.TheVariants.{Plain, Push, Load, LoadLong, OfClass, OfMember, Local, Increment, Jump, Table, Lookup, Invocation, Items, Dimensions}
use Rattle.mvm_statement.specs.declared.statement.Statement.{Statement}
use Rattle.mvm_statement.specs.declared.statement.Statement.TheVariants as lines
use Rattle.mvm_listing.specs.declared.piece.Piece.{Piece}
use Rattle.mvm_listing.specs.declared.piece.Piece.TheVariants.{Own, OneByte}
use Rattle.mvm_listing.specs.Range.{fits}
use Rattle.mvm_listing.specs.Encoding.{encoded, targets_of}
use Rattle.mvm_listing.specs.Blocks.{place_of, fits_offset}
use Rattle.mvm_listing.specs.LaidOut.{laid_out}

-- ---- an instruction as a line

-- the entry of an index
abbrev pub numbered : ℕ → Reference
numbered n = references.Indexed (pos n)

-- an instruction on an entry of the constant pool
abbrev pub pool_line : ℕ → ℕ → Line
pool_line op n =
    if op == jvm.LDC || op == jvm.LDC_W then Load op (loadables.Indexed (pos n)) else (
    if op == jvm.LDC2_W then LoadLong op (longs.Indexed (pos n)) else (
    if op == jvm.NEW || op == jvm.ANEWARRAY || op == jvm.CHECKCAST || op == jvm.INSTANCEOF then OfClass op (numbered n) else
    OfMember op (members.Indexed (pos n))))

-- `wide` is written where the code has it without need
abbrev pub writes_wide : Bool → ℕ → Bool
writes_wide wide local = wide && nat_le local 255

abbrev pub lowest : List SwitchRow → ℤ
lowest [] = pos 0
lowest (row ∷ rows) = row.key

abbrev pub key_row : SwitchRow → KeyRow
key_row row = record { key = row.key; target = At row.target }

abbrev pub is_table : Operands → Bool
is_table operands.Table = true
is_table _ = false

abbrev pub switch_line : Bool → ℕ → SwitchParts → Line
switch_line true op x = Table op (lowest x.rows) (map (λ row. At row.target) x.rows) (At x.otherwise)
switch_line false op x = Lookup op (map key_row x.rows) (At x.otherwise)

-- its targets are written as numbers here
unfoldable pub line_of : Insn → Line
line_of (insn.Plain op) = Plain op
line_of (insn.Number op n) = Push op n
line_of (insn.Pool op n) = pool_line op n
line_of (insn.Local op n wide) = Local op (pos n) (writes_wide wide n)
line_of (insn.Inc n by wide) = Increment jvm.IINC (pos n) by (writes_wide wide n)
line_of (insn.Jump op target) = Jump op (At target)
line_of (insn.Choice op rows) = switch_line (is_table (operands_of op)) op rows
line_of (insn.Interface n count last) = Invocation jvm.INVOKEINTERFACE (members.Indexed (pos n)) (pos count)
line_of (insn.NewArray kind) = Items jvm.NEWARRAY (pos kind)
line_of (insn.Multi n dims) = Dimensions jvm.MULTIANEWARRAY (numbered n) (pos dims)

-- ---- the pieces of a code

-- The instruction that stands at a place, of which the bytes from there on are given, as a line; and how many bytes it takes behind its
-- first.
abbrev pub Decoder : Type 0
Decoder = ℕ → List ℕ → Option (Line × ℕ)

abbrev pub decoded : ℕ → Read → Option (Line × ℕ)
decoded at (Ok x) = Some (line_of x.0, x.1.at - at - 1)
decoded at (Err fault) = None

-- as the standard has it
abbrev pub standard : Decoder
standard at bytes = decoded at (read_at at (record { at = at; rest = bytes }))

abbrev pub own_place : Place → ℤ
own_place (At n) = n
own_place (Label name) = pos 0

abbrev pub is_numbered : Place → Bool
is_numbered (At n) = true
is_numbered (Label name) = false

-- the entry of the constant pool is named by its index
abbrev pub is_indexed : Line → Bool
is_indexed (Load op (loadables.Indexed n)) = true
is_indexed (Load op _) = false
is_indexed (LoadLong op (longs.Indexed n)) = true
is_indexed (LoadLong op _) = false
is_indexed (OfClass op (references.Indexed n)) = true
is_indexed (OfClass op _) = false
is_indexed (OfMember op (members.Indexed n)) = true
is_indexed (OfMember op _) = false
is_indexed (Invocation op (members.Indexed n) count) = true
is_indexed (Invocation op _ count) = false
is_indexed (Dimensions op (references.Indexed n) count) = true
is_indexed (Dimensions op _ count) = false
is_indexed line = true

-- the place is a number whose offset fits
abbrev pub is_within : Line → ℕ → Place → Bool
is_within line at target = is_numbered target && fits_offset (Own line) at (place_of [] target)

-- the instruction's own line is assembled to these bytes
unfoldable pub gives : ℕ → Line → List ℕ → Bool
gives at line bytes =
    is_good (lines.Instruction line) && (fits [] (lines.Instruction line) && (is_indexed line
    && (list_all (is_within line at) (targets_of (Own line)) && bytes_eq (encoded own_place at line) bytes)))

abbrev pub byte_pieces : ℕ → List ℕ → List (ℕ × Piece)
byte_pieces at [] = []
byte_pieces at (b ∷ bs) = (at, OneByte b) ∷ byte_pieces (at + 1) bs

-- an instruction by its line, if that gives its bytes again, or byte by byte
abbrev pub pieces_of : ℕ → Line → List ℕ → List (ℕ × Piece)
pieces_of at line bytes = if gives at line bytes then (at, Own line) ∷ [] else byte_pieces at bytes

abbrev pub behind_first : Option (Line × ℕ) → ℕ
behind_first None = 0
behind_first (Some x) = x.1

-- these bytes, which are an instruction's, or one byte where none stands
abbrev pub chunk : Option (Line × ℕ) → ℕ → List ℕ → List (ℕ × Piece)
chunk None at bytes = byte_pieces at bytes
chunk (Some x) at bytes = pieces_of at x.0 bytes

-- the pieces of a code of at most so many bytes, from a place on
abbrev pub pieces : Decoder → ℕ → ℕ → List ℕ → List (ℕ × Piece)
pieces decode zero at bytes = []
pieces decode (suc n) at [] = []
pieces decode (suc n) at (b ∷ bs) =
    let found = decode at (b ∷ bs) in
    let bytes = b ∷ take (behind_first found) bs in
    chunk found at bytes ++ pieces decode n (at + length bytes) (drop (behind_first found) bs)

-- ---- labels

-- the label of a place
abbrev pub label : ℕ → List ℕ
label at = 76 ∷ decimal at

abbrev pub is_place : List ℕ → ℤ → Bool
is_place places (pos n) = list_any (λ place. place == n) places
is_place places (negsuc n) = false

-- a place at which a line begins by its label, and another by its number
abbrev pub shown_at : Bool → ℤ → Place
shown_at true (pos n) = Label (label n)
shown_at _ z = At z

abbrev pub shown : List ℕ → ℤ → Place
shown places z = shown_at (is_place places z) z

abbrev pub with_label : (ℤ → Place) → Place → Place
with_label show target = show (own_place target)

abbrev pub with_row : (ℤ → Place) → KeyRow → KeyRow
with_row show row = record { key = row.key; target = with_label show row.target }

abbrev pub with_labels : (ℤ → Place) → Line → Line
with_labels show (Jump op target) = Jump op (with_label show target)
with_labels show (Table op low targets otherwise) = Table op low (map (with_label show) targets) (with_label show otherwise)
with_labels show (Lookup op rows otherwise) = Lookup op (map (with_row show) rows) (with_label show otherwise)
with_labels show line = line

abbrev pub mark : (ℕ → Bool) → ℕ → List Statement
mark is_target at = if is_target at then lines.Label (label at) ∷ [] else []

abbrev pub piece_line : (ℤ → Place) → Piece → Statement
piece_line show (Own line) = lines.Instruction (with_labels show line)
piece_line show (OneByte n) = lines.Byte (pos n)

abbrev pub piece_lines : (ℕ → Bool) → (ℤ → Place) → ℕ × Piece → List Statement
piece_lines is_target show p = mark is_target p.0 ++ piece_line show p.1 ∷ []

-- ---- codes

-- a class, if there is one
abbrev pub class_shown : ℕ → Option Reference
class_shown zero = None
class_shown (suc n) = Some (numbered (suc n))

abbrev pub row_line : (ℤ → Place) → Row → Statement
row_line show row = lines.Catch (show (pos row.start)) (show (pos row.end)) (show (pos row.handler)) (class_shown row.catch_class)

abbrev pub row_targets : Row → List ℤ
row_targets row = pos row.start ∷ pos row.end ∷ pos row.handler ∷ []

-- the places that a code's pieces and rows lead to
abbrev pub all_targets : List (ℕ × Piece) → List Row → List ℤ
all_targets ps rows = flat_map (λ p. map own_place (targets_of p.1)) ps ++ flat_map row_targets rows

abbrev pub is_target_of : List ℤ → ℕ → Bool
is_target_of targets at = list_any (λ target. int_eq target (pos at)) targets

unfoldable pub code_lines : Decoder → Code → List Statement
code_lines decode code =
    let ps = pieces decode (length code.bytes) 0 code.bytes in
    let end = length code.bytes in
    let is_target = is_target_of (all_targets ps code.rows) in
    let show = shown (map (λ p. p.0) ps ++ end ∷ []) in
    lines.Code (pos code.max_stack) (pos code.max_locals) ∷ (flat_map (piece_lines is_target show) ps ++ (mark is_target end ++ (map (row_line show) code.rows ++ lines.End ∷ [])))

-- ---- the constant pool

-- the value of an entry
abbrev pub value_of : Item → PoolValue
value_of (items.Utf8 text) = values.Text text
value_of (items.Integer n) = values.Number numbers.Integer n
value_of (items.Float bits) = values.Number numbers.Float (pos bits)
value_of (items.Long n) = values.Number numbers.Long n
value_of (items.Double bits) = values.Number numbers.Double (pos bits)
value_of (items.Class n) = values.Index single.Class (pos n)
value_of (items.Str n) = values.Index single.Str (pos n)
value_of (items.MethodType n) = values.Index single.MethodType (pos n)
value_of (items.Fieldref n m) = values.Indices pairs.Fieldref (pos n) (pos m)
value_of (items.Methodref n m) = values.Indices pairs.Methodref (pos n) (pos m)
value_of (items.InterfaceMethodref n m) = values.Indices pairs.InterfaceMethodref (pos n) (pos m)
value_of (items.NameAndType n m) = values.Indices pairs.NameAndType (pos n) (pos m)
value_of (items.MethodHandle kind n) = values.NumberAndIndex mixed.MethodHandle (pos kind) (pos n)
value_of (items.InvokeDynamic n m) = values.NumberAndIndex mixed.InvokeDynamic (pos n) (pos m)
value_of items.Upper = values.Text []

-- the upper entry of a long or a double has no line of its own
abbrev pub entry_line : ℕ → Item → List Statement
entry_line n items.Upper = []
entry_line n item = lines.Entry (pos n) (value_of item) ∷ []

abbrev pub entries : ℕ → List Item → List Statement
entries n [] = []
entries n (item ∷ more) = entry_line n item ++ entries (n + 1) more

-- ---- the whole

abbrev pub code_lines_of : Decoder → Option Code → List Statement
code_lines_of decode None = []
code_lines_of decode (Some code) = code_lines decode code

abbrev pub interface_line : ℕ → Statement
interface_line n = lines.Implements (numbered n)

abbrev pub field_line : Member → Statement
field_line m = lines.Field (pos m.flags) (numbered m.name) (numbered m.desc) (option_map (λ n. initials.Indexed (pos n)) m.constant)

abbrev pub method_lines : Decoder → Member → List Statement
method_lines decode m = lines.Method (pos m.flags) (numbered m.name) (numbered m.desc) ∷ code_lines_of decode m.code

-- behind an empty line, which has no statement
abbrev pub apart : List Statement → List (Option Statement)
apart ss = None ∷ map Some ss

unfoldable pub statements : Decoder → Parts → List (Option Statement)
statements decode parts =
    Some (lines.Version (pos parts.minor) (pos parts.major)) ∷ (map Some (entries 1 parts.pool)
    ++ (apart (lines.Class (pos parts.flags) (numbered parts.this_class) (class_shown parts.super_class) ∷ map interface_line parts.interfaces)
    ++ (flat_map (λ m. apart (field_line m ∷ [])) parts.fields ++ flat_map (λ m. apart (method_lines decode m)) parts.methods)))

-- the text of a class file
unfoldable pub disassembly : Parts → List ℕ
disassembly parts = laid_out parts.pool (statements standard parts)
