-- What a text is assembled to, line by line, or its first fault.
use Rattle.std.specs.Prelude.{ℕ, ◌+◌, pos, List, [], ◌∷◌, ◌++◌, length, map, Bool, true, false, ◌&&◌, ◌||◌, nat_lt, ◌==◌, if◌then◌else◌, Option, Some, None, Result, Ok, Err, is_some, unwrap_or, codes}
use Rattle.mvm_base.specs.Answers.{◌>>=◌}
use Rattle.mvm_layout.specs.declared.fault.ClassFault.{ClassFault}
use Rattle.mvm_layout.specs.declared.parts.Code.{Code as CodeParts}
use Rattle.mvm_layout.specs.declared.parts.Item.{Item}
use Rattle.mvm_layout.specs.declared.parts.Member.{Member}
use Rattle.mvm_layout.specs.declared.parts.Parts.{Parts}
use Rattle.mvm_classfile.specs.Writing.{rebuilt}
use Rattle.mvm_statement.specs.Numbers.{magnitude}
use Rattle.mvm_statement.specs.Statements.{line_says}
use Rattle.mvm_statement.specs.declared.fault.AsmKind.{AsmKind}
use Rattle.mvm_statement.specs.declared.fault.AsmKind.TheVariants as kinds
use Rattle.mvm_statement.specs.declared.operand.Initial.{Initial}
use Rattle.mvm_statement.specs.declared.operand.Reference.TheVariants as references
use Rattle.mvm_statement.specs.declared.operand.Member.TheVariants as members
use Rattle.mvm_statement.specs.declared.operand.Loadable.TheVariants as loadables
use Rattle.mvm_statement.specs.declared.operand.LongConstant.TheVariants as longs
use Rattle.mvm_statement.specs.declared.instruction.Instruction.{Instruction as Line}
use Rattle.mvm_statement.specs.declared.instruction.Instruction.TheVariants.{Load, LoadLong, OfClass, OfMember, Invocation, Dimensions}
use Rattle.mvm_statement.specs.declared.statement.Statement.{Statement}
use Rattle.mvm_statement.specs.declared.statement.Statement.TheVariants.{Version, Entry, Class, Implements, Field, Method, Code, Label, Instruction, Byte, Catch, End}
use Rattle.mvm_listing.specs.declared.fault.AsmFault.{AsmFault}
use Rattle.mvm_listing.specs.declared.fault.AsmFault.TheVariants.{At, Refused}
use Rattle.mvm_listing.specs.declared.phase.Phase.{Phase}
use Rattle.mvm_listing.specs.declared.phase.Phase.TheVariants as phases
use Rattle.mvm_listing.specs.declared.piece.Piece.TheVariants.{Own, OneByte}
use Rattle.mvm_listing.specs.Order.{next, is_whole}
use Rattle.mvm_listing.specs.Range.{fits, fits_entry, is_long_text}
use Rattle.mvm_listing.specs.Constants.{item_of, appended, text_entry, class_entry, member_kind, referred, class_or_none, member_referred, loadable_referred, long_referred, initial_referred}
use Rattle.mvm_listing.specs.Blocks.{Block, empty_block, placed, labelled, is_closed, unfit, code_made}

-- ---- instructions whose entry of the constant pool is known

-- an instruction, and the constant pool behind it
abbrev pub Settled : Type 0
Settled = Result (Line × List Item) AsmKind

-- the index of an entry that ldc can have is of one byte
abbrev pub loaded : ℕ → ℕ × List Item → Settled
loaded op x = if fits_entry op (pos x.0) then Ok (Load op (loadables.Indexed (pos x.0)), x.1) else Err kinds.Range

-- what an instruction names is looked up, or appended
abbrev pub settled : Line → List Item → Settled
settled (Load op x) pool = loadable_referred x pool >>= loaded op
settled (LoadLong op x) pool = long_referred x pool >>= λ n. Ok (LoadLong op (longs.Indexed (pos n.0)), n.1)
settled (OfClass op class) pool = referred class_entry class pool >>= λ n. Ok (OfClass op (references.Indexed (pos n.0)), n.1)
settled (OfMember op member) pool = member_referred (member_kind op) member pool >>= λ n. Ok (OfMember op (members.Indexed (pos n.0)), n.1)
settled (Invocation op member count) pool = member_referred (member_kind op) member pool >>= λ n. Ok (Invocation op (members.Indexed (pos n.0)) count, n.1)
settled (Dimensions op class count) pool = referred class_entry class pool >>= λ n. Ok (Dimensions op (references.Indexed (pos n.0)) count, n.1)
settled line pool = Ok (line, pool)

-- ---- line by line

pub record State : Type 0 where
  pub phase : Phase
  pub parts : Parts
  -- the code that is being assembled
  pub block : Block
  -- the lines of the codes behind us on which an offset or a place does not fit
  pub unfit : List ℕ

abbrev pub start : State
start = record {
  phase = phases.Start;
  parts = record { minor = 0; major = 52; pool = []; flags = 0; this_class = 0; super_class = 0; interfaces = []; fields = []; methods = [] };
  block = empty_block 0 0;
  unfit = [];
}

abbrev pub with_pool : State → List Item → State
with_pool s pool = record s { parts = record s.parts { pool = pool } }

-- the index of the value that a field has at first, behind the name of its attribute
abbrev pub constant_of : Bool → Option Initial → List Item → Result (Option ℕ × List Item) AsmKind
constant_of is_long None pool = Ok (None, pool)
constant_of is_long (Some value) pool = text_entry (codes "ConstantValue") pool >>= λ x. initial_referred is_long value x.1 >>= λ y. Ok (Some y.0, y.1)

-- a code for the last method
abbrev pub with_code : List Member → CodeParts → List Member
with_code [] code = []
with_code (m ∷ []) code = record m { code = Some code } ∷ []
with_code (m ∷ (n ∷ ms)) code = m ∷ with_code (n ∷ ms) code

abbrev pub member : ℕ → ℕ → ℕ → Option ℕ → Member
member flags name desc constant = record { flags = flags; name = name; desc = desc; constant = constant; code = None }

-- behind a code, with the lines of it on which an offset or a place does not fit: where there is one, nothing is made of the code
abbrev pub ended : List ℕ → State → State
ended [] s = record s { parts = record s.parts { methods = with_code s.parts.methods (code_made s.block) }; block = empty_block 0 0 }
ended (line ∷ lines) s = record s { unfit = s.unfit ++ line ∷ lines; block = empty_block 0 0 }

-- what a line does where it may stand and its numbers fit
unfoldable pub act : ℕ → Statement → State → Result State AsmKind
act line (Version minor major) s = Ok (record s { parts = record s.parts { minor = magnitude minor; major = magnitude major } })
act line (Entry n value) s =
    if magnitude n == length s.parts.pool + 1 then (appended (item_of value) s.parts.pool >>= λ x. Ok (with_pool s x.1)) else Err kinds.Pool
act line (Class flags this super) s =
    referred class_entry this s.parts.pool >>= λ x.
    class_or_none super x.1 >>= λ y.
    Ok (record s { parts = record s.parts { pool = y.1; flags = magnitude flags; this_class = x.0; super_class = y.0 } })
act line (Implements interface) s =
    referred class_entry interface s.parts.pool >>= λ x.
    Ok (record s { parts = record s.parts { pool = x.1; interfaces = s.parts.interfaces ++ x.0 ∷ [] } })
act line (Field flags name desc constant) s =
    referred text_entry name s.parts.pool >>= λ x.
    referred text_entry desc x.1 >>= λ y.
    constant_of (is_long_text s.parts.pool desc) constant y.1 >>= λ z.
    Ok (record s { parts = record s.parts { pool = z.1; fields = s.parts.fields ++ member (magnitude flags) x.0 y.0 z.0 ∷ [] } })
act line (Method flags name desc) s =
    referred text_entry name s.parts.pool >>= λ x.
    referred text_entry desc x.1 >>= λ y.
    Ok (record s { parts = record s.parts { pool = y.1; methods = s.parts.methods ++ member (magnitude flags) x.0 y.0 None ∷ [] } })
act line (Code max_stack max_locals) s =
    text_entry (codes "Code") s.parts.pool >>= λ x. Ok (record (with_pool s x.1) { block = empty_block (magnitude max_stack) (magnitude max_locals) })
act line (Label name) s =
    if is_some (labelled s.block.labels name) then Err kinds.Label else
    Ok (record s { block = record s.block { labels = s.block.labels ++ (name, s.block.end) ∷ [] } })
act line (Instruction x) s = settled x s.parts.pool >>= λ y. Ok (record (with_pool s y.1) { block = placed line (Own y.0) s.block })
act line (Byte n) s = Ok (record s { block = placed line (OneByte (magnitude n)) s.block })
act line (Catch from to handler class) s =
    class_or_none class s.parts.pool >>= λ x.
    Ok (record (with_pool s x.1) { block = record s.block { rows = s.block.rows ++ record { line = line; start = from; end = to; handler = handler; class = x.0 } ∷ [] } })
act line End s = if is_closed s.block then Ok (ended (unfit s.block) s) else Err kinds.Label

abbrev pub entered : Option Phase → State → Result State AsmKind
entered (Some phase) s = Ok (record s { phase = phase })
entered None s = Err kinds.Order

-- the lowest fault of a line, or what it does
unfoldable pub turn : ℕ → Statement → State → Result State AsmKind
turn line x s = if fits s.parts.pool x then (entered (next s.phase x) s >>= λ t. act line x t) else Err kinds.Range

-- a line that may hold no statement
abbrev pub turn_of : ℕ → Result (Option Statement) AsmKind → State → Result State AsmKind
turn_of line (Ok (Some x)) s = turn line x s
turn_of line (Ok None) s = Ok s
turn_of line (Err kind) s = Err kind

-- ---- the first fault

-- a fault of a line, by the line's number
abbrev pub Fault : Type 0
Fault = ℕ × AsmKind

-- where the lines end, or the first line with a fault other than an offset or a place that does not fit
pub record Ran : Type 0 where
  pub state : State
  pub fault : Option Fault

abbrev pub phase_behind : Result (Option Statement) AsmKind → Phase → Phase
phase_behind (Ok (Some x)) phase = unwrap_or (next phase x) phase
phase_behind _ phase = phase

-- the lines, of which the first has this number
abbrev pub run : ℕ → List (Result (Option Statement) AsmKind) → State → Ran
run line [] s = record { state = s; fault = None }
run line (x ∷ xs) s = elim (turn_of line x s) [ Ok t ↦ run (line + 1) xs t | Err kind ↦ record { state = record s { phase = phase_behind x s.phase }; fault = Some (line, kind) } ]

abbrev pub kind_number : AsmKind → ℕ
kind_number kinds.Word = 1
kind_number kinds.Operand = 2
kind_number kinds.Range = 3
kind_number kinds.Label = 4
kind_number kinds.Order = 5
kind_number kinds.Pool = 6

-- of the lower line, or in a line of the lower number
abbrev pub is_before : Fault → Fault → Bool
is_before a b = nat_lt a.0 b.0 || (a.0 == b.0 && nat_lt (kind_number a.1) (kind_number b.1))

abbrev pub earlier : Option Fault → Fault → Option Fault
earlier None b = Some b
earlier (Some a) b = if is_before a b then Some a else Some b

abbrev pub earliest : Option Fault → List Fault → Option Fault
earliest a [] = a
earliest a (b ∷ bs) = earliest (earlier a b) bs

-- the text ends where it may not, at the last of so many lines
abbrev pub ends_early : ℕ → Ran → List Fault
ends_early count ran = if is_whole ran.state.phase then [] else (count, kinds.Order) ∷ []

-- The least of all faults. (Where a line before the last has a fault, the end of the text is a later one.)
unfoldable pub first_fault : ℕ → Ran → Option Fault
first_fault count ran = earliest ran.fault (map (λ line. (line, kinds.Range)) (ran.state.unfit ++ unfit ran.state.block) ++ ends_early count ran)

abbrev pub verdict : Option Fault → Parts → Result Parts AsmFault
verdict None parts = Ok parts
verdict (Some fault) parts = Err (At fault.0 fault.1)

abbrev pub judged : ℕ → Ran → Result Parts AsmFault
judged count ran = verdict (first_fault count ran) ran.state.parts

-- ---- the lines of a text

abbrev pub last_line : List ℕ → List (List ℕ)
last_line [] = []
last_line (c ∷ cs) = (c ∷ cs) ∷ []

-- what is read of a line, and what follows
abbrev pub lines_from : List ℕ → List ℕ → List (List ℕ)
lines_from line [] = last_line line
lines_from line (c ∷ cs) = elim (c == 10) [ true ↦ line ∷ lines_from [] cs | false ↦ lines_from (line ++ c ∷ []) cs ]

-- each line ends with a line feed, or the text ends there; an empty text has one line
unfoldable pub lines_of : List ℕ → List (List ℕ)
lines_of [] = [] ∷ []
lines_of (c ∷ cs) = lines_from [] (c ∷ cs)

-- the parts that a text is assembled to, or its first fault
unfoldable pub assembled : List ℕ → Result Parts AsmFault
assembled text = judged (length (lines_of text)) (run 1 (map line_says (lines_of text)) start)

abbrev pub refused : Result Parts ClassFault → Result Parts AsmFault
refused (Ok parts) = Ok parts
refused (Err fault) = Err (Refused fault)

-- the class file of a text, or its first fault, or that of the class file that it says
unfoldable pub class_of : List ℕ → Result Parts AsmFault
class_of text = assembled text >>= λ parts. refused (rebuilt parts)
