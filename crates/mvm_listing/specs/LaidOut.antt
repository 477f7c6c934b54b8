-- How the lines of a class file are laid out: those of a code behind blanks, and behind what names an entry of the constant pool a comment,
-- which says what the entry is.
use Rattle.std.specs.Prelude.{ℕ, List, [], ◌∷◌, ◌++◌, flat_map, map, take, replicate, if◌then◌else◌, Option, Some, None, unwrap_or}
use Rattle.std.specs.Fmt.{signed_decimal}
use Rattle.mvm_layout.specs.Pool.{entry, text, class_name, name_and_type}
use Rattle.mvm_layout.specs.declared.parts.Item.{Item}
use Rattle.mvm_layout.specs.declared.parts.Item.TheVariants.{Integer, Long, Class, Str, Fieldref, Methodref, InterfaceMethodref, NameAndType, MethodType, InvokeDynamic}
use Rattle.mvm_statement.specs.Numbers.{magnitude}
use Rattle.mvm_statement.specs.Tokens.{is_printable}
use Rattle.mvm_statement.specs.Statements.{text_of}
use Rattle.mvm_statement.specs.declared.operand.Reference.{Reference}
use Rattle.mvm_statement.specs.declared.instruction.Instruction.{Instruction as Line}
use Rattle.mvm_statement.specs.declared.instruction.Instruction.TheVariants.{Load, LoadLong, OfClass, OfMember, Invocation, Dimensions}
use Rattle.mvm_statement.specs.declared.statement.Statement.{Statement}
use Rattle.mvm_statement.specs.declared.statement.Statement.TheVariants as lines
use Rattle.mvm_listing.specs.Encoding.{reference_index, member_index, loadable_index, long_index}

-- ---- blanks

-- how many stand before a line
abbrev pub depth : Statement → ℕ
depth (lines.Code max_stack max_locals) = 2
depth (lines.Label name) = 2
depth (lines.Instruction line) = 4
depth (lines.Byte n) = 4
depth (lines.Catch start end handler class) = 4
depth lines.End = 2
depth _ = 0

-- ---- what an entry is

abbrev pub text_or_none : Option (List ℕ) → List ℕ
text_or_none x = unwrap_or x []

-- a name, `:` and a descriptor
abbrev pub pair_of : List Item → Option (ℕ × ℕ) → List ℕ
pair_of pool None = []
pair_of pool (Some x) = text_or_none (text pool x.0) ++ 58 ∷ text_or_none (text pool x.1)

-- a class, `.`, a name, `:` and a descriptor
abbrev pub member_of : List Item → ℕ → ℕ → List ℕ
member_of pool class member = text_or_none (class_name pool class) ++ 46 ∷ pair_of pool (name_and_type pool member)

-- in words, or nothing
abbrev pub meaning : List Item → Option Item → List ℕ
meaning pool (Some (Integer n)) = signed_decimal n
meaning pool (Some (Long n)) = signed_decimal n
meaning pool (Some (Class name)) = text_or_none (text pool name)
meaning pool (Some (Str units)) = text_or_none (text pool units)
meaning pool (Some (Fieldref class member)) = member_of pool class member
meaning pool (Some (Methodref class member)) = member_of pool class member
meaning pool (Some (InterfaceMethodref class member)) = member_of pool class member
meaning pool (Some (NameAndType name desc)) = pair_of pool (Some (name, desc))
meaning pool (Some (MethodType desc)) = text_or_none (text pool desc)
meaning pool (Some (InvokeDynamic bootstrap member)) = pair_of pool (name_and_type pool member)
meaning pool _ = []

-- ---- the comment of a line

-- the entry that an instruction names, or 0
abbrev pub entry_named : Line → ℕ
entry_named (Load op x) = loadable_index x
entry_named (LoadLong op x) = long_index x
entry_named (OfClass op class) = reference_index class
entry_named (OfMember op member) = member_index member
entry_named (Invocation op member count) = member_index member
entry_named (Dimensions op class count) = reference_index class
entry_named line = 0

abbrev pub class_meaning : List Item → Option Reference → List ℕ
class_meaning pool None = []
class_meaning pool (Some class) = text_or_none (class_name pool (reference_index class))

-- what a line says of names
abbrev pub remark : List Item → Statement → List ℕ
remark pool (lines.Entry n value) = meaning pool (entry pool (magnitude n))
remark pool (lines.Class flags this super) = class_meaning pool (Some this)
remark pool (lines.Implements interface) = class_meaning pool (Some interface)
remark pool (lines.Field flags name desc constant) = pair_of pool (Some (reference_index name, reference_index desc))
remark pool (lines.Method flags name desc) = pair_of pool (Some (reference_index name, reference_index desc))
remark pool (lines.Instruction line) = meaning pool (entry pool (entry_named line))
remark pool (lines.Catch start end handler class) = class_meaning pool class
remark pool _ = []

-- a unit of a comment; one that can't stand there is `?`
abbrev pub plain : ℕ → ℕ
plain unit = if is_printable unit then unit else 63

-- so many units at most are shown
abbrev pub longest : ℕ
longest = 120

abbrev pub commented : List ℕ → List ℕ
commented [] = []
commented (u ∷ us) = 32 ∷ 59 ∷ 32 ∷ map plain (take longest (u ∷ us))

-- ---- the text

abbrev pub line_text : List Item → Statement → List ℕ
line_text pool s = replicate (depth s) 32 ++ (text_of s ++ commented (remark pool s))

abbrev pub any_text : List Item → Option Statement → List ℕ
any_text pool None = []
any_text pool (Some s) = line_text pool s

-- each on a line of its own; one without a statement is empty
abbrev pub laid_out : List Item → List (Option Statement) → List ℕ
laid_out pool xs = flat_map (λ x. any_text pool x ++ 10 ∷ []) xs
