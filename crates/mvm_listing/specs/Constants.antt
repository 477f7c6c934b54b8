-- Entries of the constant pool (JVM Specification 4.4) by what they mean: the lowest that means it is taken; where there is none, it is
-- appended, its parts before it.
use Rattle.std.specs.Prelude.{ℕ, ◌+◌, ℤ, List, [], ◌∷◌, ◌++◌, length, Bool, false, ◌&&◌, nat_lt, ◌==◌, ◌||◌, if◌then◌else◌, Option, Some, None, Result, Ok, Err}
use Rattle.std.specs.Ordering.{int_eq}
use Rattle.std.specs.Str.{bytes_eq}
use Rattle.mvm_base.specs.Answers.{◌>>=◌}
use Rattle.mvm_layout.specs.Entries.{takes_two}
use Rattle.mvm_layout.specs.Pool.{entry, text, is_text, class_name}
use Rattle.mvm_layout.specs.declared.parts.Item.{Item}
use Rattle.mvm_layout.specs.declared.parts.Item.TheVariants.{Utf8, Integer, Float, Long, Double, Upper, Class, Str, Fieldref, Methodref, InterfaceMethodref, NameAndType, MethodHandle, MethodType, InvokeDynamic}
use Rattle.mvm_insn.specs.declared.opcodes.TheConstants as jvm
use Rattle.mvm_statement.specs.Numbers.{magnitude}
use Rattle.mvm_statement.specs.declared.fault.AsmKind.{AsmKind}
use Rattle.mvm_statement.specs.declared.fault.AsmKind.TheVariants as kinds
use Rattle.mvm_statement.specs.declared.operand.Reference.{Reference}
use Rattle.mvm_statement.specs.declared.operand.Reference.TheVariants as references
use Rattle.mvm_statement.specs.declared.operand.Member.{Member}
use Rattle.mvm_statement.specs.declared.operand.Member.TheVariants as members
use Rattle.mvm_statement.specs.declared.operand.Loadable.{Loadable}
use Rattle.mvm_statement.specs.declared.operand.Loadable.TheVariants as loadables
use Rattle.mvm_statement.specs.declared.operand.LongConstant.{LongConstant}
use Rattle.mvm_statement.specs.declared.operand.LongConstant.TheVariants as longs
use Rattle.mvm_statement.specs.declared.operand.Initial.{Initial}
use Rattle.mvm_statement.specs.declared.operand.Initial.TheVariants as initials
use Rattle.mvm_statement.specs.declared.pool_value.NumberKind.{NumberKind}
use Rattle.mvm_statement.specs.declared.pool_value.NumberKind.TheVariants as numbers
use Rattle.mvm_statement.specs.declared.pool_value.IndexKind.{IndexKind}
use Rattle.mvm_statement.specs.declared.pool_value.IndexKind.TheVariants as single
use Rattle.mvm_statement.specs.declared.pool_value.PairKind.{PairKind}
use Rattle.mvm_statement.specs.declared.pool_value.PairKind.TheVariants as pairs
use Rattle.mvm_statement.specs.declared.pool_value.MixedKind.{MixedKind}
use Rattle.mvm_statement.specs.declared.pool_value.MixedKind.TheVariants as mixed
use Rattle.mvm_statement.specs.declared.pool_value.PoolValue.{PoolValue}
use Rattle.mvm_statement.specs.declared.pool_value.PoolValue.TheVariants as values

-- an index of the constant pool, and the pool behind it; or there is none left for an entry
abbrev pub Indexed : Type 0
Indexed = Result (ℕ × List Item) AsmKind

-- ---- entries as lines give them

abbrev pub number_item : NumberKind → ℤ → Item
number_item numbers.Integer n = Integer n
number_item numbers.Float n = Float (magnitude n)
number_item numbers.Long n = Long n
number_item numbers.Double n = Double (magnitude n)

abbrev pub index_item : IndexKind → ℕ → Item
index_item single.Class n = Class n
index_item single.Str n = Str n
index_item single.MethodType n = MethodType n

abbrev pub pair_item : PairKind → ℕ → ℕ → Item
pair_item pairs.Fieldref first second = Fieldref first second
pair_item pairs.Methodref first second = Methodref first second
pair_item pairs.InterfaceMethodref first second = InterfaceMethodref first second
pair_item pairs.NameAndType first second = NameAndType first second

abbrev pub mixed_item : MixedKind → ℕ → ℕ → Item
mixed_item mixed.MethodHandle n at = MethodHandle n at
mixed_item mixed.InvokeDynamic n at = InvokeDynamic n at

-- the entry of a value whose numbers fit
abbrev pub item_of : PoolValue → Item
item_of (values.Text text) = Utf8 text
item_of (values.Number kind n) = number_item kind n
item_of (values.Index kind n) = index_item kind (magnitude n)
item_of (values.Indices kind first second) = pair_item kind (magnitude first) (magnitude second)
item_of (values.NumberAndIndex kind n at) = mixed_item kind (magnitude n) (magnitude at)

-- ---- found, or appended

-- the lowest index, counted from n, of an entry that passes a test
abbrev pub index_where : (Item → Bool) → ℕ → List Item → Option ℕ
index_where test n [] = None
index_where test n (item ∷ items) = if test item then Some n else index_where test (n + 1) items

-- a long or a double takes two indices
abbrev pub with_upper : Item → List Item
with_upper item = item ∷ (if takes_two item then Upper ∷ [] else [])

-- behind all others, while the count of the pool is one of two bytes
abbrev pub appended : Item → List Item → Indexed
appended item pool =
    if nat_lt (length pool + length (with_upper item)) 65535 then Ok (length pool + 1, pool ++ with_upper item) else Err kinds.Pool

abbrev pub found_or : Option ℕ → List Item → Indexed → Indexed
found_or (Some index) pool other = Ok (index, pool)
found_or None pool other = other

-- ---- by meaning

abbrev pub is_utf8_of : List ℕ → Item → Bool
is_utf8_of wanted (Utf8 found) = bytes_eq found wanted
is_utf8_of wanted _ = false

abbrev pub text_entry : List ℕ → List Item → Indexed
text_entry wanted pool = found_or (index_where (is_utf8_of wanted) 1 pool) pool (appended (Utf8 wanted) pool)

abbrev pub is_class_of : List Item → List ℕ → Item → Bool
is_class_of pool wanted (Class name) = is_text wanted (text pool name)
is_class_of pool wanted _ = false

abbrev pub class_entry : List ℕ → List Item → Indexed
class_entry wanted pool =
    found_or (index_where (is_class_of pool wanted) 1 pool) pool (text_entry wanted pool >>= λ x. appended (Class x.0) x.1)

abbrev pub is_string_of : List Item → List ℕ → Item → Bool
is_string_of pool wanted (Str units) = is_text wanted (text pool units)
is_string_of pool wanted _ = false

abbrev pub string_entry : List ℕ → List Item → Indexed
string_entry wanted pool =
    found_or (index_where (is_string_of pool wanted) 1 pool) pool (text_entry wanted pool >>= λ x. appended (Str x.0) x.1)

abbrev pub is_integer_of : ℤ → Item → Bool
is_integer_of wanted (Integer n) = int_eq n wanted
is_integer_of wanted _ = false

abbrev pub integer_entry : ℤ → List Item → Indexed
integer_entry wanted pool = found_or (index_where (is_integer_of wanted) 1 pool) pool (appended (Integer wanted) pool)

abbrev pub is_long_of : ℤ → Item → Bool
is_long_of wanted (Long n) = int_eq n wanted
is_long_of wanted _ = false

abbrev pub long_entry : ℤ → List Item → Indexed
long_entry wanted pool = found_or (index_where (is_long_of wanted) 1 pool) pool (appended (Long wanted) pool)

abbrev pub is_pair_of : List Item → List ℕ → List ℕ → Option Item → Bool
is_pair_of pool name desc (Some (NameAndType one other)) = is_text name (text pool one) && is_text desc (text pool other)
is_pair_of pool name desc _ = false

abbrev pub pair_entry : List ℕ → List ℕ → List Item → Indexed
pair_entry name desc pool =
    found_or (index_where (λ item. is_pair_of pool name desc (Some item)) 1 pool) pool (
    text_entry name pool >>= λ x. text_entry desc x.1 >>= λ y. appended (NameAndType x.0 y.0) y.1)

-- a member of this class, name and descriptor, by the indices of its class and of its name and descriptor
abbrev pub are_of : List Item → List ℕ → List ℕ → List ℕ → ℕ → ℕ → Bool
are_of pool class name desc one other = is_text class (class_name pool one) && is_pair_of pool name desc (entry pool other)

-- the kind of the member that an instruction is for
abbrev pub member_kind : ℕ → PairKind
member_kind op =
    if op == jvm.GETSTATIC || (op == jvm.PUTSTATIC || (op == jvm.GETFIELD || op == jvm.PUTFIELD)) then pairs.Fieldref else (
    if op == jvm.INVOKEINTERFACE then pairs.InterfaceMethodref else pairs.Methodref)

abbrev pub is_member_of : PairKind → List Item → List ℕ → List ℕ → List ℕ → Item → Bool
is_member_of pairs.Fieldref pool class name desc (Fieldref one other) = are_of pool class name desc one other
is_member_of pairs.Methodref pool class name desc (Methodref one other) = are_of pool class name desc one other
is_member_of pairs.InterfaceMethodref pool class name desc (InterfaceMethodref one other) = are_of pool class name desc one other
is_member_of kind pool class name desc _ = false

abbrev pub member_entry : PairKind → List ℕ → List ℕ → List ℕ → List Item → Indexed
member_entry kind class name desc pool =
    found_or (index_where (is_member_of kind pool class name desc) 1 pool) pool (
    class_entry class pool >>= λ x. pair_entry name desc x.1 >>= λ y. appended (pair_item kind x.0 y.0) y.1)

-- ---- operands

-- an entry that is named by its index, or by name
abbrev pub referred : (List ℕ → List Item → Indexed) → Reference → List Item → Indexed
referred by_name (references.Indexed n) pool = Ok (magnitude n, pool)
referred by_name (references.Named name) pool = by_name name pool

-- a class, or 0 where there is none
abbrev pub class_or_none : Option Reference → List Item → Indexed
class_or_none None pool = Ok (0, pool)
class_or_none (Some class) pool = referred class_entry class pool

abbrev pub member_referred : PairKind → Member → List Item → Indexed
member_referred kind (members.Indexed n) pool = Ok (magnitude n, pool)
member_referred kind (members.Named class name desc) pool = member_entry kind class name desc pool

abbrev pub loadable_referred : Loadable → List Item → Indexed
loadable_referred (loadables.Indexed n) pool = Ok (magnitude n, pool)
loadable_referred (loadables.Integer n) pool = integer_entry n pool
loadable_referred (loadables.Text units) pool = string_entry units pool
loadable_referred (loadables.Class name) pool = class_entry name pool

abbrev pub long_referred : LongConstant → List Item → Indexed
long_referred (longs.Indexed n) pool = Ok (magnitude n, pool)
long_referred (longs.Long n) pool = long_entry n pool

-- the value that a field has at first: a number is a Long for a field of type long, else an Integer
abbrev pub initial_referred : Bool → Initial → List Item → Indexed
initial_referred is_long (initials.Indexed n) pool = Ok (magnitude n, pool)
initial_referred is_long (initials.Number n) pool = if is_long then long_entry n pool else integer_entry n pool
initial_referred is_long (initials.Text units) pool = string_entry units pool
