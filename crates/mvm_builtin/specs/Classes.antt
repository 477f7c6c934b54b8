-- The class file of a built-in class (JVM Specification, chapter 4).
use Rattle.std.specs.Prelude.{ℕ, ◌+◌, List, [], ◌∷◌, ◌++◌, length, if◌then◌else◌, Option, Some, None, Ok, ◌≡◌, slice_get, codes}
use Rattle.std.specs.List.{list_any}
use Rattle.std.specs.Option.{option_map}
use Rattle.mvm_layout.specs.declared.flags.TheConstants as flag
use Rattle.mvm_layout.specs.declared.parts.Item.{Item}
use Rattle.mvm_layout.specs.declared.parts.Item.TheVariants as item
use Rattle.mvm_layout.specs.declared.parts.Code.{Code}
use Rattle.mvm_layout.specs.declared.parts.Member.{Member}
use Rattle.mvm_layout.specs.declared.parts.Parts.{Parts}
use Rattle.mvm_classfile.specs.Writing.{rebuilt}
use Rattle.mvm_builtin.specs.Table.{Line, Row, is_part, of_part, named, rows}
use Rattle.mvm_builtin.specs.declared.parts.Part.TheVariants.{Superclass, Superinterface, Bytecode, Field, Method}
use Rattle.mvm_builtin.specs.declared.table.Sort.{Sort}
use Rattle.mvm_builtin.specs.declared.table.Sort.TheVariants as sort
use Rattle.mvm_builtin.specs.declared.parts.TheConstants.{SUPER, RUN}

-- the access flags of a class, a field or a method that a line of this sort tells (4.1, 4.5, 4.6)
abbrev pub flags_of : Sort → ℕ
flags_of sort.Class = flag.PUBLIC + SUPER
flags_of sort.Interface = flag.PUBLIC + flag.INTERFACE + flag.ABSTRACT
flags_of sort.Extends = 0
flags_of sort.Implements = 0
flags_of sort.Private = flag.PRIVATE
flags_of sort.Constant = flag.PUBLIC + flag.STATIC + flag.FINAL
flags_of sort.Abstract = flag.PUBLIC + flag.ABSTRACT
flags_of sort.Code = flag.PUBLIC
flags_of (sort.Native native) = flag.PUBLIC + flag.NATIVE
flags_of (sort.Static native) = flag.PUBLIC + flag.STATIC + flag.NATIVE

-- ---- the constant pool (4.4)

-- a class behind the entries so far: its name, and the class of that name
abbrev pub with_class : List Item → List ℕ → List Item
with_class pool name = pool ++ item.Utf8 name ∷ item.Class (length pool + 1) ∷ []

-- the same for the name of each line
abbrev pub with_classes : List Item → List Line → List Item
with_classes pool [] = pool
with_classes pool (line ∷ lines) = with_classes (with_class pool line.name) lines

-- the indices that so many classes get behind so many entries
abbrev pub classes_behind : ℕ → List Line → List ℕ
classes_behind entries [] = []
classes_behind entries (line ∷ lines) = (entries + 2) ∷ classes_behind (entries + 2) lines

-- the index of the first, or 0 where there is none
abbrev pub first_or_zero : List ℕ → ℕ
first_or_zero [] = 0
first_or_zero (index ∷ indices) = index

-- each of these behind the entries so far
abbrev pub with_items : List Item → List Item → List Item
with_items pool [] = pool
with_items pool (one ∷ items) = with_items (pool ++ one ∷ []) items

-- What the code of `java/lang/Thread.run` names, from index 7 on, since a class, a superclass and a superinterface stand before it: the
-- field `target` of the class itself, and the method `run` of the superinterface.
abbrev pub run_items : List Item
run_items =
    item.Utf8 (codes "Code") ∷ item.Utf8 (codes "target") ∷ item.Utf8 (codes "Ljava/lang/Runnable;") ∷ item.NameAndType 8 9 ∷ item.Fieldref 2 10
    ∷ item.Utf8 (codes "run") ∷ item.Utf8 (codes "()V") ∷ item.NameAndType 12 13 ∷ item.InterfaceMethodref 6 14 ∷ []

-- what the code among these lines names, if there is any
unfoldable pub with_code : List Item → List Line → List Item
with_code pool lines = if list_any (λ line. is_part Bytecode line.sort) lines then with_items pool run_items else pool

-- the name and the descriptor of each line
abbrev pub with_members : List Item → List Line → List Item
with_members pool [] = pool
with_members pool (line ∷ lines) = with_members (pool ++ item.Utf8 line.name ∷ item.Utf8 line.desc ∷ []) lines

-- ---- fields and methods (4.5, 4.6)

-- the code of a method that has a body (4.7.3)
abbrev pub code_of : Sort → Option Code
code_of sort.Code = Some (record { max_stack = 1; max_locals = 1; bytes = RUN; rows = [] })
code_of _ = None

-- the field or method of a line whose name got an index, and its descriptor the next
abbrev pub member_of : ℕ → Line → Member
member_of index line = record { flags = flags_of line.sort; name = index; desc = index + 1; constant = None; code = code_of line.sort }

-- those of lines whose names and descriptors stand behind so many entries
abbrev pub members_behind : ℕ → List Line → List Member
members_behind entries [] = []
members_behind entries (line ∷ lines) = member_of (entries + 1) line ∷ members_behind (entries + 2) lines

-- ---- the whole (4.1)

-- the class itself, its superclass, its superinterfaces and its code stand in the constant pool, in this order
abbrev pub own_pool : Row → List Item
own_pool row = with_class [] row.head.name

abbrev pub superclass_pool : Row → List Item
superclass_pool row = with_classes (own_pool row) (of_part Superclass row.lines)

abbrev pub superinterfaces_pool : Row → List Item
superinterfaces_pool row = with_classes (superclass_pool row) (of_part Superinterface row.lines)

abbrev pub header_pool : Row → List Item
header_pool row = with_code (superinterfaces_pool row) row.lines

-- then the names and descriptors of its fields, and those of its methods
abbrev pub fields_pool : Row → List Item
fields_pool row = with_members (header_pool row) (of_part Field row.lines)

abbrev pub methods_pool : Row → List Item
methods_pool row = with_members (fields_pool row) (of_part Method row.lines)

-- the indices of the superclass, if there is one, and of the superinterfaces
abbrev pub superclass_index : Row → ℕ
superclass_index row = first_or_zero (classes_behind (length (own_pool row)) (of_part Superclass row.lines))

abbrev pub superinterface_indices : Row → List ℕ
superinterface_indices row = classes_behind (length (superclass_pool row)) (of_part Superinterface row.lines)

-- the class file of a row
unfoldable pub made : Row → Parts
made row = record {
  minor = 0;
  major = 52;
  pool = methods_pool row;
  flags = flags_of row.head.sort;
  this_class = 2;
  super_class = superclass_index row;
  interfaces = superinterface_indices row;
  fields = members_behind (length (header_pool row)) (of_part Field row.lines);
  methods = members_behind (length (fields_pool row)) (of_part Method row.lines);
}

-- reading what is written of a row's class file gives it again
abbrev pub IsReread : Row → Type 0
IsReread row = rebuilt (made row) ≡ Ok (made row)

-- the built-in class of a name
unfoldable pub builtin : List ℕ → Option Parts
builtin name = option_map made (named name rows)

-- the built-in class at a place of the table, from 0 on
unfoldable pub builtin_at : ℕ → Option Parts
builtin_at place = option_map made (slice_get rows place)
