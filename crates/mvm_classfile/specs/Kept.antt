-- What every class file keeps (JVM Specification, chapter 4), said of its parts, so that no layer above asks for it again.
use Rattle.std.specs.Prelude.{◌≡◌, ◌<◌, ◌≤◌, ◌⊎◌, ℕ, ◌+◌, ◌^◌, List, [], ◌∷◌, length, Bool, true, false, not, if◌then◌else◌, All, AllPairs, IsTrue, is_some, IfSome, None, Ok, FitsSigned, codes}
use Rattle.std.specs.Int.{w32, w64}
use Rattle.std.specs.Option.{IsSomeAnd}
use Rattle.mvm_base.specs.Descriptor.{IsField, IsMethod, spelled_field, spelled_method, field_of, method_of, slots}
use Rattle.mvm_base.specs.declared.descriptor.FieldShape.{FieldShape}
use Rattle.mvm_base.specs.declared.descriptor.MethodShape.{MethodShape}
use Rattle.mvm_base.specs.ModifiedUtf8.{AreUnits}
use Rattle.mvm_layout.specs.Entries.{takes_two}
use Rattle.mvm_layout.specs.Flags.{is_static, is_interface, has_no_code}
use Rattle.mvm_layout.specs.Pool.{entry, is_class, is_text, text}
use Rattle.mvm_layout.specs.declared.parts.Code.{Code}
use Rattle.mvm_layout.specs.declared.parts.Item.{Item}
use Rattle.mvm_layout.specs.declared.parts.Item.TheVariants.{Utf8, Integer, Float, Long, Double, Upper, Class, Str, Fieldref, Methodref, InterfaceMethodref, NameAndType, MethodHandle, MethodType, InvokeDynamic}
use Rattle.mvm_layout.specs.declared.parts.Member.{Member}
use Rattle.mvm_layout.specs.declared.parts.Parts.{Parts}
use Rattle.mvm_layout.specs.declared.parts.Row.{Row}
use Rattle.mvm_shape.specs.Links.{is_linked}
use Rattle.mvm_shape.specs.Members.{is_unqualified, is_method_name, is_constant_of}
use Rattle.mvm_shape.specs.Shape.{names_object}

-- ---- the constant pool (4.4)

-- each index in an entry names an entry of the kind that it should
abbrev pub IsLinked : List Item → Type 0
IsLinked pool = All (λ item. IsTrue (is_linked pool item)) pool

-- ---- the class (4.1)

-- the entry of the index is a class (4.4.1)
abbrev pub IsClass : List Item → ℕ → Type 0
IsClass pool index = IsTrue (is_class (entry pool index))

pub record HasClasses (parts : Parts) : Type 0 where
  -- the class itself
  pub this_class : IsClass parts.pool parts.this_class
  -- the direct superclass, which `java/lang/Object` alone may be without
  pub super_class : IsClass parts.pool parts.super_class ⊎ ((parts.super_class ≡ 0) × IsTrue (names_object parts.pool parts.this_class))
  -- that of an interface is `java/lang/Object`
  pub of_interface : IsTrue (is_interface parts.flags) → IsTrue (names_object parts.pool parts.super_class)
  -- the direct superinterfaces
  pub interfaces : All (IsClass parts.pool) parts.interfaces

-- ---- fields (4.5)

-- the text is the descriptor of a field of this shape, and is parsed so (4.3.2)
pub record IsFieldDescriptor (text : List ℕ) : Type 0 where
  pub shape : FieldShape
  pub is_field : IsField shape
  pub spelled : text ≡ spelled_field shape
  pub parsed : field_of text ≡ Ok shape

pub record IsClassField (pool : List Item) (field : Member) : Type 0 where
  -- its name is an unqualified name (4.2.2)
  pub name : IsSomeAnd (text pool field.name) (λ name. IsTrue (is_unqualified name))
  pub desc : IsSomeAnd (text pool field.desc) IsFieldDescriptor
  -- it is static where it has a ConstantValue, which is of the kind that its descriptor wants (4.7.2)
  pub constant : IfSome field.constant (λ index. IsTrue (is_static field.flags) × IsTrue (is_constant_of (text pool field.desc) (entry pool index)))
  pub code : field.code ≡ None

-- ---- methods (4.6)

-- how many slots of arguments `this` takes in a method of these flags
abbrev pub slots_of_this : ℕ → ℕ
slots_of_this flags = if is_static flags then 0 else 1

-- the text is the descriptor of a method of this shape, and is parsed so; it has at most 255 slots of arguments, `this` counted (4.3.3)
pub record IsMethodDescriptor (flags : ℕ) (text : List ℕ) : Type 0 where
  pub shape : MethodShape
  pub is_method : IsMethod shape
  pub spelled : text ≡ spelled_method shape
  pub parsed : method_of text ≡ Ok shape
  pub few : slots shape.params + slots_of_this flags ≤ 255

pub record IsClassMethod (pool : List Item) (method : Member) : Type 0 where
  -- its name is an unqualified name without < and >, or one of the two special ones (4.2.2)
  pub name : IsSomeAnd (text pool method.name) (λ name. IsTrue (is_method_name name))
  pub desc : IsSomeAnd (text pool method.desc) (IsMethodDescriptor method.flags)
  -- it has code exactly where it is neither native nor abstract (4.7.3)
  pub has_code : is_some method.code ≡ not (has_no_code method.flags)
  -- its code has 1 to 65,535 bytes (4.7.3)
  pub code : IfSome method.code (λ code. (1 ≤ length code.bytes) × (length code.bytes ≤ 65535))
  pub constant : method.constant ≡ None

-- ---- fields and methods apart (4.5, 4.6)

-- equal name and descriptor, by their texts
abbrev pub IsAlike : List Item → Member → Member → Type 0
IsAlike pool one other = (text pool one.name ≡ text pool other.name) × (text pool one.desc ≡ text pool other.desc)

-- no two of them
abbrev pub AreApart : List Item → List Member → Type 0
AreApart pool members = AllPairs (λ one other. IsAlike pool one other → ⊥) members

-- ---- numbers (4.1, 4.4 to 4.7)

-- a number of one byte, and of two
abbrev pub IsU1 : ℕ → Type 0
IsU1 n = n < 2 ^ 8

abbrev pub IsU2 : ℕ → Type 0
IsU2 n = n < 2 ^ 16

-- the numbers of an entry fit their fields; the upper one of a long or double is no entry of its own
abbrev pub ItemFits : Item → Type 0
ItemFits (Utf8 text) = AreUnits text
ItemFits (Integer n) = FitsSigned w32 n
ItemFits (Float bits) = bits < 2 ^ 32
ItemFits (Long n) = FitsSigned w64 n
ItemFits (Double bits) = bits < 2 ^ 64
ItemFits Upper = ⊥
ItemFits (Class name) = IsU2 name
ItemFits (Str text) = IsU2 text
ItemFits (Fieldref class member) = IsU2 class × IsU2 member
ItemFits (Methodref class member) = IsU2 class × IsU2 member
ItemFits (InterfaceMethodref class member) = IsU2 class × IsU2 member
ItemFits (NameAndType name desc) = IsU2 name × IsU2 desc
ItemFits (MethodHandle kind reference) = IsU1 kind × IsU2 reference
ItemFits (MethodType desc) = IsU2 desc
ItemFits (InvokeDynamic bootstrap member) = IsU2 bootstrap × IsU2 member

-- The numbers of the entries fit their fields. Behind each long and double stands its upper entry, and nowhere else; whether the first is
-- one is said before them.
abbrev pub PoolFits : Bool → List Item → Type 0
PoolFits false [] = Unit {0}
PoolFits true [] = ⊥
PoolFits false (item ∷ items) = ItemFits item × PoolFits (takes_two item) items
PoolFits true (item ∷ items) = (item ≡ Upper) × PoolFits false items

pub record RowFits (row : Row) : Type 0 where
  pub start : IsU2 row.start
  pub end : IsU2 row.end
  pub handler : IsU2 row.handler
  pub catch_class : IsU2 row.catch_class

pub record CodeFits (code : Code) : Type 0 where
  pub max_stack : IsU2 code.max_stack
  pub max_locals : IsU2 code.max_locals
  pub bytes : All IsU1 code.bytes
  pub rows : All RowFits code.rows

-- some entry is this text
abbrev pub HasText : List Item → List ℕ → Type 0
HasText pool wanted = (index : ℕ) × IsTrue (is_text wanted (text pool index))

-- The numbers of a field or a method fit their fields. The name of the attribute that it is written with is there (4.7.2, 4.7.3).
pub record MemberFits (pool : List Item) (member : Member) : Type 0 where
  pub flags : IsU2 member.flags
  pub name : IsU2 member.name
  pub desc : IsU2 member.desc
  pub constant : IfSome member.constant (λ index. IsU2 index × HasText pool (codes "ConstantValue"))
  pub code : IfSome member.code (λ code. CodeFits code × HasText pool (codes "Code"))

-- each number fits its field
pub record NumbersFit (parts : Parts) : Type 0 where
  pub minor : IsU2 parts.minor
  pub major : IsU2 parts.major
  pub count : length parts.pool < 65535
  pub pool : PoolFits false parts.pool
  pub flags : IsU2 parts.flags
  pub this_class : IsU2 parts.this_class
  pub super_class : IsU2 parts.super_class
  pub interfaces : All IsU2 parts.interfaces
  pub fields : All (MemberFits parts.pool) parts.fields
  pub methods : All (MemberFits parts.pool) parts.methods
