-- How a class file is written (JVM Specification, chapter 4): without the attributes that are passed over.
use Rattle.std.specs.Prelude.{ℕ, ◌+◌, ◌^◌, List, [], ◌∷◌, ◌++◌, length, flat_map, Bool, true, false, ◌&&◌, nat_lt, nat_le, if◌then◌else◌, Option, Some, None, Result, Err, codes}
use Rattle.std.specs.Int.{w32, w64, cast_unsigned}
use Rattle.std.specs.List.{list_all}
use Rattle.std.specs.Str.{bytes_eq}
use Rattle.mvm_base.specs.Endian.{big_bytes}
use Rattle.mvm_base.specs.ModifiedUtf8.{spelled_all}
use Rattle.mvm_layout.specs.declared.fault.ClassFault.{ClassFault}
use Rattle.mvm_layout.specs.declared.fault.ClassFault.TheVariants.{Shape}
use Rattle.mvm_layout.specs.declared.parts.Item.{Item}
use Rattle.mvm_layout.specs.declared.parts.Item.TheVariants.{Utf8, Integer, Float, Long, Double, Upper, Class, Str, Fieldref, Methodref, InterfaceMethodref, NameAndType, MethodHandle, MethodType, InvokeDynamic}
use Rattle.mvm_layout.specs.declared.parts.Row.{Row}
use Rattle.mvm_layout.specs.declared.parts.Code.{Code}
use Rattle.mvm_layout.specs.declared.parts.Member.{Member}
use Rattle.mvm_layout.specs.declared.parts.Parts.{Parts}
use Rattle.mvm_classfile.specs.Reading.{reading}

abbrev pub u1 : ℕ → List ℕ
u1 n = big_bytes 1 n

abbrev pub u2 : ℕ → List ℕ
u2 n = big_bytes 2 n

abbrev pub u4 : ℕ → List ℕ
u4 n = big_bytes 4 n

-- ---- the constant pool (4.4)

-- a tag and an index
abbrev pub one_index : ℕ → ℕ → List ℕ
one_index tag n = u1 tag ++ u2 n

-- a tag and two indices
abbrev pub two_indices : ℕ → ℕ → ℕ → List ℕ
two_indices tag one other = u1 tag ++ u2 one ++ u2 other

unfoldable pub written_item : Item → List ℕ
written_item (Utf8 text) = u1 1 ++ u2 (length (spelled_all text)) ++ spelled_all text
written_item (Integer n) = u1 3 ++ u4 (cast_unsigned w32 n)
written_item (Float bits) = u1 4 ++ u4 bits
written_item (Long n) = u1 5 ++ big_bytes 8 (cast_unsigned w64 n)
written_item (Double bits) = u1 6 ++ big_bytes 8 bits
written_item Upper = []
written_item (Class name) = one_index 7 name
written_item (Str text) = one_index 8 text
written_item (Fieldref class member) = two_indices 9 class member
written_item (Methodref class member) = two_indices 10 class member
written_item (InterfaceMethodref class member) = two_indices 11 class member
written_item (NameAndType name desc) = two_indices 12 name desc
written_item (MethodHandle kind reference) = u1 15 ++ u1 kind ++ u2 reference
written_item (MethodType desc) = one_index 16 desc
written_item (InvokeDynamic bootstrap member) = two_indices 18 bootstrap member

abbrev pub is_text_item : List ℕ → Item → Bool
is_text_item wanted (Utf8 text) = bytes_eq text wanted
is_text_item wanted _ = false

-- the lowest index, counted from n, of this text among the entries, or 0 where there is none
abbrev pub index_from : ℕ → List ℕ → List Item → ℕ
index_from n wanted [] = 0
index_from n wanted (item ∷ items) = if is_text_item wanted item then n else index_from (n + 1) wanted items

-- the lowest entry of an attribute's name
unfoldable pub name_index : List Item → List ℕ → ℕ
name_index pool name = index_from 1 name pool

-- ---- attributes (4.7.2, 4.7.3)

-- a name, a length, a content
abbrev pub written_attribute : ℕ → List ℕ → List ℕ
written_attribute name content = u2 name ++ u4 (length content) ++ content

abbrev pub written_row : Row → List ℕ
written_row row = u2 row.start ++ u2 row.end ++ u2 row.handler ++ u2 row.catch_class

-- the content of a Code attribute, without attributes of its own
unfoldable pub written_code : Code → List ℕ
written_code code =
    u2 code.max_stack ++ u2 code.max_locals ++ u4 (length code.bytes) ++ code.bytes
    ++ u2 (length code.rows) ++ flat_map written_row code.rows ++ u2 0

-- the indices of these two names
pub record Names : Type 0 where
  pub constant : ℕ
  pub code : ℕ

unfoldable pub names_in : List Item → Names
names_in pool = record { constant = name_index pool (codes "ConstantValue"); code = name_index pool (codes "Code") }

abbrev pub constant_attribute : Names → Option ℕ → List (List ℕ)
constant_attribute names None = []
constant_attribute names (Some index) = written_attribute names.constant (u2 index) ∷ []

abbrev pub code_attribute : Names → Option Code → List (List ℕ)
code_attribute names None = []
code_attribute names (Some code) = written_attribute names.code (written_code code) ∷ []

abbrev pub attributes_of : Names → Member → List (List ℕ)
attributes_of names member = constant_attribute names member.constant ++ code_attribute names member.code

-- a count, and so many attributes
abbrev pub written_attributes : List (List ℕ) → List ℕ
written_attributes all = u2 (length all) ++ flat_map (λ attribute. attribute) all

-- ---- members, and the whole (4.1, 4.5, 4.6)

unfoldable pub written_member : Names → Member → List ℕ
written_member names member = u2 member.flags ++ u2 member.name ++ u2 member.desc ++ written_attributes (attributes_of names member)

unfoldable pub written_pool : List Item → List ℕ
written_pool pool = u2 (length pool + 1) ++ flat_map written_item pool

unfoldable pub written_members : Names → List Member → List ℕ
written_members names members = u2 (length members) ++ flat_map (written_member names) members

unfoldable pub written : Parts → List ℕ
written parts =
    u4 0xCAFEBABE ++ u2 parts.minor ++ u2 parts.major ++ written_pool parts.pool
    ++ u2 parts.flags ++ u2 parts.this_class ++ u2 parts.super_class
    ++ u2 (length parts.interfaces) ++ flat_map u2 parts.interfaces
    ++ written_members (names_in parts.pool) parts.fields ++ written_members (names_in parts.pool) parts.methods ++ u2 0

-- ---- parts that can be written

abbrev pub fits_item : Item → Bool
fits_item (Utf8 text) = nat_lt (length (spelled_all text)) (2 ^ 16)
fits_item _ = true

abbrev pub fits_code : Option Code → Bool
fits_code (Some code) = nat_lt (length code.rows) (2 ^ 16)
fits_code None = true

-- each list is short enough for its count
unfoldable pub lists_fit : Parts → Bool
lists_fit parts =
    nat_lt (length parts.pool + 1) (2 ^ 16) && list_all fits_item parts.pool
    && nat_lt (length parts.interfaces) (2 ^ 16) && nat_lt (length parts.fields) (2 ^ 16) && nat_lt (length parts.methods) (2 ^ 16)
    && list_all (λ member. fits_code member.code) parts.fields && list_all (λ member. fits_code member.code) parts.methods

abbrev pub has_few_bytes : Option Code → Bool
has_few_bytes (Some code) = nat_le (length code.bytes) 65535
has_few_bytes None = true

-- each list is short enough for its count, and the code of a method has at most 65,535 bytes (4.7.3)
unfoldable pub is_countable : Parts → Bool
is_countable parts = lists_fit parts && list_all (λ member. has_few_bytes member.code) parts.methods

-- each list is short enough for its count, and the written form has fewer than 2^32 bytes
unfoldable pub fits : Parts → Bool
fits parts = lists_fit parts && nat_lt (length (written parts)) (2 ^ 32)

-- what reading the written form of the parts gives
unfoldable pub rebuilt : Parts → Result Parts ClassFault
rebuilt parts = if fits parts then reading (written parts) else Err (Shape 0)
