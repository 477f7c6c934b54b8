-- The constant pool by index (JVM Specification 4.4): which kind of entry stands there, and what it leads to.
use Rattle.std.specs.Prelude.{ℕ, zero, suc, List, Bool, true, false, Option, Some, None, slice_get}
use Rattle.std.specs.Str.{bytes_eq}
use Rattle.mvm_layout.specs.declared.parts.Item.{Item}
use Rattle.mvm_layout.specs.declared.parts.Item.TheVariants.{Utf8, Integer, Long, Class, Str, Fieldref, Methodref, InterfaceMethodref, NameAndType}

-- The entry of an index, which is counted from 1. Behind the last there is none; behind a long or a double stands its upper one.
abbrev pub entry : List Item → ℕ → Option Item
entry pool zero = None
entry pool (suc n) = slice_get pool n

-- ---- kinds of entry

-- a text (4.4.7)
abbrev pub is_utf8 : Option Item → Bool
is_utf8 (Some (Utf8 text)) = true
is_utf8 _ = false

-- a class, an interface or an array class (4.4.1)
abbrev pub is_class : Option Item → Bool
is_class (Some (Class name)) = true
is_class _ = false

-- a field (4.4.2)
abbrev pub is_field : Option Item → Bool
is_field (Some (Fieldref class member)) = true
is_field _ = false

-- a method of a class (4.4.2)
abbrev pub is_method : Option Item → Bool
is_method (Some (Methodref class member)) = true
is_method _ = false

-- a method of an interface (4.4.2)
abbrev pub is_interface_method : Option Item → Bool
is_interface_method (Some (InterfaceMethodref class member)) = true
is_interface_method _ = false

-- a long (4.4.5)
abbrev pub is_long : Option Item → Bool
is_long (Some (Long n)) = true
is_long _ = false

-- what ldc pushes here (6.5): an int, a string or a class; floats, method types and method handles are left out
abbrev pub is_loadable : Option Item → Bool
is_loadable (Some (Integer n)) = true
is_loadable (Some (Str text)) = true
is_loadable (Some (Class name)) = true
is_loadable _ = false

-- a name and a descriptor (4.4.6)
abbrev pub is_name_and_type : Option Item → Bool
is_name_and_type (Some (NameAndType name desc)) = true
is_name_and_type _ = false

-- ---- what entries lead to

abbrev pub text_of : Option Item → Option (List ℕ)
text_of (Some (Utf8 text)) = Some text
text_of _ = None

-- the text of an index
abbrev pub text : List Item → ℕ → Option (List ℕ)
text pool n = text_of (entry pool n)

abbrev pub class_name_of : List Item → Option Item → Option (List ℕ)
class_name_of pool (Some (Class name)) = text pool name
class_name_of pool _ = None

-- the name of the class of an index
abbrev pub class_name : List Item → ℕ → Option (List ℕ)
class_name pool n = class_name_of pool (entry pool n)

-- there is such a text, and it is this one
abbrev pub is_text : List ℕ → Option (List ℕ) → Bool
is_text wanted (Some found) = bytes_eq found wanted
is_text wanted None = false

-- of a field or a method: the indices of its class, and of its name and type
abbrev pub member_of : Option Item → Option (ℕ × ℕ)
member_of (Some (Fieldref class member)) = Some (class, member)
member_of (Some (Methodref class member)) = Some (class, member)
member_of (Some (InterfaceMethodref class member)) = Some (class, member)
member_of _ = None

-- of a field or a method by its index: the indices of its class, and of its name and type
abbrev pub member : List Item → ℕ → Option (ℕ × ℕ)
member pool n = member_of (entry pool n)

abbrev pub name_and_type_of : Option Item → Option (ℕ × ℕ)
name_and_type_of (Some (NameAndType name desc)) = Some (name, desc)
name_and_type_of _ = None

-- of a name and type by its index: the indices of the name, and of the descriptor
abbrev pub name_and_type : List Item → ℕ → Option (ℕ × ℕ)
name_and_type pool n = name_and_type_of (entry pool n)
