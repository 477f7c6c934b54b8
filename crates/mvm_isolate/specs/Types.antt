-- What a reference refers to (JVM Specification 2.4), and when an object is an instance of a type (6.5, under instanceof).
use Rattle.std.specs.Prelude.{ℕ, List, Bool, true, false, ◌==◌, nat_lt, if◌then◌else◌, codes}
use Rattle.std.specs.Str.{bytes_eq}
use Rattle.mvm_base.specs.declared.descriptor.Base.{Base}
use Rattle.mvm_base.specs.declared.descriptor.Base.TheVariants.{Boolean, Byte, Char, Short, Int, Long, Object}
use Rattle.mvm_base.specs.declared.descriptor.FieldShape.{FieldShape}
use Rattle.mvm_heap.specs.declared.kind.ItemKind.{ItemKind}
use Rattle.mvm_heap.specs.declared.kind.ItemKind.TheVariants as item
use Rattle.mvm_heap.specs.declared.kind.ObjectKind.{ObjectKind}
use Rattle.mvm_heap.specs.declared.kind.ObjectKind.TheVariants as sort
use Rattle.mvm_isolate.specs.Look.{Look, is_sub}

-- a class by its name, or an array class by its shape
pub data ReferenceType : Type 0 where
  of_class : List ℕ → ReferenceType
  of_array : FieldShape → ReferenceType

abbrev pub OBJECT : List ℕ
OBJECT = codes "java/lang/Object"

abbrev pub STRING : List ℕ
STRING = codes "java/lang/String"

abbrev pub CLASS : List ℕ
CLASS = codes "java/lang/Class"

-- ---- arrays

-- the items of an array of this shape: those of an array with more than one dimension are arrays
abbrev pub items_of_base : Base → ItemKind
items_of_base Boolean = item.Boolean
items_of_base Byte = item.Byte
items_of_base Char = item.Char
items_of_base Short = item.Short
items_of_base Int = item.Int
items_of_base Long = item.Long
items_of_base (Object name) = item.Ref

unfoldable pub items_of : FieldShape → ItemKind
items_of shape = if shape.dims == 1 then items_of_base shape.base else item.Ref

-- an array of one dimension of these items; what is known of references is no more than that they are objects
abbrev pub base_of : ItemKind → Base
base_of item.Boolean = Boolean
base_of item.Byte = Byte
base_of item.Char = Char
base_of item.Short = Short
base_of item.Int = Int
base_of item.Long = Long
base_of item.Ref = Object OBJECT

-- what an object is of which no more than its sort is known: a text, an array of numbers
abbrev pub plain_type : ObjectKind → ReferenceType
plain_type sort.Text = of_class STRING
plain_type (sort.Array kind) = of_array (record { dims = 1; base = base_of kind })
plain_type sort.Object = of_class OBJECT

-- ---- instances

abbrev pub base_suits : Look → Base → Base → Bool
base_suits look (Object name) (Object target) = is_sub look name target
base_suits look Boolean Boolean = true
base_suits look Byte Byte = true
base_suits look Char Char = true
base_suits look Short Short = true
base_suits look Int Int = true
base_suits look Long Long = true
base_suits look _ _ = false

-- every array is an object
abbrev pub is_any_object : Base → Bool
is_any_object (Object name) = bytes_eq name OBJECT
is_any_object _ = false

-- The items are of one primitive type, or those of the one are instances of the type of those of the other.
unfoldable pub array_suits : Look → FieldShape → FieldShape → Bool
array_suits look from to =
    if from.dims == to.dims then base_suits look from.base to.base else (
    if nat_lt to.dims from.dims then is_any_object to.base else false)

-- an object of the one type is an instance of the other
unfoldable pub suits : Look → ReferenceType → ReferenceType → Bool
suits look (of_class name) (of_class target) = is_sub look name target
suits look (of_class name) (of_array target) = false
suits look (of_array shape) (of_class target) = bytes_eq target OBJECT
suits look (of_array shape) (of_array target) = array_suits look shape target
