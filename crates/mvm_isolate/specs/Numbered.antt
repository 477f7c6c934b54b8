-- An isolate as it stands in memory, by numbers, and what it is by names.
use Rattle.std.specs.Prelude.{◌<◌, ℕ, List, map, length, slice_get, Option, Some, None}
use Rattle.mvm_base.specs.declared.descriptor.Base.TheVariants as base
use Rattle.mvm_base.specs.declared.descriptor.FieldShape.{FieldShape}
use Rattle.mvm_heap.specs.declared.kind.ItemKind.TheVariants as item
use Rattle.mvm_heap.specs.declared.kind.ObjectKind.{ObjectKind}
use Rattle.mvm_heap.specs.declared.kind.ObjectKind.TheVariants as sort
use Rattle.mvm_mirror.specs.Arrays.{objects_of, shapes_of}
use Rattle.mvm_mirror.specs.Kept.{classes_of, seen_of}
use Rattle.mvm_mirror.specs.Seen.{slots}
use Rattle.mvm_mirror.specs.declared.arrays.Arrays.{Arrays}
use Rattle.mvm_mirror.specs.declared.mirrors.Mirrors.{Mirrors}
use Rattle.mvm_native.specs.Unclassed.{Head, heads_of, unclassed_state}
use Rattle.mvm_native.specs.declared.env.Env.{Env}
use Rattle.mvm_set.specs.Names.{own_name}
use Rattle.mvm_set.specs.declared.class.Lineage.{Lineage}
use Rattle.mvm_table.specs.Files.{File}
use Rattle.mvm_isolate.specs.Isolate.{Isolate}
use Rattle.mvm_isolate.specs.Look.{Look, look_in}
use Rattle.mvm_isolate.specs.Types.{ReferenceType, of_class, of_array, plain_type, OBJECT}
use Rattle.mvm_isolate.specs.declared.type_at.TypeAt.{TypeAt}
use Rattle.mvm_isolate.specs.declared.type_at.TypeAt.TheVariants as at

pub record Numbered : Type 0 where
  -- heap, output, waiting threads, launch, and how each link stands on this side
  pub env : Env
  -- the classes that were met, by number
  pub mirrors : Mirrors
  -- the array classes that were met, by number
  pub arrays : Arrays
  -- the files of all sets
  pub files : List (List File)

-- what is looked up of classes: the values that the definitions give, on the files of the isolate's set
abbrev pub look_of : Numbered → Look
look_of n = look_in n.files n.env.launch.set

-- ---- numbers of types

abbrev pub or_object : Option (List ℕ) → List ℕ
or_object (Some name) = name
or_object None = OBJECT

abbrev pub name_of : Option Lineage → List ℕ
name_of (Some class) = or_object (own_name class.file)
name_of None = OBJECT

-- the name of the class of a number; where there is none, no more is known than that it is an object
unfoldable pub name_in : List Lineage → ℕ → List ℕ
name_in classes mirror = name_of (slice_get classes mirror)

abbrev pub or_objects : Option FieldShape → FieldShape
or_objects (Some shape) = shape
or_objects None = record { dims = 1; base = base.Object OBJECT }

-- the shape of the array class of a number
unfoldable pub shape_in : List FieldShape → ℕ → FieldShape
shape_in shapes row = or_objects (slice_get shapes row)

-- the class of a number
abbrev pub class_at : Numbered → ℕ → Option Lineage
class_at n mirror = slice_get (classes_of n.mirrors) mirror

abbrev pub name_at : Numbered → ℕ → List ℕ
name_at n mirror = name_in (classes_of n.mirrors) mirror

abbrev pub shape_at : Numbered → ℕ → FieldShape
shape_at n row = shape_in (shapes_of n.arrays) row

-- the type that a number stands for
unfoldable pub type_of : Numbered → TypeAt → ReferenceType
type_of n (at.Class mirror) = of_class (name_at n mirror)
type_of n (at.Array row) = of_array (shape_at n row)
type_of n (at.Numbers kind) = plain_type (sort.Array kind)

-- there is a class of this number
abbrev pub IsClass : Numbered → ℕ → Type 0
IsClass n mirror = mirror < length (classes_of n.mirrors)

-- there is an array class of this number
abbrev pub IsArray : Numbered → ℕ → Type 0
IsArray n row = row < length n.arrays

-- there is a type of this number; references have array classes of their own
abbrev pub IsType : Numbered → TypeAt → Type 0
IsType n (at.Class mirror) = IsClass n mirror
IsType n (at.Array row) = IsArray n row
IsType n (at.Numbers item.Ref) = ⊥
IsType n (at.Numbers kind) = Unit {0}

-- the class of a number has a static field of this slot
abbrev pub IsSlot : Numbered → ℕ → ℕ → Type 0
IsSlot n mirror slot = slot < slots (classes_of n.mirrors) mirror

-- ---- by names

-- What an object is: of an object with fields its class, and of an array of references its array class, by their numbers; of any other
-- object its sort tells it.
abbrev pub type_by : List Lineage → List FieldShape → ObjectKind → ℕ → ReferenceType
type_by classes shapes sort.Object class = of_class (name_in classes class)
type_by classes shapes (sort.Array item.Ref) class = of_array (shape_in shapes class)
type_by classes shapes sort class = plain_type sort

abbrev pub type_of_head : List Lineage → List FieldShape → Head → ReferenceType
type_of_head classes shapes head = type_by classes shapes head.sort head.class

-- what objects are, by their sorts and class numbers
unfoldable pub types_in : List Lineage → List FieldShape → List Head → List ReferenceType
types_in classes shapes heads = map (type_of_head classes shapes) heads

-- The isolate by names: no number of a class, of an array class or of a slot is in it.
unfoldable pub named : Numbered → Isolate
named n = record {
  heap = unclassed_state n.env.heap.state;
  types = types_in (classes_of n.mirrors) (shapes_of n.arrays) (heads_of n.env.heap.state.objects);
  classes = seen_of n.mirrors;
  arrays = objects_of n.arrays;
  output = n.env.output;
  waits = n.env.waits;
}
