-- What every isolate in memory keeps, so that numbers stand for names, and what stays of numbers when an isolate changes.
use Rattle.std.specs.Prelude.{◌≡◌, ◌<◌, ℕ, List, length, slice_get, slice_index, All, Some, ◌≤◌, ◌^◌, IfSome}
use Rattle.mvm_base.specs.declared.descriptor.FieldShape.{FieldShape}
use Rattle.mvm_heap.specs.declared.kind.ItemKind.TheVariants as item
use Rattle.mvm_heap.specs.declared.kind.ObjectKind.{ObjectKind}
use Rattle.mvm_heap.specs.declared.kind.ObjectKind.TheVariants as sort
use Rattle.mvm_mirror.specs.Arrays.{shapes_of}
use Rattle.mvm_mirror.specs.Kept.{classes_of, seen_of}
use Rattle.mvm_mirror.specs.Seen.{IsNumbered}
use Rattle.mvm_mirror.specs.declared.mirrors.Mirrors.{Mirrors}
use Rattle.mvm_native.specs.Unclassed.{Head, heads_of}
use Rattle.mvm_native.specs.declared.out.Thrown.{Thrown}
use Rattle.mvm_region.specs.declared.monitor.Monitor.{Monitor}
use Rattle.mvm_set.specs.declared.class.Lineage.{Lineage}
use Rattle.mvm_table.specs.Files.{File}
use Rattle.mvm_table.specs.Loads.{IsLoaded}
use Rattle.mvm_isolate.specs.Numbered.{Numbered}
use Rattle.mvm_isolate.specs.Thrown.{name_of_thrown, place_of_thrown, STREAM, THREAD}
use Rattle.mvm_isolate.specs.Types.{STRING, OBJECT, CLASS}
use Rattle.mvm_isolate.specs.declared.known.Known.{Known}

-- ---- what is kept

-- the class number of an object is below the number of classes, that of an array of references below the number of array classes
abbrev pub IsTyped : ℕ → ℕ → ObjectKind → ℕ → Type 0
IsTyped classes arrays sort.Object class = class < classes
IsTyped classes arrays (sort.Array item.Ref) class = class < arrays
IsTyped classes arrays sort class = Unit {0}

abbrev pub HasType : ℕ → ℕ → Head → Type 0
HasType classes arrays head = IsTyped classes arrays head.sort head.class

-- the owner of a monitor is one of 64 threads, and it was entered at most 2^32 times
pub record IsMonitor (monitor : Monitor) : Type 0 where
  pub owner : IfSome monitor.owner (λ thread. thread < 64)
  pub count : monitor.count ≤ 2 ^ 32

-- the class is the one that loading gives for its name, in this set
pub record IsOfSet (files : List (List File)) (set : ℕ) (class : Lineage) : Type 0 where
  pub loaded : IsLoaded files class
  pub is_set : class.set ≡ set

abbrev pub AreOfSet : List (List File) → ℕ → List Lineage → Type 0
AreOfSet files set classes = All (IsOfSet files set) classes

-- the numbers of the classes of what the machine throws, each at its place
pub record AreThrownIn (classes : List Lineage) (numbers : List ℕ) : Type 0 where
  pub there : (thrown : Thrown) → place_of_thrown thrown < length numbers
  pub named : (thrown : Thrown) → IsNumbered classes (slice_index numbers (place_of_thrown thrown)) (name_of_thrown thrown)

-- the numbers of the classes of which the machine itself makes objects
pub record AreKnownIn (classes : List Lineage) (known : Known) : Type 0 where
  pub string : IsNumbered classes known.string STRING
  pub object : IsNumbered classes known.object OBJECT
  pub class : IsNumbered classes known.class CLASS
  pub stream : IsNumbered classes known.stream STREAM
  pub thread : IsNumbered classes known.thread THREAD
  pub thrown : AreThrownIn classes known.thrown

pub record IsSound (n : Numbered) (own : Known) : Type 0 where
  pub objects : All (HasType (length (classes_of n.mirrors)) (length n.arrays)) (heads_of n.env.heap.state.objects)
  pub monitors : All IsMonitor n.env.heap.state.monitors
  pub classes : AreOfSet n.files n.env.launch.set (classes_of n.mirrors)
  -- the set is one of the table's
  pub set : n.env.launch.set < length n.files
  pub known : AreKnownIn (classes_of n.mirrors) own

-- ---- what stays

-- a number stays that of its class
abbrev pub ClassesStay : List Lineage → List Lineage → Type 0
ClassesStay old new = (mirror : ℕ) (class : Lineage) → slice_get old mirror ≡ Some class → slice_get new mirror ≡ Some class

-- a number stays that of its name
abbrev pub NumbersStay : List Lineage → List Lineage → Type 0
NumbersStay old new = (mirror : ℕ) (name : List ℕ) → IsNumbered old mirror name → IsNumbered new mirror name

-- a number stays that of its array class
abbrev pub ShapesStay : List FieldShape → List FieldShape → Type 0
ShapesStay old new = (row : ℕ) (shape : FieldShape) → slice_get old row ≡ Some shape → slice_get new row ≡ Some shape

-- what numbers stand for stays, and so does what is looked up
pub record Grows (old new : Numbered) : Type 0 where
  pub classes : ClassesStay (classes_of old.mirrors) (classes_of new.mirrors)
  pub arrays : ShapesStay (shapes_of old.arrays) (shapes_of new.arrays)
  pub files : new.files ≡ old.files
  pub launch : new.env.launch ≡ old.env.launch

-- classes were loaded: what numbers stand for stays, and by names all is as it was
pub record Loads (files : List (List File)) (set : ℕ) (old new : Mirrors) : Type 0 where
  pub classes : ClassesStay (classes_of old) (classes_of new)
  pub numbers : NumbersStay (classes_of old) (classes_of new)
  pub loaded : AreOfSet files set (classes_of new)
  pub seen : seen_of new ≡ seen_of old
