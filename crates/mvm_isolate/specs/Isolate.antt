-- What the threads of an isolate share and change, by names (JVM Specification 2.5.3 to 2.5.5): its heap, what it keeps of its classes, its
-- output, and the threads that wait on objects.
use Rattle.std.specs.Prelude.{ℕ, List, [], ◌∷◌, ◌++◌, length, map, drop, Option, Some, None, Result, Ok, Err, slice_get}
use Rattle.mvm_base.specs.Answers.{◌>>=◌}
use Rattle.mvm_base.specs.declared.descriptor.FieldShape.{FieldShape}
use Rattle.mvm_base.specs.declared.value.Word.{Word}
use Rattle.mvm_heap.specs.Heap.{placed, text, zeros, intern, written}
use Rattle.mvm_heap.specs.Objects.{Object, State}
use Rattle.mvm_heap.specs.declared.kind.AllocFault.{AllocFault}
use Rattle.mvm_heap.specs.declared.kind.ObjectKind.TheVariants as sort
use Rattle.mvm_history.specs.declared.launch.Launch.{Launch}
use Rattle.mvm_mirror.specs.Arrays.{changed}
use Rattle.mvm_mirror.specs.Seen.{Seen, with_object}
use Rattle.mvm_monitor.specs.Waits.{Waits}
use Rattle.mvm_native.specs.Machine.{Machine}
use Rattle.mvm_native.specs.declared.env.LinkUse.{LinkUse}
use Rattle.mvm_native.specs.declared.out.Thrown.{Thrown}
use Rattle.mvm_native.specs.declared.out.Thrown.TheVariants.{OutOfMemoryError}
use Rattle.mvm_isolate.specs.declared.stop.Stop.{Stop}
use Rattle.mvm_isolate.specs.declared.stop.Stop.TheVariants.{Throw}
use Rattle.mvm_isolate.specs.Types.{ReferenceType, of_class, of_array, items_of, plain_type, STRING, CLASS}

pub record Isolate : Type 0 where
  -- the objects by number, each with a monitor, the numbers of the interned texts, and how many words there are; an object's class number is 0
  pub heap : State
  -- what each object is
  pub types : List ReferenceType
  -- of each class, by name: how far its initialisation is, its static fields, its class object if it has one
  pub classes : Seen
  -- the class object of an array class, if it has one
  pub arrays : FieldShape → Option ℕ
  pub output : List ℕ
  pub waits : Waits

-- an attempt throws an object of this class
abbrev pub stopped : {A : Type 0} → Thrown → Result A Stop
stopped thrown = Err (Throw thrown)

-- ---- objects

-- what the object of a number is, if there is one
unfoldable pub type_at : Isolate → ℕ → Option ReferenceType
type_at s object = slice_get s.types object

-- a new object is of this type; where its words are missing, that is thrown
abbrev pub allocated : ReferenceType → Isolate → Result (ℕ × State) AllocFault → Result (ℕ × Isolate) Stop
allocated type s (Ok x) = Ok (x.0, record s { heap = x.1; types = s.types ++ type ∷ [] })
allocated type s (Err fault) = stopped OutOfMemoryError

-- a new object of a class, with so many fields, each 0 or null
unfoldable pub new_object : List ℕ → ℕ → Isolate → Result (ℕ × Isolate) Stop
new_object name fields s = allocated (of_class name) s (placed (zeros sort.Object 0 fields) s.heap)

-- a new array of so many items, each 0 or null
unfoldable pub new_array : FieldShape → ℕ → Isolate → Result (ℕ × Isolate) Stop
new_array shape count s = allocated (of_array shape) s (placed (zeros (sort.Array (items_of shape)) 0 count) s.heap)

-- a new text
unfoldable pub new_text : List ℕ → Isolate → Result (ℕ × Isolate) Stop
new_text units s = allocated (of_class STRING) s (placed (text units) s.heap)

-- ---- objects that came without a type: texts, and arrays of numbers

abbrev pub plain_type_of : Object → ReferenceType
plain_type_of o = plain_type o.sort

-- the objects that have no type yet get theirs by their sort
abbrev pub typed : List Object → List ReferenceType → List ReferenceType
typed objects types = types ++ map plain_type_of (drop (length types) objects)

abbrev pub interned_in : Isolate → Result (ℕ × State) AllocFault → Result (ℕ × Isolate) Stop
interned_in s (Ok x) = Ok (x.0, record s { heap = x.1; types = typed x.1.objects s.types })
interned_in s (Err fault) = stopped OutOfMemoryError

-- the one interned text of these units (5.1)
unfoldable pub interned_text : List ℕ → Isolate → Result (ℕ × Isolate) Stop
interned_text units s = interned_in s (intern units s.heap)

-- ---- native methods

-- an isolate, what it was launched with, which of its threads calls, and how its links stand on this side
abbrev pub machine_in : Launch → ℕ → List LinkUse → Isolate → Machine
machine_in launch thread links s = record { heap = s.heap; output = s.output; waits = s.waits; launch = launch; thread = thread; links = links }

-- the isolate as a native method leaves it
abbrev pub after_native : Machine → Isolate → Isolate
after_native m s = record s { heap = m.heap; types = typed m.heap.objects s.types; output = m.output; waits = m.waits }

-- ---- class objects (Java SE 8 API, java.lang.Class)

abbrev pub class_object_of : ReferenceType → Isolate → Option ℕ
class_object_of (of_class name) s = s.classes.objects name
class_object_of (of_array shape) s = s.arrays shape

abbrev pub with_class_object : ReferenceType → ℕ → Isolate → Isolate
with_class_object (of_class name) object s = record s { classes = with_object name object s.classes }
with_class_object (of_array shape) object s = record s { arrays = changed shape (Some object) s.arrays }

abbrev pub known_or_new : Option ℕ → ReferenceType → Isolate → Result (ℕ × Isolate) Stop
known_or_new (Some object) type s = Ok (object, s)
known_or_new None type s = new_object CLASS 0 s >>= λ x. Ok (x.0, with_class_object type x.0 x.1)

-- the class object of a type, made where it was never wanted before
unfoldable pub class_object : ReferenceType → Isolate → Result (ℕ × Isolate) Stop
class_object type s = known_or_new (class_object_of type s) type s

-- ---- writing

-- a number of an object has another value
abbrev pub with_number : ℕ → ℕ → ℕ → Isolate → Isolate
with_number object place number s = record s { heap = record s.heap { objects = written s.heap.objects object place number } }
