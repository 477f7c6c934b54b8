-- What the methods of StringBuilder do (Java SE 8 API, java.lang.StringBuilder). The array of its units is its first field, how many
-- there are its second. An array of chars that is too short for n units is replaced by one of max(2k + 2, n), k being its length.
use Rattle.std.specs.Prelude.{◌≡◌, ◌<◌, ◌≤◌, ℕ, ◌+◌, ◌*◌, max, List, [], ◌++◌, length, take, drop, slice_set, nat_le, Option, Some, None, Result, Ok, Err, if◌then◌else◌}
use Rattle.mvm_base.specs.declared.value.Kind.TheVariants as kind
use Rattle.mvm_base.specs.declared.value.Word.{Word}
use Rattle.mvm_base.specs.declared.value.Word.TheVariants.{Ref}
use Rattle.mvm_heap.specs.Heap.{object_at, number_at, placed, text, zeros, written}
use Rattle.mvm_heap.specs.Objects.{Object, State}
use Rattle.mvm_heap.specs.Sorts.{bits_of, word_of}
use Rattle.mvm_heap.specs.declared.kind.AllocFault.{AllocFault}
use Rattle.mvm_heap.specs.declared.kind.ItemKind.TheVariants.{Char}
use Rattle.mvm_heap.specs.declared.kind.ObjectKind.TheVariants.{Array}
use Rattle.mvm_native.specs.declared.out.Out.{Out}
use Rattle.mvm_native.specs.declared.out.Out.TheVariants.{Value, Throw}
use Rattle.mvm_native.specs.declared.out.Thrown.TheVariants.{OutOfMemoryError}
use Rattle.mvm_native.specs.Machine.{Machine, gives_number, made}
use Rattle.mvm_native.specs.Throwables.{HasTwo}

-- ---- what a builder holds

-- its array, or null
abbrev pub array_of : List Object → ℕ → Word
array_of os n = word_of kind.Ref (number_at os n 0)

abbrev pub count_of : List Object → ℕ → ℕ
count_of os n = number_at os n 1

abbrev pub chars_in : List Object → Word → List ℕ
chars_in os (Ref a) = (object_at os a).contents
chars_in os _ = []

-- the units of a builder
abbrev pub built : List Object → ℕ → List ℕ
built os n = take (count_of os n) (chars_in os (array_of os n))

abbrev pub HasArray : List Object → Word → ℕ → Type 0
HasArray os (Ref a) count = (a < length os) × ((object_at os a).sort ≡ Array Char) × (count ≤ length (object_at os a).contents)
HasArray os _ count = count ≡ 0

-- its fields hold null and 0, or an array of chars and a count that is not above the array's length
pub record IsBuilder (os : List Object) (n : ℕ) : Type 0 where
  pub object : HasTwo os n
  pub array : HasArray os (array_of os n) (count_of os n)

-- ---- what is left

-- the builder holds this array and this count
abbrev pub holding : ℕ → Word → ℕ → List Object → List Object
holding n array count os = written (written os n 0 (bits_of array)) n 1 count

-- an array begins with these units
unfoldable pub begun : List Object → ℕ → List ℕ → List Object
begun os a units = slice_set os a (record (object_at os a) { contents = units ++ drop (length units) (object_at os a).contents })

abbrev pub begun_in : List Object → Word → List ℕ → List Object
begun_in os (Ref a) units = begun os a units
begun_in os _ units = os

abbrev pub as_word : Result (ℕ × State) AllocFault → Result (Word × State) AllocFault
as_word (Ok x) = Ok (Ref x.0, x.1)
as_word (Err fault) = Err fault

-- a new array of chars
abbrev pub new_array : ℕ → State → Result (Word × State) AllocFault
new_array n s = as_word (placed (zeros (Array Char) 0 n) s)

-- where n units stand: in this array where they fit, else in a new one
unfoldable pub array_for : Word → ℕ → State → Result (Word × State) AllocFault
array_for array n s =
    let k = length (chars_in s.objects array) in
    if nat_le n k then Ok (array, s) else new_array (max (2 * k + 2) n) s

abbrev pub rebuilt : ℕ → List ℕ → Option Word → Result (Word × State) AllocFault → Machine → Out × Machine
rebuilt n units value (Ok x) m = (Value value, record m { heap = record x.1 { objects = holding n x.0 (length units) (begun_in x.1.objects x.0 units) } })
rebuilt n units value (Err fault) m = (Throw OutOfMemoryError, m)

-- ---- the methods

-- the constructor: an array of 16
unfoldable pub init_builder : ℕ → Machine → Out × Machine
init_builder n m = rebuilt n [] None (new_array 16 m.heap) m

-- append: the builder itself, with these units behind its own
unfoldable pub append : ℕ → List ℕ → Machine → Out × Machine
append n units m =
    let whole = built m.heap.objects n ++ units in
    rebuilt n whole (Some (Ref n)) (array_for (array_of m.heap.objects n) (length whole) m.heap) m

-- length
unfoldable pub builder_length : ℕ → Machine → Out
builder_length n m = gives_number (count_of m.heap.objects n)

-- toString: a new text
unfoldable pub builder_to_string : ℕ → Machine → Out × Machine
builder_to_string n m = made (placed (text (built m.heap.objects n)) m.heap) m

-- ---- what that means

-- it is a builder, and has these units
pub record Holds (os : List Object) (n : ℕ) (us : List ℕ) : Type 0 where
  pub builder : IsBuilder os n
  pub units : built os n ≡ us
