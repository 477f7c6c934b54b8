-- Arrays (JVM Specification 6.5: newarray, anewarray, multianewarray, arraylength, and the loads and stores of items).
use Rattle.std.specs.Prelude.{ℕ, ◌+◌, ℤ, pos, negsuc, List, [], ◌∷◌, length, replicate, Bool, true, false, ◌&&◌, ◌==◌, nat_le, nat_lt, if◌then◌else◌, Option, Some, None, Result, Ok, Err}
use Rattle.mvm_base.specs.Answers.{◌>>=◌}
use Rattle.mvm_base.specs.declared.descriptor.Base.{Base}
use Rattle.mvm_base.specs.declared.descriptor.Base.TheVariants as base
use Rattle.mvm_base.specs.declared.descriptor.FieldShape.{FieldShape}
use Rattle.mvm_base.specs.declared.value.Kind.{Kind}
use Rattle.mvm_base.specs.declared.value.Kind.TheVariants as kind
use Rattle.mvm_base.specs.declared.value.Word.{Word}
use Rattle.mvm_base.specs.declared.value.Word.TheVariants.{Int, Ref, Null}
use Rattle.mvm_heap.specs.Heap.{object_at, number_at}
use Rattle.mvm_heap.specs.Objects.{Object}
use Rattle.mvm_heap.specs.Sorts.{bits_of, item_of}
use Rattle.mvm_heap.specs.declared.kind.ItemKind.{ItemKind}
use Rattle.mvm_heap.specs.declared.kind.ItemKind.TheVariants as item
use Rattle.mvm_heap.specs.declared.kind.ObjectKind.{ObjectKind}
use Rattle.mvm_heap.specs.declared.kind.ObjectKind.TheVariants as sort
use Rattle.mvm_native.specs.declared.out.Thrown.TheVariants.{VerifyError, ArrayIndexOutOfBoundsException, ArrayStoreException, NegativeArraySizeException}
use Rattle.mvm_isolate.specs.Isolate.{Isolate, stopped, new_array, with_number}
use Rattle.mvm_isolate.specs.Look.{Look}
use Rattle.mvm_isolate.specs.Members.{or_verify}
use Rattle.mvm_isolate.specs.Receivers.{is_element}
use Rattle.mvm_isolate.specs.Types.{ReferenceType, of_class, of_array}
use Rattle.mvm_isolate.specs.Values.{kind_of_items}
use Rattle.mvm_isolate.specs.declared.stop.Stop.{Stop}
use Rattle.mvm_current.specs.Entries.{type_entry}
use Rattle.mvm_current.specs.Arguments.{arguments}
use Rattle.mvm_current.specs.Values.{int_of, may_push, not_null, popped_int}
use Rattle.mvm_current.specs.Frames.{Frame, pushed, popped, without}
use Rattle.mvm_object.specs.declared.arrays.Item.{Item}
use Rattle.mvm_initialise.specs.Arrays.{arrays_made}
use Rattle.mvm_object.specs.Going.{Context, Point, Went, going_on, pushing, in_isolate, in_frame}

-- ---- items

-- the kind of an array's items
abbrev pub items_in : ObjectKind → Result ItemKind Stop
items_in (sort.Array kind) = Ok kind
items_in _ = stopped VerifyError

-- an index of an array of this length
abbrev pub index_in : ℤ → ℕ → Result ℕ Stop
index_in (pos index) count = if nat_lt index count then Ok index else stopped ArrayIndexOutOfBoundsException
index_in (negsuc index) count = stopped ArrayIndexOutOfBoundsException

-- An instruction for items of the one kind serves arrays of the other: that for bytes serves booleans too.
abbrev pub serves : ItemKind → ItemKind → Bool
serves item.Byte item.Byte = true
serves item.Byte item.Boolean = true
serves item.Char item.Char = true
serves item.Short item.Short = true
serves item.Int item.Int = true
serves item.Long item.Long = true
serves item.Ref item.Ref = true
serves _ _ = false

-- an item of an array: null first, then no array, then the index, then an array of other items
unfoldable pub item_of_array : ItemKind → Word → ℤ → List Object → Result Item Stop
item_of_array wanted array index os =
    not_null array >>= λ object.
    items_in (object_at os object).sort >>= λ kind.
    index_in index (length (object_at os object).contents) >>= λ place.
    (if serves wanted kind then Ok (record { array = object; place = place; kind = kind }) else stopped VerifyError)

-- iaload, laload, aaload, baload, caload, saload
unfoldable pub load_item : Context → ItemKind → ℕ → Point → Result Went Stop
load_item c wanted next p =
    popped_int p.frame >>= λ index.
    popped kind.Ref index.1 >>= λ array.
    item_of_array wanted array.0 index.0 p.isolate.heap.objects >>= λ found.
    pushing c next (item_of found.kind (number_at p.isolate.heap.objects found.array found.place)) (in_frame array.1 p)

-- a reference may be an item of an array only if it is null or its object is an instance of the type of the items
unfoldable pub may_hold : Look → Isolate → ItemKind → ℕ → Word → Result (Unit {0}) Stop
may_hold look s item.Ref array (Ref object) = if is_element look s array object then Ok tt else stopped ArrayStoreException
may_hold look s _ array value = Ok tt

-- iastore, lastore, aastore, bastore, castore, sastore: of a small number the low bits are kept, of a boolean the lowest
unfoldable pub store_item : Context → ItemKind → ℕ → Point → Result Went Stop
store_item c wanted next p =
    popped (kind_of_items wanted) p.frame >>= λ value.
    popped_int value.1 >>= λ index.
    popped kind.Ref index.1 >>= λ array.
    item_of_array wanted array.0 index.0 p.isolate.heap.objects >>= λ found.
    may_hold c.look p.isolate wanted found.array value.0 >>= λ may.
    Ok (going_on c next array.1 (in_isolate (with_number found.array found.place (bits_of value.0) p.isolate) p))

-- arraylength
unfoldable pub array_length : Context → ℕ → Point → Result Went Stop
array_length c next p =
    popped kind.Ref p.frame >>= λ array.
    not_null array.0 >>= λ object.
    items_in (object_at p.isolate.heap.objects object).sort >>= λ kind.
    pushing c next (Int (pos (length (object_at p.isolate.heap.objects object).contents))) (in_frame array.1 p)

-- ---- new arrays

abbrev pub count_of : ℤ → Result ℕ Stop
count_of (pos count) = Ok count
count_of (negsuc count) = stopped NegativeArraySizeException

-- the length that is popped
abbrev pub popped_count : Frame → Result (ℕ × Frame) Stop
popped_count f = popped_int f >>= λ n. count_of n.0 >>= λ count. Ok (count, n.1)

-- a new array of one dimension stands on the operands in the place of its length, if a reference fits there
unfoldable pub array_made : Context → FieldShape → ℕ → Point → Result Went Stop
array_made c shape next p =
    popped_count p.frame >>= λ n.
    may_push kind.Ref n.1 >>= λ may.
    new_array shape n.0 p.isolate >>= λ x. pushing c next (Ref x.0) (record p { isolate = x.1; frame = n.1 })

-- the codes of newarray (table 6.5.newarray-A)
abbrev pub base_of_code : ℕ → Option Base
base_of_code code =
    if code == 4 then Some base.Boolean else (
    if code == 5 then Some base.Char else (
    if code == 8 then Some base.Byte else (
    if code == 9 then Some base.Short else (
    if code == 10 then Some base.Int else (
    if code == 11 then Some base.Long else None)))))

-- newarray
unfoldable pub make_numbers : Context → ℕ → ℕ → Point → Result Went Stop
make_numbers c code next p = or_verify (base_of_code code) >>= λ base. array_made c (record { dims = 1; base = base }) next p

-- no array has more dimensions (4.9.1)
abbrev pub MOST_DIMENSIONS : ℕ
MOST_DIMENSIONS = 255

-- an array of which each item is of this type
abbrev pub array_of : ReferenceType → Result FieldShape Stop
array_of (of_class name) = Ok (record { dims = 1; base = base.Object name })
array_of (of_array shape) = if nat_lt shape.dims MOST_DIMENSIONS then Ok (record shape { dims = shape.dims + 1 }) else stopped VerifyError

abbrev pub array_of_type : Result ReferenceType Stop → Result FieldShape Stop
array_of_type definition = definition >>= array_of

-- anewarray
unfoldable pub make_references : Context → ℕ → ℕ → Point → Result Went Stop
make_references c index next p = array_of_type (type_entry c.look index p.frame) >>= λ shape. array_made c shape next p

-- ---- arrays of arrays

-- the shape of an array of at least so many dimensions, of which there is one (4.9.1)
abbrev pub a_shape : ℕ → ReferenceType → Result FieldShape Stop
a_shape dims (of_array shape) = if nat_lt 0 dims && nat_le dims shape.dims then Ok shape else stopped VerifyError
a_shape dims (of_class name) = stopped VerifyError

abbrev pub shape_of_type : ℕ → Result ReferenceType Stop → Result FieldShape Stop
shape_of_type dims definition = definition >>= a_shape dims

abbrev pub counts_of : List Word → Result (List ℕ) Stop
counts_of [] = Ok []
counts_of (w ∷ ws) = int_of w >>= count_of >>= λ count. counts_of ws >>= λ counts. Ok (count ∷ counts)

-- the lengths of so many dimensions, the last of them on top of the operands
unfoldable pub lengths : ℕ → Frame → Result (List ℕ) Stop
lengths dims f = arguments (replicate dims kind.Int) f.body.operands.slots >>= counts_of

-- new arrays stand on the operands in the place of their lengths
unfoldable pub arrays_pushed : Context → FieldShape → List ℕ → ℕ → Point → Result Went Stop
arrays_pushed c shape counts next p = arrays_made shape counts p.isolate >>= λ x. pushing c next (Ref x.0) (record p { isolate = x.1; frame = without (length counts) p.frame })

-- multianewarray
unfoldable pub make_arrays : Context → ℕ → ℕ → ℕ → Point → Result Went Stop
make_arrays c index dims next p =
    shape_of_type dims (type_entry c.look index p.frame) >>= λ shape.
    lengths dims p.frame >>= λ counts.
    arrays_pushed c shape counts next p
