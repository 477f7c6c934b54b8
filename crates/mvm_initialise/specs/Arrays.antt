-- Arrays of arrays (JVM Specification 6.5, multianewarray).
use Rattle.std.specs.Prelude.{◌≡◌, ◌≢◌, ◌<◌, ℕ, zero, suc, ◌+◌, ◌-◌, ◌*◌, List, [], ◌∷◌, length, Result, Ok}
use Rattle.mvm_base.specs.Answers.{◌>>=◌}
use Rattle.mvm_base.specs.declared.descriptor.FieldShape.{FieldShape}
use Rattle.mvm_base.specs.declared.value.Word.TheVariants.{Ref}
use Rattle.mvm_heap.specs.Heap.{object_at}
use Rattle.mvm_heap.specs.Sorts.{bits_of, words_needed}
use Rattle.mvm_heap.specs.declared.kind.ObjectKind.TheVariants.{Array, Text}
use Rattle.mvm_native.specs.declared.out.Thrown.TheVariants.{VerifyError}
use Rattle.mvm_isolate.specs.Isolate.{Isolate, stopped, new_array, with_number}
use Rattle.mvm_isolate.specs.Numbered.{Numbered, shape_at, IsArray}
use Rattle.mvm_isolate.specs.Types.{items_of}
use Rattle.mvm_isolate.specs.declared.stop.Stop.{Stop}
use Rattle.mvm_initialise.specs.declared.arrays.Dimension.{Dimension}

-- so many items from a place on, each made anew
abbrev pub items_made : (Isolate → Result (ℕ × Isolate) Stop) → ℕ → ℕ → ℕ → Isolate → Result Isolate Stop
items_made make array place zero s = Ok s
items_made make array place (suc n) s = make s >>= λ x. items_made make array (place + 1) n (with_number array place (bits_of (Ref x.0)) x.1)

-- an array of these lengths, first itself and then its items in order, each by this rule
unfoldable pub arrays_made : FieldShape → List ℕ → Isolate → Result (ℕ × Isolate) Stop
arrays_made shape [] s = stopped VerifyError
arrays_made shape (count ∷ []) s = new_array shape count s
arrays_made shape (count ∷ next ∷ counts) s =
    new_array shape count s >>= λ x.
    items_made (arrays_made (record shape { dims = shape.dims - 1 }) (next ∷ counts)) x.0 0 count x.1 >>= λ made. Ok (x.0, made)

-- ---- what they take

-- the shape of the items of an array of arrays
abbrev pub item_shape : FieldShape → FieldShape
item_shape shape = record shape { dims = shape.dims - 1 }

-- how many words these arrays take together
unfoldable pub array_words : FieldShape → List ℕ → ℕ
array_words shape [] = 0
array_words shape (count ∷ []) = words_needed (Array (items_of shape)) count
array_words shape (count ∷ next ∷ counts) = words_needed (Array (items_of shape)) count + count * array_words (item_shape shape) (next ∷ counts)

-- ---- what they are made of

-- the lengths of these dimensions
abbrev pub counts_in : List Dimension → List ℕ
counts_in [] = []
counts_in (d ∷ ds) = d.count ∷ counts_in ds

-- the array class of the first of these dimensions
abbrev pub first_shape : Numbered → List Dimension → FieldShape
first_shape n [] = shape_at n 0
first_shape n (d ∷ ds) = shape_at n d.row

-- The array classes of these dimensions are there, the first of them of this shape, each other one that of the items of the one before.
abbrev pub AreDimensions : Numbered → FieldShape → List Dimension → Type 0
AreDimensions n shape [] = Unit {0}
AreDimensions n shape (d ∷ ds) = IsArray n d.row × (shape_at n d.row ≡ shape) × AreDimensions n (item_shape shape) ds

-- an array of so many items
pub record HasItems (count : ℕ) (s : Isolate) (array : ℕ) : Type 0 where
  pub there : array < length s.heap.objects
  pub size : length (object_at s.heap.objects array).contents ≡ count
  pub sort : (object_at s.heap.objects array).sort ≢ Text
