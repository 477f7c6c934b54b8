-- The array classes that an isolate met (JVM Specification 2.4, 5.3.3): their numbers and their class objects, by shapes.
use Rattle.std.specs.Prelude.{◌≡◌, ℕ, zero, suc, List, [], ◌∷◌, ◌++◌, map, slice_get, slice_set, if◌then◌else◌, Option, Some, None, is_some}
use Rattle.std.specs.Option.{option_map, option_and_then}
use Rattle.mvm_base.specs.declared.descriptor.FieldShape.{FieldShape}
use Rattle.mvm_mirror.specs.declared.arrays.ArrayRow.{ArrayRow}
use Rattle.mvm_mirror.specs.Shapes.{is_shape}

-- ---- numbers

abbrev pub shapes_of : List ArrayRow → List FieldShape
shapes_of rows = map (λ row. row.shape) rows

-- the place of a shape, from 0 on
abbrev pub place_of : FieldShape → List FieldShape → Option ℕ
place_of shape [] = None
place_of shape (other ∷ shapes) = if is_shape shape other then Some zero else option_map suc (place_of shape shapes)

-- the number of the array class of a shape
abbrev pub number_of : FieldShape → List ArrayRow → Option ℕ
number_of shape rows = place_of shape (shapes_of rows)

-- one array class more, without a class object, unless it is there
abbrev pub with_array : FieldShape → List ArrayRow → List ArrayRow
with_array shape rows = if is_some (number_of shape rows) then rows else rows ++ record { shape = shape; object = None } ∷ []

-- ---- class objects

-- the row of the array class of a shape
abbrev pub row_of : FieldShape → List ArrayRow → Option ArrayRow
row_of shape rows = option_and_then (slice_get rows) (number_of shape rows)

abbrev pub object_in : Option ArrayRow → Option ℕ
object_in (Some row) = row.object
object_in None = None

-- For each shape, the number of the class object of its array class if it has one. An array class that was never met has none.
unfoldable pub objects_of : List ArrayRow → FieldShape → Option ℕ
objects_of rows shape = object_in (row_of shape rows)

-- ---- one change

-- one entry of a map by shapes
abbrev pub changed : {X : Type 0} → FieldShape → X → (FieldShape → X) → FieldShape → X
changed shape value map = λ other. if is_shape shape other then value else map other

-- the row of a number has a class object now
abbrev pub SetsObject : ℕ → ℕ → List ArrayRow → List ArrayRow → Type 0
SetsObject number object old new = (row : ArrayRow) × (slice_get old number ≡ Some row) × (new ≡ slice_set old number (record row { object = Some object }))
