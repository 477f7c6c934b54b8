-- What the ordered maps have for a shape.
use Rattle.std.specs.Prelude.{ℕ, Option}
use Rattle.mvm_base.specs.declared.descriptor.FieldShape.{FieldShape}
use Rattle.mvm_set.specs.Set.{look}
use Rattle.mvm_mirror.specs.declared.shape_numbers.ShapeNumbers.{ShapeNumbers}
use Rattle.mvm_mirror.specs.ShapeKeys.{found_by, number_under, AreSound}

-- the number of a shape
abbrev pub found : ShapeNumbers → FieldShape → Option ℕ
found maps shape = found_by (look maps.names (λ key. key.items)) (number_under maps.numbers) shape

abbrev pub IsSound : ShapeNumbers → Type 0
IsSound maps = AreSound (look maps.names (λ key. key.items)) maps.next (number_under maps.numbers)
