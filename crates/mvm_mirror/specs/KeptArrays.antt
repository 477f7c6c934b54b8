-- How the rows in memory and the ordered maps stand for array classes by shapes.
use Rattle.std.specs.Prelude.{◌≡◌, ◌<◌, ◌^◌, ℕ, List, length, slice_get, Some}
use Rattle.mvm_base.specs.declared.descriptor.FieldShape.{FieldShape}
use Rattle.mvm_mirror.specs.declared.arrays.ArrayRow.{ArrayRow}
use Rattle.mvm_mirror.specs.declared.shape_numbers.ShapeNumbers.{ShapeNumbers}
use Rattle.mvm_mirror.specs.Arrays.{number_of, shapes_of}
use Rattle.mvm_mirror.specs.ShapeNumbers.{found, IsSound}

pub record AreKept (maps : ShapeNumbers) (rows : List ArrayRow) : Type 0 where
  pub sound : IsSound maps
  -- the maps have for each shape its number
  pub numbers : (shape : FieldShape) → found maps shape ≡ number_of shape rows
  -- each shape stands at its number
  pub own : (number : ℕ) (shape : FieldShape) → slice_get (shapes_of rows) number ≡ Some shape → number_of shape rows ≡ Some number
  pub few : length rows < 2 ^ 32
