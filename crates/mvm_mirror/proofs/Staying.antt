-- A number stays that of its class, and of its array class, when others are added.
use Rattle.std.proofs.Common.{◌≡◌, ℕ, List, [], ◌∷◌, ◌++◌, length, Bool, true, false, cond, Option, Some, None, ap, ◌∙◌}
use Rattle.std.specs.Prelude.{slice_get, is_some}
use Rattle.std.proofs.lemmas.List.{map_push}
use Rattle.std.proofs.lemmas.Option.{slice_get_within}
use Rattle.mvm_base.specs.declared.descriptor.FieldShape.{FieldShape}
use Rattle.mvm_set.specs.Names.{is_called}
use Rattle.mvm_set.specs.declared.class.Lineage.{Lineage}
use Rattle.mvm_mirror.specs.Arrays.{number_of as array_number, shapes_of, place_of, with_array}
use Rattle.mvm_mirror.specs.Seen.{number_like, number_of, with_class}
use Rattle.mvm_mirror.specs.Shapes.{is_shape}
use Rattle.mvm_mirror.specs.declared.arrays.ArrayRow.{ArrayRow}
use Rattle.mvm_mirror.proofs.Added.{get_push_below}
use Rattle.mvm_mirror.proofs.ArrayRows.{place_push}
use Rattle.mvm_mirror.proofs.Numbers.{number_or, number_push}

there : {X : Type 0} (xs : List X) (x y : X) (n : ℕ) → slice_get xs n ≡ Some y → slice_get (xs ++ x ∷ []) n ≡ Some y
there xs x y n e = get_push_below xs x n (slice_get_within xs n y e) ∙ e

pub class_stays : (class other : Lineage) (classes : List Lineage) (n : ℕ) → slice_get classes n ≡ Some other → slice_get (with_class class classes) n ≡ Some other
class_stays class other classes n e = by (is_some (number_like class classes))
  where
    by : (b : Bool) → slice_get (cond b classes (classes ++ class ∷ [])) n ≡ Some other
    by true = e
    by false = there classes class other n e

pub name_stays : (class : Lineage) (classes : List Lineage) (name : List ℕ) (n : ℕ) → number_of name classes ≡ Some n → number_of name (with_class class classes) ≡ Some n
name_stays class classes name n e = by (is_some (number_like class classes))
  where
    by : (b : Bool) → number_of name (cond b classes (classes ++ class ∷ [])) ≡ Some n
    by true = e
    by false = number_push name classes class ∙ ap (λ (r : Option ℕ). number_or r (is_called name class.file) (length classes)) e

pub shape_stays : (shape other : FieldShape) (rows : List ArrayRow) (n : ℕ) → slice_get (shapes_of rows) n ≡ Some other → slice_get (shapes_of (with_array shape rows)) n ≡ Some other
shape_stays shape other rows n e = by (is_some (array_number shape rows))
  where
    row : ArrayRow
    row = record { shape = shape; object = None }

    by : (b : Bool) → slice_get (shapes_of (cond b rows (rows ++ row ∷ []))) n ≡ Some other
    by true = e
    by false = ap (λ (xs : List FieldShape). slice_get xs n) (map_push (λ (r : ArrayRow). r.shape) rows row) ∙ there (shapes_of rows) shape other n e

pub array_stays : (shape other : FieldShape) (rows : List ArrayRow) (n : ℕ) → array_number other rows ≡ Some n → array_number other (with_array shape rows) ≡ Some n
array_stays shape other rows n e = by (is_some (array_number shape rows))
  where
    row : ArrayRow
    row = record { shape = shape; object = None }

    by : (b : Bool) → array_number other (cond b rows (rows ++ row ∷ [])) ≡ Some n
    by true = e
    by false =
        ap (place_of other) (map_push (λ (r : ArrayRow). r.shape) rows row)
        ∙ place_push other (shapes_of rows) shape
        ∙ ap (λ (r : Option ℕ). number_or r (is_shape other shape) (length (shapes_of rows))) e
