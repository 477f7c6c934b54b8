-- What is left where an array class was added: by names the same isolate, with all that it keeps.
use Rattle.std.proofs.Common.{◌≡◌, ℕ, zero, suc, ◌<◌, List, [], ◌∷◌, length, Some, Result, Ok, Err, refl, sym, ap, subst, ◌∙◌}
use Rattle.std.specs.Prelude.{slice_get, All, Option, OnErr, OnOk}
use Rattle.std.proofs.lemmas.Option.{slice_get_within}
use Rattle.mvm_base.specs.declared.descriptor.FieldShape.{FieldShape}
use Rattle.mvm_base.specs.declared.memory.OutOfMemory.{OutOfMemory}
use Rattle.mvm_mirror.specs.Arrays.{number_of, objects_of, place_of, shapes_of, with_array}
use Rattle.mvm_mirror.specs.Kept.{classes_of}
use Rattle.mvm_mirror.specs.declared.arrays.ArrayRow.{ArrayRow}
use Rattle.mvm_mirror.proofs.Numbers.{first, later}
use Rattle.mvm_mirror.proofs.SameShape.{shape_same}
use Rattle.mvm_mirror.proofs.Staying.{shape_stays}
use Rattle.mvm_native.specs.Unclassed.{Head, heads_of}
use Rattle.mvm_isolate.specs.Isolate.{Isolate}
use Rattle.mvm_isolate.specs.Numbered.{Numbered, named, or_objects, shape_in, types_in}
use Rattle.mvm_isolate.specs.Sound.{Grows, HasType, IsSound, ShapesStay}
use Rattle.mvm_isolate.specs.Types.{ReferenceType}
use Rattle.mvm_isolate.specs.declared.known.Known.{Known}
use Rattle.mvm_isolate.proofs.Growing.{all_typed, types_stay}
use Rattle.mvm_isolate.proofs.Loading.{all_shaped, shapes_count}

-- ---- array classes by number

-- the place of a shape is that of this very shape
pub shape_found : (shape : FieldShape) (shapes : List FieldShape) (n : ℕ) → place_of shape shapes ≡ Some n → slice_get shapes n ≡ Some shape
shape_found shape [] n e = absurd cc
shape_found shape (s ∷ shapes) zero e = ap (λ (t : FieldShape). Some t) (sym (shape_same shape s (first _ _ e)))
shape_found shape (s ∷ shapes) (suc n) e = shape_found shape shapes n (later _ _ n e).1

pub shape_numbered : (shape : FieldShape) (rows : List ArrayRow) (n : ℕ) → number_of shape rows ≡ Some n → shape_in (shapes_of rows) n ≡ shape
unfolding shape_in
shape_numbered shape rows n e = ap or_objects (shape_found shape (shapes_of rows) n e)

pub row_within : (shape : FieldShape) (rows : List ArrayRow) (n : ℕ) → number_of shape rows ≡ Some n → n < length rows
row_within shape rows n e = subst (λ (count : ℕ). n < count) (shapes_count rows) (slice_get_within (shapes_of rows) n shape (shape_found shape (shapes_of rows) n e))

-- ---- one array class more, or none

pub added_stay : (old new : List ArrayRow) (shape : FieldShape) (result : Result ℕ OutOfMemory) → OnOk result (new ≡ with_array shape old) → OnErr result (new ≡ old) → ShapesStay (shapes_of old) (shapes_of new)
added_stay old new shape (Ok row) a b = λ n other e. subst (λ (rows : List ArrayRow). slice_get (shapes_of rows) n ≡ Some other) (sym a) (shape_stays shape other old n e)
added_stay old new shape (Err fault) a b = λ n other e. subst (λ (rows : List ArrayRow). slice_get (shapes_of rows) n ≡ Some other) (sym b) e

module _ (n : Numbered) (own : Known) (rows : List ArrayRow) (s : IsSound n own) (t : ShapesStay (shapes_of n.arrays) (shapes_of rows)) where
  shaped : All (HasType (length (classes_of n.mirrors)) (length (shapes_of n.arrays))) (heads_of n.env.heap.state.objects)
  shaped = all_shaped (length (classes_of n.mirrors)) n.arrays (heads_of n.env.heap.state.objects) s.objects

  pub named_arrays : objects_of rows ≡ objects_of n.arrays → named (record n { arrays = rows }) ≡ named n
  unfolding named
  named_arrays o =
      let new : Isolate = named (record n { arrays = rows }) in
      let types : types_in (classes_of n.mirrors) (shapes_of rows) (heads_of n.env.heap.state.objects) ≡ types_in (classes_of n.mirrors) (shapes_of n.arrays) (heads_of n.env.heap.state.objects) =
      types_stay (classes_of n.mirrors) (classes_of n.mirrors) (shapes_of n.arrays) (shapes_of rows) (λ mirror class e. e) t (heads_of n.env.heap.state.objects) shaped in
      ap (λ (ts : List ReferenceType). record new { types = ts }) types
      ∙ ap (λ (os : FieldShape → Option ℕ). record new { types = types_in (classes_of n.mirrors) (shapes_of n.arrays) (heads_of n.env.heap.state.objects); arrays = os }) o

  pub sound_arrays : IsSound (record n { arrays = rows }) own
  sound_arrays =
      let all : All (HasType (length (classes_of n.mirrors)) (length (shapes_of rows))) (heads_of n.env.heap.state.objects) =
      all_typed (classes_of n.mirrors) (classes_of n.mirrors) (shapes_of n.arrays) (shapes_of rows) (λ mirror class e. e) t (heads_of n.env.heap.state.objects) shaped in
      record {
        objects = subst (λ (count : ℕ). All (HasType (length (classes_of n.mirrors)) count) (heads_of n.env.heap.state.objects)) (shapes_count rows) all;
        classes = s.classes;
        set = s.set;
        monitors = s.monitors;
        known = s.known;
      }

pub grows_arrays : (n : Numbered) (rows : List ArrayRow) → ShapesStay (shapes_of n.arrays) (shapes_of rows) → Grows n (record n { arrays = rows })
grows_arrays n rows t = record { classes = λ mirror class e. e; arrays = t; files = refl; launch = refl }

-- ---- a class object of an array class

module _ (n : Numbered) (rows : List ArrayRow) (e : shapes_of rows ≡ shapes_of n.arrays) where
  count : length rows ≡ length n.arrays
  count = sym (shapes_count rows) ∙ ap length e ∙ shapes_count n.arrays

  pub named_rows : (objects : FieldShape → Option ℕ) → objects_of rows ≡ objects → named (record n { arrays = rows }) ≡ record (named n) { arrays = objects }
  unfolding named
  named_rows objects o =
      let new : Isolate = named (record n { arrays = rows }) in
      let types : types_in (classes_of n.mirrors) (shapes_of rows) (heads_of n.env.heap.state.objects) ≡ types_in (classes_of n.mirrors) (shapes_of n.arrays) (heads_of n.env.heap.state.objects) =
      ap (λ (ss : List FieldShape). types_in (classes_of n.mirrors) ss (heads_of n.env.heap.state.objects)) e in
      ap (λ (ts : List ReferenceType). record new { types = ts }) types
      ∙ ap (λ (os : FieldShape → Option ℕ). record new { types = types_in (classes_of n.mirrors) (shapes_of n.arrays) (heads_of n.env.heap.state.objects); arrays = os }) o

  pub sound_rows : (own : Known) → IsSound n own → IsSound (record n { arrays = rows }) own
  sound_rows own s = record {
    objects = subst (λ (few : ℕ). All (HasType (length (classes_of n.mirrors)) few) (heads_of n.env.heap.state.objects)) (sym count) s.objects;
    classes = s.classes;
    set = s.set;
    monitors = s.monitors;
    known = s.known;
  }

  pub grows_rows : Grows n (record n { arrays = rows })
  grows_rows = grows_arrays n rows (λ row shape h. subst (λ (ss : List FieldShape). slice_get ss row ≡ Some shape) (sym e) h)
