-- What an array of a shape is, by the sort of its items and the number of its class.
use Rattle.std.proofs.Common.{◌≡◌, ◌≢◌, ℕ, ◌<◌, Bool, true, false, cond, List, length, refl, sym, ap, subst, ◌∙◌}
use Rattle.std.specs.Prelude.{◌==◌, slice_get, Some}
use Rattle.std.proofs.lemmas.Bool.{eqb-true}
use Rattle.mvm_base.specs.declared.descriptor.Base.{Base}
use Rattle.mvm_base.specs.declared.descriptor.Base.TheVariants.{Boolean, Byte, Char, Short, Int, Long, Object}
use Rattle.mvm_base.specs.declared.descriptor.FieldShape.{FieldShape}
use Rattle.mvm_heap.specs.declared.kind.ItemKind.{ItemKind}
use Rattle.mvm_heap.specs.declared.kind.ItemKind.TheVariants as item
use Rattle.mvm_heap.specs.declared.kind.ObjectKind.TheVariants as sort
use Rattle.mvm_set.specs.declared.class.Lineage.{Lineage}
use Rattle.mvm_isolate.specs.Numbered.{or_objects, shape_in, type_by}
use Rattle.mvm_isolate.specs.Sound.{IsTyped}
use Rattle.mvm_isolate.specs.Types.{ReferenceType, items_of, items_of_base, of_array}

-- a shape of one dimension
of_one : (shape : FieldShape) (base : Base) → shape.dims ≡ 1 → shape.base ≡ base → shape ≡ record { dims = 1; base = base }
of_one shape base d b = ap (λ (dims : ℕ). record { dims = dims; base = shape.base }) d ∙ ap (λ (x : Base). record { dims = 1; base = x }) b

module _ (classes : List Lineage) (shapes : List FieldShape) (row : ℕ) (shape : FieldShape) (e : shape_in shapes row ≡ shape) where
  one_type : (base : Base) → shape.dims ≡ 1 → shape.base ≡ base → type_by classes shapes (sort.Array (items_of_base base)) row ≡ of_array shape
  one_type Boolean d b = ap of_array (sym (of_one shape Boolean d b))
  one_type Byte d b = ap of_array (sym (of_one shape Byte d b))
  one_type Char d b = ap of_array (sym (of_one shape Char d b))
  one_type Short d b = ap of_array (sym (of_one shape Short d b))
  one_type Int d b = ap of_array (sym (of_one shape Int d b))
  one_type Long d b = ap of_array (sym (of_one shape Long d b))
  one_type (Object name) d b = ap of_array e

  pub array_type_of : type_by classes shapes (sort.Array (items_of shape)) row ≡ of_array shape
  unfolding items_of
  array_type_of = by (shape.dims == 1) refl
    where
      by : (b : Bool) → (shape.dims == 1) ≡ b → type_by classes shapes (sort.Array (cond b (items_of_base shape.base) item.Ref)) row ≡ of_array shape
      by true h = one_type shape.base (eqb-true shape.dims 1 h) refl
      by false h = ap of_array e

pub array_is_typed : (classes arrays row : ℕ) (kind : ItemKind) → row < arrays → IsTyped classes arrays (sort.Array kind) row
array_is_typed classes arrays row item.Ref h = h
array_is_typed classes arrays row item.Boolean h = tt
array_is_typed classes arrays row item.Byte h = tt
array_is_typed classes arrays row item.Char h = tt
array_is_typed classes arrays row item.Short h = tt
array_is_typed classes arrays row item.Int h = tt
array_is_typed classes arrays row item.Long h = tt

-- ---- a new array

pub shape_is : (shapes : List FieldShape) (row : ℕ) (shape : FieldShape) → slice_get shapes row ≡ Some shape → shape_in shapes row ≡ shape
unfolding shape_in
shape_is shapes row shape e = ap or_objects e

pub new_array_type : (classes : List Lineage) (shapes : List FieldShape) (row : ℕ) (kind : ItemKind) → kind ≡ items_of (shape_in shapes row)
    → of_array (shape_in shapes row) ≡ type_by classes shapes (sort.Array kind) row
new_array_type classes shapes row kind e =
    sym (ap (λ (k : ItemKind). type_by classes shapes (sort.Array k) row) e ∙ array_type_of classes shapes row (shape_in shapes row) refl)
