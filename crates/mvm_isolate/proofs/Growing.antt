-- What stays when classes and array classes are added: the names of numbers, and what objects are.
use Rattle.std.proofs.Common.{◌≡◌, ℕ, zero, suc, ◌<◌, List, [], ◌∷◌, length, map, Some, refl, sym, ap, ◌∙◌, arith}
use Rattle.std.specs.Prelude.{slice_get, slice_index_or, All}
use Rattle.std.proofs.lemmas.List.Elements.{All-head, All-tail}
use Rattle.std.proofs.lemmas.Option.{slice_get_within}
use Rattle.mvm_base.specs.declared.descriptor.FieldShape.{FieldShape}
use Rattle.mvm_heap.specs.declared.kind.ItemKind.TheVariants as item
use Rattle.mvm_heap.specs.declared.kind.ObjectKind.{ObjectKind}
use Rattle.mvm_heap.specs.declared.kind.ObjectKind.TheVariants as kind
use Rattle.mvm_native.specs.Unclassed.{Head}
use Rattle.mvm_set.specs.declared.class.Lineage.{Lineage}
use Rattle.mvm_isolate.specs.Numbered.{name_in, name_of, or_objects, shape_in, type_by, type_of_head, types_in}
use Rattle.mvm_isolate.specs.Sound.{ClassesStay, HasType, IsTyped, ShapesStay}
use Rattle.mvm_isolate.specs.Types.{ReferenceType, of_array, of_class}

pub there : {X : Type 0} (xs : List X) (i : ℕ) → i < length xs → (x : X) × (slice_get xs i ≡ Some x)
there [] i h = absurd (omega (arith, h))
there (x ∷ xs) zero h = (x, refl)
there (x ∷ xs) (suc i) h = there xs i (omega (arith, h))

abbrev pub Stays : {X : Type 0} → List X → List X → Type 0
Stays {X} old new = (i : ℕ) (x : X) → slice_get old i ≡ Some x → slice_get new i ≡ Some x

pub within : {X : Type 0} (old new : List X) → Stays old new → (i : ℕ) → i < length old → i < length new
within old new s i h = let t = there old i h in slice_get_within new i t.0 (s i t.0 t.1)

pub name_stays : (old new : List Lineage) (mirror : ℕ) → ClassesStay old new → mirror < length old → name_in new mirror ≡ name_in old mirror
unfolding name_in
name_stays old new mirror s l = let t = there old mirror l in ap name_of (s mirror t.0 t.1 ∙ sym t.1)

pub shape_stays : (old new : List FieldShape) (row : ℕ) → ShapesStay old new → row < length old → shape_in new row ≡ shape_in old row
unfolding shape_in
shape_stays old new row s l = let t = there old row l in ap or_objects (s row t.0 t.1 ∙ sym t.1)

-- ---- what objects are

module _ (old new : List Lineage) (from to : List FieldShape) (s : ClassesStay old new) (t : ShapesStay from to) where
  by_stays : (sort : ObjectKind) (class : ℕ) → IsTyped (length old) (length from) sort class → type_by new to sort class ≡ type_by old from sort class
  by_stays kind.Object class h = ap of_class (name_stays old new class s h)
  by_stays (kind.Array item.Ref) class h = ap of_array (shape_stays from to class t h)
  by_stays _ class h = refl

  typed_stays : (sort : ObjectKind) (class : ℕ) → IsTyped (length old) (length from) sort class → IsTyped (length new) (length to) sort class
  typed_stays kind.Object class h = within old new s class h
  typed_stays (kind.Array item.Ref) class h = within from to t class h
  typed_stays (kind.Array item.Boolean) class h = tt
  typed_stays (kind.Array item.Byte) class h = tt
  typed_stays (kind.Array item.Char) class h = tt
  typed_stays (kind.Array item.Short) class h = tt
  typed_stays (kind.Array item.Int) class h = tt
  typed_stays (kind.Array item.Long) class h = tt
  typed_stays kind.Text class h = tt

  pub types_stay : (heads : List Head) → All (HasType (length old) (length from)) heads → types_in new to heads ≡ types_in old from heads
  unfolding types_in
  types_stay [] a = refl
  types_stay (h ∷ hs) a =
      ap (λ (x : ReferenceType). x ∷ map (type_of_head new to) hs) (by_stays h.sort h.class (All-head (HasType (length old) (length from)) h hs a))
      ∙ ap (λ (xs : List ReferenceType). type_of_head old from h ∷ xs) (types_stay hs (All-tail (HasType (length old) (length from)) h hs a))

  pub all_typed : (heads : List Head) → All (HasType (length old) (length from)) heads → All (HasType (length new) (length to)) heads
  all_typed heads a = λ k d l. let h : Head = slice_index_or heads k d in typed_stays h.sort h.class (a k d l)
