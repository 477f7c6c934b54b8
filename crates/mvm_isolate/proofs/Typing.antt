-- What an object is, by its sort and its class number.
use Rattle.std.proofs.Common.{◌≡◌, ◌≢◌, ℕ, ◌<◌, ◌≤◌, List, length, map, Some, None, refl, sym, ap, subst, ◌∙◌}
use Rattle.std.specs.Prelude.{slice_get, Option}
use Rattle.std.specs.Option.{option_map}
use Rattle.std.proofs.lemmas.List.{get_or-map, length-map}
use Rattle.std.proofs.lemmas.Option.{slice_get-get_or, slice_get-map, slice_get_past}
use Rattle.mvm_heap.specs.Heap.{nothing, object_at}
use Rattle.mvm_heap.specs.Objects.{Object}
use Rattle.mvm_heap.specs.declared.kind.ItemKind.{ItemKind}
use Rattle.mvm_heap.specs.declared.kind.ItemKind.TheVariants as item
use Rattle.mvm_heap.specs.declared.kind.ObjectKind.{ObjectKind}
use Rattle.mvm_heap.specs.declared.kind.ObjectKind.TheVariants as sort
use Rattle.mvm_mirror.specs.Arrays.{shapes_of}
use Rattle.mvm_mirror.specs.Kept.{classes_of}
use Rattle.mvm_native.specs.Unclassed.{head_of, heads_of}
use Rattle.mvm_isolate.specs.Isolate.{type_at}
use Rattle.mvm_isolate.specs.Numbered.{Numbered, named, type_by, type_of, type_of_head, types_in, IsType}
use Rattle.mvm_isolate.specs.Sound.{HasType, IsSound, IsTyped}
use Rattle.mvm_isolate.specs.Types.{ReferenceType, of_class, STRING}
use Rattle.mvm_isolate.specs.declared.known.Known.{Known}
use Rattle.mvm_isolate.specs.declared.type_at.TypeAt.TheVariants as at
use Rattle.mvm_isolate.proofs.Loading.{name_numbered, number_within}

pub heads_length : (os : List Object) → length (heads_of os) ≡ length os
unfolding heads_of
heads_length os = length-map os head_of

module _ (n : Numbered) (object : ℕ) where
  pub type_beyond : length n.env.heap.state.objects ≤ object → type_at (named n) object ≡ None
  unfolding type_at named types_in heads_of
  type_beyond h = slice_get_past _ object (rw (length-map, length-map) h)

  pub type_is : object < length n.env.heap.state.objects
      → type_at (named n) object ≡ Some (type_by (classes_of n.mirrors) (shapes_of n.arrays) (object_at n.env.heap.state.objects object).sort (object_at n.env.heap.state.objects object).class)
  unfolding type_at named types_in heads_of
  type_is h = rw (slice_get-map, slice_get-map, slice_get-get_or n.env.heap.state.objects object nothing h) refl

  pub is_typed : (own : Known) → IsSound n own → object < length n.env.heap.state.objects
      → IsTyped (length (classes_of n.mirrors)) (length n.arrays) (object_at n.env.heap.state.objects object).sort (object_at n.env.heap.state.objects object).class
  unfolding heads_of
  is_typed own s h =
      subst (HasType (length (classes_of n.mirrors)) (length n.arrays)) (get_or-map head_of n.env.heap.state.objects object nothing (head_of nothing) h)
      (s.objects object (head_of nothing) (subst (λ (count : ℕ). object < count) (sym (heads_length n.env.heap.state.objects)) h))

  -- ---- by its sort

  module _ (h : object < length n.env.heap.state.objects) where
    by_sort : (s : ObjectKind) → (object_at n.env.heap.state.objects object).sort ≡ s
        → type_at (named n) object ≡ Some (type_by (classes_of n.mirrors) (shapes_of n.arrays) s (object_at n.env.heap.state.objects object).class)
    by_sort s e = type_is h ∙ ap (λ (t : ObjectKind). Some (type_by (classes_of n.mirrors) (shapes_of n.arrays) t (object_at n.env.heap.state.objects object).class)) e

    pub class_type : (object_at n.env.heap.state.objects object).sort ≡ sort.Object → type_at (named n) object ≡ Some (type_of n (at.Class (object_at n.env.heap.state.objects object).class))
    unfolding type_of
    class_type e = by_sort sort.Object e

    pub array_type : (object_at n.env.heap.state.objects object).sort ≡ sort.Array item.Ref → type_at (named n) object ≡ Some (type_of n (at.Array (object_at n.env.heap.state.objects object).class))
    unfolding type_of
    array_type e = by_sort (sort.Array item.Ref) e

    pub numbers_type : (kind : ItemKind) → kind ≢ item.Ref → (object_at n.env.heap.state.objects object).sort ≡ sort.Array kind → type_at (named n) object ≡ Some (type_of n (at.Numbers kind))
    unfolding type_of
    numbers_type item.Boolean w e = by_sort (sort.Array item.Boolean) e
    numbers_type item.Byte w e = by_sort (sort.Array item.Byte) e
    numbers_type item.Char w e = by_sort (sort.Array item.Char) e
    numbers_type item.Short w e = by_sort (sort.Array item.Short) e
    numbers_type item.Int w e = by_sort (sort.Array item.Int) e
    numbers_type item.Long w e = by_sort (sort.Array item.Long) e
    numbers_type item.Ref w e = absurd (w refl)

    module _ (own : Known) (s : IsSound n own) where
      pub text_type : (object_at n.env.heap.state.objects object).sort ≡ sort.Text → type_at (named n) object ≡ Some (type_of n (at.Class own.string))
      unfolding type_of
      text_type e = by_sort sort.Text e ∙ ap (λ (name : List ℕ). Some (of_class name)) (sym (name_numbered STRING (classes_of n.mirrors) own.string s.known.string))

      typed_by : (t : ObjectKind) → (object_at n.env.heap.state.objects object).sort ≡ t → IsTyped (length (classes_of n.mirrors)) (length n.arrays) t (object_at n.env.heap.state.objects object).class
      typed_by t e = subst (λ (u : ObjectKind). IsTyped (length (classes_of n.mirrors)) (length n.arrays) u (object_at n.env.heap.state.objects object).class) e (is_typed own s h)

      pub class_there : (object_at n.env.heap.state.objects object).sort ≡ sort.Object → IsType n (at.Class (object_at n.env.heap.state.objects object).class)
      class_there e = typed_by sort.Object e

      pub array_there : (object_at n.env.heap.state.objects object).sort ≡ sort.Array item.Ref → IsType n (at.Array (object_at n.env.heap.state.objects object).class)
      array_there e = typed_by (sort.Array item.Ref) e

      pub text_there : IsType n (at.Class own.string)
      text_there = number_within STRING (classes_of n.mirrors) own.string s.known.string

pub numbers_there : (n : Numbered) (kind : ItemKind) → kind ≢ item.Ref → IsType n (at.Numbers kind)
numbers_there n item.Boolean w = tt
numbers_there n item.Byte w = tt
numbers_there n item.Char w = tt
numbers_there n item.Short w = tt
numbers_there n item.Int w = tt
numbers_there n item.Long w = tt
numbers_there n item.Ref w = absurd (w refl)
