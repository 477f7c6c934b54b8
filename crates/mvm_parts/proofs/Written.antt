-- A write keeps the sort of an object and the number of its places.
use Rattle.std.proofs.Common.{◌≡◌, ℕ, ◌<◌, ◌≤◌, List, length, ap, sym, ◌∙◌, subst, get_or-set_same}
use Rattle.std.proofs.lemmas.List.{length-set}
use Rattle.mvm_heap.specs.Objects.{Object}
use Rattle.mvm_heap.specs.Sorts.{kept}
use Rattle.mvm_heap.specs.Heap.{object_at, nothing, put, written}
use Rattle.mvm_parts.specs.Times.{HasFields, HasItems}

there_kept : (os : List Object) (n place v : ℕ) → n < length os → n < length (written os n place v)
unfolding written
there_kept os n place v h = subst (λ (m : ℕ). n < m) (sym (length-set os n (put (object_at os n) place v))) h

sort_kept : (os : List Object) (n place v : ℕ) → n < length os → (object_at (written os n place v) n).sort ≡ (object_at os n).sort
unfolding written
sort_kept os n place v h = ap (λ (o : Object). o.sort) (get_or-set_same os n (put (object_at os n) place v) nothing h)

places_kept : (os : List Object) (n place v : ℕ) → n < length os → length (object_at (written os n place v) n).contents ≡ length (object_at os n).contents
unfolding written
places_kept os n place v h =
    ap (λ (o : Object). length o.contents) (get_or-set_same os n (put (object_at os n) place v) nothing h)
    ∙ length-set (object_at os n).contents place (kept (object_at os n).sort v)

pub fields_kept : (os : List Object) (n count place v : ℕ) → HasFields os n count → HasFields (written os n place v) n count
fields_kept os n count place v (h, c, s) = (there_kept os n place v h, subst (λ (m : ℕ). count ≤ m) (sym (places_kept os n place v h)) c, sort_kept os n place v h ∙ s)

pub items_kept : (os : List Object) (n count place v : ℕ) → HasItems os n count → HasItems (written os n place v) n count
items_kept os n count place v (h, c, s) = (there_kept os n place v h, subst (λ (m : ℕ). count ≤ m) (sym (places_kept os n place v h)) c, sort_kept os n place v h ∙ s)
