-- What nothing caught, as far as it was read, and what was not.
use native.Mathlib.Omega.{arith}
use Rattle.std.proofs.Common.{◌≡◌, ◌≤◌, refl, sym, ◌∙◌, ap}
use Rattle.std.proofs.lemmas.List.{map-append}
use Rattle.std.proofs.lemmas.List.Folds.{list_any-append}
use Rattle.std.specs.Prelude.{ℕ, zero, suc, length, slice_index_or, List, [], ◌∷◌, ◌++◌, map, Bool, true, false, ◌||◌, ◌==◌, Option, Some, None}
use Rattle.std.specs.List.{list_any}
use Rattle.mvm_base.specs.declared.value.Kind.TheVariants as kind
use Rattle.mvm_base.specs.declared.value.Word.TheVariants.{Null}
use Rattle.mvm_heap.specs.Heap.{nothing, number_at, object_at}
use Rattle.mvm_heap.specs.Objects.{Object}
use Rattle.mvm_heap.specs.Sorts.{word_of}
use Rattle.mvm_isolate.specs.Isolate.{Isolate}
use Rattle.mvm_thread.specs.State as by_name
use Rattle.mvm_thread.specs.Step.{uncaught_of}
use Rattle.mvm_interp.specs.Finishing.{is_first}
use Rattle.mvm_interp.specs.Names.{uncaught_named, with_unread}
use Rattle.mvm_interp.specs.declared.block.Uncaught.{Uncaught}
use Rattle.mvm_interp.specs.declared.unread.Unread.{Unread}

first_read : (ones : List Uncaught) → list_any (λ (one : by_name.Uncaught). one.thread == 0) (map uncaught_named ones) ≡ list_any (λ (one : Uncaught). one.thread == 0) ones
first_read [] = refl
first_read (one ∷ ones) = ap (λ (b : Bool). (one.thread == 0) || b) (first_read ones)

or_false : (a : Bool) → (a || false) ≡ a
or_false true = refl
or_false false = refl

pub first_named : (s : Isolate) (ones : List Uncaught) (unread : Option Unread)
    → list_any (λ (one : by_name.Uncaught). one.thread == 0) (with_unread s (map uncaught_named ones) unread) ≡ (list_any (λ (one : Uncaught). one.thread == 0) ones || is_first unread)
first_named s ones (Some unread) =
    list_any-append (λ (one : by_name.Uncaught). one.thread == 0) (map uncaught_named ones) _
    ∙ ap (λ (b : Bool). b || ((unread.thread == 0) || false)) (first_read ones)
    ∙ ap (λ (b : Bool). list_any (λ (one : Uncaught). one.thread == 0) ones || b) (or_false (unread.thread == 0))
first_named s ones None = first_read ones ∙ sym (or_false (list_any (λ (one : Uncaught). one.thread == 0) ones))

-- ---- objects that are not there

pub object_past : (os : List Object) (n : ℕ) → length os ≤ n → object_at os n ≡ nothing
object_past [] n h = refl
object_past (o ∷ os) zero h = absurd (omega (arith, h))
object_past (o ∷ os) (suc n) h = object_past os n (omega (arith, h))

null_is : word_of kind.Ref 0 ≡ Null
unfolding word_of
null_is = refl

pub number_past : (os : List Object) (n : ℕ) → length os ≤ n → word_of kind.Ref (number_at os n 0) ≡ Null
number_past os n h = rw (object_past os n h) null_is

first_none : (xs : List ℕ) → length xs ≤ 0 → slice_index_or xs 0 0 ≡ 0
first_none [] h = refl
first_none (x ∷ xs) h = absurd (omega (arith, h))

pub number_none : (os : List Object) (n : ℕ) → length (object_at os n).contents ≤ 0 → word_of kind.Ref (number_at os n 0) ≡ Null
number_none os n h = rw (first_none (object_at os n).contents h) null_is

-- ---- one more was read

pub read_more : (s : Isolate) (ones : List Uncaught) (one : Uncaught) (unread : Unread) → uncaught_named one ≡ uncaught_of unread.thread unread.object s
    → map uncaught_named (ones ++ one ∷ []) ≡ with_unread s (map uncaught_named ones) (Some unread)
read_more s ones one unread e = map-append uncaught_named ones (one ∷ []) ∙ ap (λ (x : by_name.Uncaught). map uncaught_named ones ++ x ∷ []) e
