-- What is read where there is no object of a number.
use Rattle.std.proofs.Common.{◌≡◌, true, ℕ, zero, suc, ◌≤◌, List, [], ◌∷◌, length, refl, ap, arith}
use Rattle.std.specs.Prelude.{slice_index_or}
use Rattle.mvm_heap.specs.Heap.{nothing}
use Rattle.mvm_heap.specs.Objects.{Object}
use Rattle.mvm_native.specs.Strings.{is_text}
use Rattle.mvm_isolate.specs.Natives.{is_text_at}
use Rattle.mvm_isolate.specs.Isolate.{Isolate}

or_past : {X : Type 0} (xs : List X) (i : ℕ) (x : X) → length xs ≤ i → slice_index_or xs i x ≡ x
or_past [] i x le = refl
or_past (y ∷ xs) zero x le = absurd (omega arith)
or_past (y ∷ xs) (suc i) x le = or_past xs i x (omega arith)

pub text_beyond : (s : Isolate) (object : ℕ) → length s.heap.objects ≤ object → is_text_at s object ≡ true
text_beyond s object le = ap (λ (o : Object). is_text o.sort) (or_past s.heap.objects object nothing le)
