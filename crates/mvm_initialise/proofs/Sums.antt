-- Words that are there, or are not.
use Rattle.std.proofs.Common.{◌≡◌, ◌≤◌, ◌<◌, ℕ, ◌+◌, ◌-◌, ◌^◌, min, true, false, Ok, refl, sym, ◌∙◌, arith, lt-ltb, le-ltb}
use Rattle.std.specs.Prelude.{nat_lt}
use Rattle.mvm_heap.specs.Heap.{words}
use Rattle.mvm_native.specs.declared.out.Thrown.TheVariants.{OutOfMemoryError}
use Rattle.mvm_isolate.specs.Isolate.{Isolate, stopped}
use Rattle.mvm_initialise.specs.Words.{has_words}

-- ---- a sum, where the most that there can be stand for any number above

pub words_lack : (s : Isolate) (left sum : ℕ) → left + words s.heap.objects ≡ s.heap.size → left < sum → (wanted : ℕ) → sum ≡ min wanted (2 ^ 64 - 1) → stopped OutOfMemoryError ≡ has_words wanted s
unfolding has_words
words_lack s left sum is less wanted e =
    let test : nat_lt s.heap.size (words s.heap.objects + wanted) ≡ true = lt-ltb _ _ (omega (arith, is, less, e)) in
    rw test refl

pub words_fit : (s : Isolate) (left sum : ℕ) → left + words s.heap.objects ≡ s.heap.size → left < 2 ^ 32 → sum ≤ left → (wanted : ℕ) → sum ≡ min wanted (2 ^ 64 - 1) → Ok tt ≡ has_words wanted s
unfolding has_words
words_fit s left sum is small fits wanted e =
    let test : nat_lt s.heap.size (words s.heap.objects + wanted) ≡ false = le-ltb _ _ (omega (arith, is, small, fits, e)) in
    rw test refl
