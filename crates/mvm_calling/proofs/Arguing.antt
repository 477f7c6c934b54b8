-- Arguments are looked for on the operands one by one, the lowest of them first.
use Rattle.std.proofs.Common.{◌≡◌, ℕ, ◌+◌, ◌≤◌, Bool, true, false, List, ◌∷◌, length, take, drop, reverse, Option, Some, None, refl, sym, ap, ◌∙◌}
use Rattle.std.specs.Prelude.{slice_get, is_some, Result, Ok, Err}
use Rattle.mvm_base.specs.declared.value.Kind.{Kind}
use Rattle.mvm_base.specs.declared.value.Word.{Word}
use Rattle.mvm_frame.specs.declared.slot.Slot.{Slot}
use Rattle.mvm_isolate.specs.Isolate.{stopped}
use Rattle.mvm_isolate.specs.declared.stop.Stop.{Stop}
use Rattle.mvm_native.specs.declared.out.Thrown.TheVariants.{VerifyError}
use Rattle.mvm_current.specs.Arguments.{head_word, with_word, words_in}
use Rattle.mvm_current.specs.Values.{done_of, width}
use Rattle.mvm_current.proofs.Reading.{behind_value, drop_step}

with_some : (w : Option Word) (r : Result (List Word) Stop) → is_some w ≡ true → done_of (with_word w r) ≡ done_of r
with_some (Some w) (Ok ws) e = refl
with_some (Some w) (Err stop) e = refl
with_some None r e = absurd cc

with_none : (w : Option Word) (r : Result (List Word) Stop) → is_some w ≡ false → done_of (with_word w r) ≡ stopped VerifyError
with_none None r e = refl
with_none (Some w) r e = absurd cc

-- one value more was found
pub found_more : (ks : List Kind) (i : ℕ) (k : Kind) (xs : List Slot) (left next : ℕ) (all : Result (Unit {0}) Stop)
    → slice_get ks i ≡ Some k → left ≡ width k + next → left ≤ length xs → is_some (head_word k (reverse (take left xs))) ≡ true
    → done_of (words_in (drop i ks) (reverse (take left xs))) ≡ all → done_of (words_in (drop (i + 1) ks) (reverse (take next xs))) ≡ all
found_more ks i k xs left next all at e h head is =
    ap (λ (ys : List Slot). done_of (words_in (drop (i + 1) ks) ys)) (sym (behind_value k xs left next e h))
    ∙ sym (with_some (head_word k (reverse (take left xs))) (words_in (drop (i + 1) ks) (drop (width k) (reverse (take left xs)))) head)
    ∙ ap (λ (rest : List Kind). done_of (words_in rest (reverse (take left xs)))) (sym (drop_step ks i k at))
    ∙ is

-- the next value is not there
pub found_none : (ks : List Kind) (i : ℕ) (k : Kind) (ys : List Slot) (all : Result (Unit {0}) Stop)
    → slice_get ks i ≡ Some k → is_some (head_word k ys) ≡ false → done_of (words_in (drop i ks) ys) ≡ all → all ≡ stopped VerifyError
found_none ks i k ys all at head is =
    sym is ∙ ap (λ (rest : List Kind). done_of (words_in rest ys)) (drop_step ks i k at) ∙ with_none (head_word k ys) (words_in (drop (i + 1) ks) (drop (width k) ys)) head
