-- Arguments are read from the operands one by one, the lowest of them first.
use Rattle.std.proofs.Common.{◌≡◌, ℕ, zero, suc, ◌+◌, ◌-◌, ◌<◌, ◌≤◌, List, [], ◌∷◌, ◌++◌, length, take, drop, reverse, Option, Some, None, refl, sym, ap, ◌∙◌, add-one, arith}
use Rattle.std.specs.Prelude.{slice_get, Result, Ok, Err}
use Rattle.std.proofs.lemmas.List.{reverse-append}
use Rattle.std.proofs.lemmas.Option.{slice_get_within}
use Rattle.std.proofs.lemmas.Grind.{common_steps}
use Rattle.mvm_base.specs.declared.value.Kind.{Kind}
use Rattle.mvm_base.specs.declared.value.Kind.TheVariants as kind
use Rattle.mvm_base.specs.declared.value.Word.{Word}
use Rattle.mvm_frame.specs.declared.slot.Slot.{Slot}
use Rattle.mvm_isolate.specs.Isolate.{stopped}
use Rattle.mvm_isolate.specs.declared.stop.Stop.{Stop}
use Rattle.mvm_native.specs.declared.out.Thrown.TheVariants.{VerifyError}
use Rattle.mvm_current.specs.Arguments.{a_long, head_word, widths, with_word, words_in}
use Rattle.mvm_current.specs.Values.{width}

-- ---- kinds

drop_suc : {X : Type 0} (xs : List X) (i : ℕ) (x : X) → slice_get xs i ≡ Some x → drop i xs ≡ x ∷ drop (suc i) xs
drop_suc [] i x e = absurd cc
drop_suc (y ∷ xs) zero x e = cc
drop_suc (y ∷ xs) (suc i) x e = drop_suc xs i x e

pub drop_step : {X : Type 0} (xs : List X) (i : ℕ) (x : X) → slice_get xs i ≡ Some x → drop i xs ≡ x ∷ drop (i + 1) xs
drop_step xs i x e = rw add-one (drop_suc xs i x e)

pub widths_step : (ks : List Kind) (i : ℕ) (k : Kind) → slice_get ks i ≡ Some k → widths (drop i ks) ≡ width k + widths (drop (i + 1) ks)
widths_step ks i k e = ap widths (drop_step ks i k e)

pub width_two : (k : Kind) → width k ≤ 2
width_two kind.Int = omega arith
width_two kind.Ref = omega arith
width_two kind.Long = omega arith

-- ---- slots, the lowest first

take_more : (xs : List Slot) (m : ℕ) (x : Slot) → slice_get xs m ≡ Some x → take (suc m) xs ≡ take m xs ++ x ∷ []
take_more [] m x e = absurd cc
take_more (y ∷ xs) zero x e = cc
take_more (y ∷ xs) (suc m) x e = ap (λ (ys : List Slot). y ∷ ys) (take_more xs m x e)

pub lowest : (xs : List Slot) (m : ℕ) (x : Slot) → slice_get xs m ≡ Some x → reverse (take (suc m) xs) ≡ x ∷ reverse (take m xs)
lowest xs m x e = ap reverse (take_more xs m x e) ∙ reverse-append (take m xs) (x ∷ [])

there_is : (xs : List Slot) (i : ℕ) → i < length xs → (x : Slot) × (slice_get xs i ≡ Some x)
there_is [] i h = absurd (omega arith)
there_is (x ∷ xs) zero h = (x, refl)
there_is (x ∷ xs) (suc i) h = there_is xs i (omega arith)

-- the slots behind the first value
behind_one : (xs : List Slot) (m : ℕ) → m < length xs → drop 1 (reverse (take (suc m) xs)) ≡ reverse (take m xs)
behind_one xs m h = let x = there_is xs m h in rw (lowest xs m x.0 x.1) refl

behind_two : (xs : List Slot) (m : ℕ) → suc m < length xs → drop 2 (reverse (take (suc (suc m)) xs)) ≡ reverse (take m xs)
behind_two xs m h =
    let x = there_is xs (suc m) h in let y = there_is xs m (omega arith) in
    rw (lowest xs (suc m) x.0 x.1, lowest xs m y.0 y.1) refl

one_behind : (xs : List Slot) (left next : ℕ) → left ≡ suc next → left ≤ length xs → drop 1 (reverse (take left xs)) ≡ reverse (take next xs)
one_behind xs left next e h = rw e (behind_one xs next (omega arith))

two_behind : (xs : List Slot) (left next : ℕ) → left ≡ suc (suc next) → left ≤ length xs → drop 2 (reverse (take left xs)) ≡ reverse (take next xs)
two_behind xs left next e h = rw e (behind_two xs next (omega arith))

pub behind_value : (k : Kind) (xs : List Slot) (left next : ℕ) → left ≡ width k + next → left ≤ length xs → drop (width k) (reverse (take left xs)) ≡ reverse (take next xs)
behind_value kind.Int xs left next e h = one_behind xs left next (omega arith) h
behind_value kind.Ref xs left next e h = one_behind xs left next (omega arith) h
behind_value kind.Long xs left next e h = two_behind xs left next (omega arith) h

-- ---- one value

two_first : (xs : List Slot) (m : ℕ) (a b : Slot) → slice_get xs (suc m) ≡ Some a → slice_get xs m ≡ Some b → a_long (Some a) (Some b) ≡ head_word kind.Long (reverse (take (suc (suc m)) xs))
two_first xs m a b e g = rw (lowest xs (suc m) a e, lowest xs m b g) refl

two_by : (xs : List Slot) (left one two : ℕ) (a b : Slot) → one ≡ suc two → left ≡ suc one → slice_get xs one ≡ Some a → slice_get xs two ≡ Some b → a_long (Some a) (Some b) ≡ head_word kind.Long (reverse (take left xs))
two_by xs left one two a b p q e g = rw (q, p) (two_first xs two a b (rw p at e) g)

pub long_is : (k : Kind) (xs : List Slot) (left : ℕ) (a b : Slot) → k ≡ kind.Long → width k ≤ left → slice_get xs (left - 1) ≡ Some a → slice_get xs (left - 2) ≡ Some b → a_long (Some a) (Some b) ≡ head_word k (reverse (take left xs))
long_is k xs left a b is h e g =
    let w : 2 ≤ left = rw is at h in
    rw is (two_by xs left (left - 1) (left - 2) a b (omega arith) (omega arith) e g)

-- ---- all of them

-- values, and those that come behind them
abbrev pub joined : List Word → Result (List Word) Stop → Result (List Word) Stop
joined ws (Ok vs) = Ok (ws ++ vs)
joined ws (Err stop) = Err stop

joined_more : (ws : List Word) (w : Word) (r : Result (List Word) Stop) → joined (ws ++ w ∷ []) r ≡ joined ws (with_word (Some w) r)
joined_more ws w (Ok vs) = ap Ok (grind (arith, common_steps))
joined_more ws w (Err stop) = refl

words_step : (k : Kind) (ks : List Kind) (xs : List Slot) (left next : ℕ) (w : Word) → left ≡ width k + next → left ≤ length xs → head_word k (reverse (take left xs)) ≡ Some w → words_in (k ∷ ks) (reverse (take left xs)) ≡ with_word (Some w) (words_in ks (reverse (take next xs)))
words_step k ks xs left next w e h head = rw (head, behind_value k xs left next e h) refl

-- what the loop has read, with what is left
pub read_more : (ks : List Kind) (i : ℕ) (k : Kind) (xs : List Slot) (left next : ℕ) (ws more : List Word) (w : Word) (all : Result (List Word) Stop) →
    slice_get ks i ≡ Some k → left ≡ width k + next → left ≤ length xs → head_word k (reverse (take left xs)) ≡ Some w → more ≡ ws ++ w ∷ [] →
    joined ws (words_in (drop i ks) (reverse (take left xs))) ≡ all → joined more (words_in (drop (i + 1) ks) (reverse (take next xs))) ≡ all
read_more ks i k xs left next ws more w all at e h head is so_far =
    let step : words_in (drop i ks) (reverse (take left xs)) ≡ with_word (Some w) (words_in (drop (i + 1) ks) (reverse (take next xs)))
    = ap (λ (rest : List Kind). words_in rest (reverse (take left xs))) (drop_step ks i k at) ∙ words_step k (drop (i + 1) ks) xs left next w e h head in
    rw is (joined_more ws w (words_in (drop (i + 1) ks) (reverse (take next xs))) ∙ ap (joined ws) (sym step) ∙ so_far)
