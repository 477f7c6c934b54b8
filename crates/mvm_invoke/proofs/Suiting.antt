-- Whether values suit parameters, one by one.
use Rattle.std.proofs.Common.{◌≡◌, ℕ, ◌+◌, ◌<◌, ◌≤◌, List, [], ◌∷◌, length, drop, Bool, true, false, Some, Result, Ok, refl, sym, ap, ◌∙◌, zero, suc, arith}
use Rattle.std.specs.Prelude.{map, slice_get, ◌&&◌}
use Rattle.std.proofs.lemmas.List.{drop_all}
use Rattle.mvm_base.specs.declared.descriptor.FieldShape.{FieldShape}
use Rattle.mvm_base.specs.declared.value.Word.{Word}
use Rattle.mvm_isolate.specs.Isolate.{Isolate}
use Rattle.mvm_isolate.specs.Look.{Look}
use Rattle.mvm_isolate.specs.Natives.{all_suit, type_of_shape}
use Rattle.mvm_isolate.specs.Types.{ReferenceType}
use Rattle.mvm_isolate.specs.declared.stop.Stop.{Stop}
use Rattle.mvm_current.proofs.Reading.{drop_step}
use Rattle.mvm_invoke.specs.NativeCalls.{some_suits}

suit_first : (look : Look) (s : Isolate) (type : ReferenceType) (types : List ReferenceType) (words : List Word) (i : ℕ)
    → all_suit look s (type ∷ types) (drop i words) ≡ some_suits look s type (slice_get words i) && all_suit look s types (drop (suc i) words)
suit_first look s type types [] zero = refl
suit_first look s type types [] (suc i) = refl
suit_first look s type types (word ∷ words) zero = refl
suit_first look s type types (word ∷ words) (suc i) = suit_first look s type types words i

abbrev those_suit : Look → Isolate → List FieldShape → List Word → Bool
those_suit look s shapes words = all_suit look s (map type_of_shape shapes) words

suit_step : (look : Look) (s : Isolate) (shapes : List FieldShape) (words : List Word) (i from : ℕ) (shape : FieldShape) → slice_get shapes i ≡ Some shape
    → those_suit look s (drop i shapes) (drop (i + from) words) ≡ some_suits look s (type_of_shape shape) (slice_get words (i + from)) && those_suit look s (drop (i + 1) shapes) (drop (i + 1 + from) words)
suit_step look s shapes words i from shape e =
    let k : suc (i + from) ≡ i + 1 + from = omega arith in
    ap (λ (rest : List FieldShape). those_suit look s rest (drop (i + from) words)) (drop_step shapes i shape e)
    ∙ suit_first look s (type_of_shape shape) (map type_of_shape (drop (i + 1) shapes)) words (i + from)
    ∙ ap (λ (n : ℕ). some_suits look s (type_of_shape shape) (slice_get words (i + from)) && those_suit look s (drop (i + 1) shapes) (drop n words)) k

-- one value does not suit, so not all do
pub suits_no : (look : Look) (s : Isolate) (shapes : List FieldShape) (words : List Word) (i from : ℕ) (shape : FieldShape) (all : Bool) → slice_get shapes i ≡ Some shape → some_suits look s (type_of_shape shape) (slice_get words (i + from)) ≡ false
    → all_suit look s (map type_of_shape (drop i shapes)) (drop (i + from) words) ≡ all → all ≡ false
suits_no look s shapes words i from shape all e unsuited so_far =
    sym so_far ∙ suit_step look s shapes words i from shape e ∙ ap (λ (b : Bool). b && those_suit look s (drop (i + 1) shapes) (drop (i + 1 + from) words)) unsuited

-- one value suits, and the rest is to be looked at
pub suits_on : (look : Look) (s : Isolate) (shapes : List FieldShape) (words : List Word) (i from : ℕ) (shape : FieldShape) (all : Bool) → slice_get shapes i ≡ Some shape → some_suits look s (type_of_shape shape) (slice_get words (i + from)) ≡ true
    → all_suit look s (map type_of_shape (drop i shapes)) (drop (i + from) words) ≡ all → all_suit look s (map type_of_shape (drop (i + 1) shapes)) (drop (i + 1 + from) words) ≡ all
suits_on look s shapes words i from shape all e suited so_far =
    sym (suit_step look s shapes words i from shape e ∙ ap (λ (b : Bool). b && those_suit look s (drop (i + 1) shapes) (drop (i + 1 + from) words)) suited) ∙ so_far

pub suits_all : (look : Look) (s : Isolate) (shapes : List FieldShape) (words : List Word) (i : ℕ) (all : Bool) → length shapes ≤ i → all_suit look s (map type_of_shape (drop i shapes)) words ≡ all → all ≡ true
suits_all look s shapes words i all le so_far = sym so_far ∙ ap (λ (rest : List FieldShape). those_suit look s rest words) (drop_all i shapes le)

pub ok_same : (a b c : Bool) → ◌≡◌ {A = Result Bool Stop} (Ok a) (Ok b) → b ≡ c → a ≡ c
ok_same a b c e h = cc
