-- Texts, made one after another as the items of an array.
use Rattle.std.proofs.Common.{◌≡◌, ◌≢◌, ◌<◌, ◌≤◌, ℕ, zero, suc, ◌+◌, ◌-◌, ◌^◌, min, Bool, true, false, List, [], ◌∷◌, ◌++◌, length, drop, take, get_or, replicate, Option, Some, None, Result, Ok, Err, IsOk, IfErr, OnOk, refl, sym, ap, ◌∙◌, subst, arith, All}
use Rattle.std.specs.Prelude.{nat_lt, slice_set}
use Rattle.std.proofs.lemmas.List.{at_drop_more, drop_all, get_or_append_left, get_or_at, get_or-set_same, length-replicate, length_push}
use Rattle.std.proofs.lemmas.List.Elements.{All-cons}
use Rattle.mvm_base.specs.Answers.{◌>>=◌}
use Rattle.mvm_base.specs.declared.value.Word.TheVariants.{Ref}
use Rattle.mvm_heap.specs.Heap.{words, words_of, placed, put, written, object_at, nothing, zeros, text}
use Rattle.mvm_heap.specs.Objects.{Object}
use Rattle.mvm_heap.specs.Sorts.{bits_of}
use Rattle.mvm_heap.specs.declared.kind.ItemKind.TheVariants as item
use Rattle.mvm_heap.specs.declared.kind.ObjectKind.TheVariants.{Array}
use Rattle.mvm_isolate.specs.Isolate.{Isolate, new_array, new_text, with_number}
use Rattle.mvm_isolate.specs.Numbered.{Numbered, named}
use Rattle.mvm_isolate.specs.Sound.{Grows}
use Rattle.mvm_isolate.specs.Types.{items_of}
use Rattle.mvm_isolate.specs.declared.stop.Stop.{Stop}
use Rattle.mvm_isolate.specs.declared.stop.Stop.TheVariants.{OutOfMemory}
use Rattle.mvm_initialise.specs.Words.{has_words}
use Rattle.mvm_initialise.specs.Arguments.{arguments_made, arguments_words, text_put, texts_made, texts_words, IsArrayOf, IsPlace, STRINGS}
use Rattle.mvm_initialise.specs.Constants.{IsShort, MOST}
use Rattle.mvm_initialise.proofs.Setting.{grows_trans}
use Rattle.mvm_initialise.proofs.Taking.{arguments_take, fits_made, lacks_made, length_set}

-- ---- an array of references

abbrev Has : ℕ → Result (ℕ × Isolate) Stop → Type 0
Has count (Ok x) = IsArrayOf count x.1 x.0
Has count (Err fault) = ⊥

made_by : (count array : ℕ) (s t : Isolate) (lacks : Bool) → nat_lt s.heap.size (words s.heap.objects + words_of (zeros (Array item.Ref) 0 count)) ≡ lacks → new_array STRINGS count s ≡ Ok (array, t) → IsArrayOf count t array
unfolding new_array placed items_of
made_by count array s t true f h = let g = rw f at h in absurd cc
made_by count array s t false f h =
    let g = rw f at h in
    let o : Object = zeros (Array item.Ref) 0 count in
    let more : length (s.heap.objects ++ o ∷ []) ≡ length s.heap.objects + 1 = length_push s.heap.objects o in
    let new : object_at (s.heap.objects ++ o ∷ []) (length s.heap.objects) ≡ o = get_or_at s.heap.objects o [] nothing (length s.heap.objects) refl in
    subst (Has count) g (record { there = omega (arith, more); size = ap (λ (x : Object). length x.contents) new ∙ length-replicate count 0; sort = ap (λ (x : Object). x.sort) new })

pub array_made : (count array : ℕ) (s t : Isolate) → new_array STRINGS count s ≡ Ok (array, t) → IsArrayOf count t array
array_made count array s t h = made_by count array s t _ refl h

abbrev Keeps : ℕ → ℕ → Result (ℕ × Isolate) Stop → Type 0
Keeps count array (Ok x) = IsArrayOf count x.1 array
Keeps count array (Err fault) = ⊥

text_by : (units : List ℕ) (count array object : ℕ) (s t : Isolate) (lacks : Bool) → nat_lt s.heap.size (words s.heap.objects + words_of (text units)) ≡ lacks → new_text units s ≡ Ok (object, t)
    → IsArrayOf count s array → IsArrayOf count t array
unfolding new_text placed
text_by units count array object s t true f h is = let g = rw f at h in absurd cc
text_by units count array object s t false f h is =
    let g = rw f at h in
    let more : length (s.heap.objects ++ text units ∷ []) ≡ length s.heap.objects + 1 = length_push s.heap.objects (text units) in
    let same : object_at (s.heap.objects ++ text units ∷ []) array ≡ object_at s.heap.objects array = get_or_append_left s.heap.objects (text units ∷ []) nothing array is.there in
    subst (Keeps count array) g
    (record { there = omega (arith, more, is.there); size = ap (λ (x : Object). length x.contents) same ∙ is.size; sort = ap (λ (x : Object). x.sort) same ∙ is.sort })

-- a new text changes no array
pub text_keeps : (units : List ℕ) (count array object : ℕ) (s t : Isolate) → new_text units s ≡ Ok (object, t) → IsArrayOf count s array → IsArrayOf count t array
text_keeps units count array object s t h is = text_by units count array object s t _ refl h is

-- nor does an item its size
pub number_keeps : (count array place number : ℕ) (s : Isolate) → IsArrayOf count s array → IsArrayOf count (with_number array place number s) array
unfolding written
number_keeps count array place number s is =
    let o : Object = put (object_at s.heap.objects array) place number in
    let more : length (slice_set s.heap.objects array o) ≡ length s.heap.objects = length_set s.heap.objects array o in
    let same : object_at (slice_set s.heap.objects array o) array ≡ o = get_or-set_same s.heap.objects array o nothing is.there in
    let size : length o.contents ≡ length (object_at s.heap.objects array).contents = length_set (object_at s.heap.objects array).contents place _ in
    record { there = omega (arith, more, is.there); size = ap (λ (x : Object). length x.contents) same ∙ (size ∙ is.size); sort = ap (λ (x : Object). x.sort) same ∙ is.sort }

pub place_of : (count array place : ℕ) (s : Isolate) → IsArrayOf count s array → place < count → IsPlace s array place
place_of count array place s is h = record { there = is.there; within = omega (arith, is.size, h); sort = is.sort }

pub array_of : (array place : ℕ) (s : Isolate) → IsPlace s array place → IsArrayOf (length (object_at s.heap.objects array).contents) s array
array_of array place s is = record { there = is.there; size = refl; sort = is.sort }

-- ---- one text

pub text_is_put : (units : List ℕ) (array place object bits : ℕ) (s t u : Isolate) → new_text units s ≡ Ok (object, t) → bits ≡ bits_of (Ref object) → u ≡ with_number array place bits t → text_put array place units s ≡ Ok u
text_is_put units array place object bits s t u h b e =
    let is : u ≡ with_number array place (bits_of (Ref object)) t = e ∙ ap (λ (n : ℕ). with_number array place n t) b in
    rw (h, is) refl

-- ---- a loop over texts

step_by : (array place : ℕ) (others : List (List ℕ)) (r : Result (ℕ × Isolate) Stop)
    → (r >>= λ x. texts_made array (place + 1) others (with_number array place (bits_of (Ref x.0)) x.1)) ≡ ((r >>= λ x. Ok (with_number array place (bits_of (Ref x.0)) x.1)) >>= texts_made array (place + 1) others)
step_by array place others (Ok x) = refl
step_by array place others (Err fault) = refl

made_step : (array place : ℕ) (units : List ℕ) (others : List (List ℕ)) (s : Isolate) → texts_made array place (units ∷ others) s ≡ (text_put array place units s >>= texts_made array (place + 1) others)
made_step array place units others s = step_by array place others (new_text units s)

ok_first : {A B E : Type 0} (r : Result A E) (f : A → Result B E) → IsOk (r >>= f) → IsOk r
ok_first (Ok x) f e = refl
ok_first (Err fault) f e = absurd cc

-- so far the texts before were made
pub record Filling (old new : Numbered) (array place : ℕ) (texts : List (List ℕ)) : Type 0 where
  pub rest : texts_made array 0 texts (named old) ≡ texts_made array place (drop place texts) (named new)
  pub is : IsArrayOf (length texts) (named new) array
  pub links : new.env.links ≡ old.env.links
  pub grows : Grows old new

module _ (old mid : Numbered) (array : ℕ) (texts : List (List ℕ)) where
  pub filling_begins : IsArrayOf (length texts) (named old) array → Filling old old array 0 texts
  filling_begins is = record { rest = refl; is = is; links = refl; grows = record { classes = λ m c h. h; arrays = λ row shape h. h; files = refl; launch = refl } }

  module _ (place : ℕ) (units : List ℕ) (within : place < length texts) (at : units ≡ get_or texts place units) (k : Filling old mid array place texts) where
    drop_is : drop place texts ≡ units ∷ drop (place + 1) texts
    drop_is = at_drop_more (λ (x : List (List ℕ)). x) texts place units within ∙ ap (λ (x : List ℕ). x ∷ drop (place + 1) texts) (sym at)

    steps : texts_made array 0 texts (named old) ≡ (text_put array place units (named mid) >>= texts_made array (place + 1) (drop (place + 1) texts))
    steps = k.rest ∙ (ap (λ (x : List (List ℕ)). texts_made array place x (named mid)) drop_is ∙ made_step array place units (drop (place + 1) texts) (named mid))

    pub filling_fits : IsOk (texts_made array 0 texts (named old)) → IsOk (new_text units (named mid))
    filling_fits ok =
        let first : IsOk (text_put array place units (named mid)) = ok_first _ (texts_made array (place + 1) (drop (place + 1) texts)) (subst (λ (r : Result Isolate Stop). IsOk r) steps ok) in
        ok_first (new_text units (named mid)) _ first

    pub filling_place : IsPlace (named mid) array place
    filling_place = place_of (length texts) array place (named mid) k.is within

    pub filling_short : All IsShort texts → IsShort units
    filling_short all = subst IsShort (sym at) (all place units within)

    pub filling_more : (new : Numbered) → text_put array place units (named mid) ≡ Ok (named new) → ((count : ℕ) → IsArrayOf count (named mid) array → IsArrayOf count (named new) array) → new.env.links ≡ mid.env.links → Grows mid new
        → Filling old new array (place + 1) texts
    filling_more new put keeps links g = record {
      rest = steps ∙ ap (λ (r : Result Isolate Stop). r >>= texts_made array (place + 1) (drop (place + 1) texts)) put;
      is = keeps (length texts) k.is;
      links = links ∙ k.links;
      grows = grows_trans old mid new k.grows g;
    }

  pub filling_ends : (place : ℕ) → length texts ≤ place → Filling old mid array place texts → texts_made array 0 texts (named old) ≡ Ok (named mid)
  filling_ends place h k = k.rest ∙ ap (λ (x : List (List ℕ)). texts_made array place x (named mid)) (drop_all place texts h)

-- ---- a sum over texts

pub record Adding (texts : List (List ℕ)) (place so_far : ℕ) : Type 0 where
  pub few : so_far < 2 ^ 64
  pub sum : min (so_far + texts_words (drop place texts)) MOST ≡ min (texts_words texts) MOST
  pub short : All IsShort (drop place texts) → All IsShort texts

pub adding_begins : (texts : List (List ℕ)) → Adding texts 0 0
adding_begins texts = record { few = omega arith; sum = omega arith; short = λ all. all }

pub adding_more : (texts : List (List ℕ)) (place before after more : ℕ) (units : List ℕ) → place < length texts → units ≡ get_or texts place units → more ≡ words_of (text units) → after ≡ min (before + more) MOST → IsShort units
    → Adding texts place before → Adding texts (place + 1) after
adding_more texts place before after more units h at m is short k =
    let here : drop place texts ≡ units ∷ drop (place + 1) texts = at_drop_more (λ (x : List (List ℕ)). x) texts place units h ∙ ap (λ (x : List ℕ). x ∷ drop (place + 1) texts) (sym at) in
    let step : texts_words (drop place texts) ≡ words_of (text units) + texts_words (drop (place + 1) texts) = ap texts_words here in
    record {
      few = omega (arith, is);
      sum = (let so_far : min (before + texts_words (drop place texts)) MOST ≡ min (texts_words texts) MOST = k.sum in omega (arith, is, m, step, so_far));
      short = λ all. k.short (subst (All IsShort) (sym here) (All-cons IsShort units (drop (place + 1) texts) short all));
    }

pub adding_sum : (texts : List (List ℕ)) (place sum : ℕ) → length texts ≤ place → Adding texts place sum → sum ≡ min (texts_words texts) MOST
adding_sum texts place sum h k =
    let none : texts_words (drop place texts) ≡ 0 = ap texts_words (drop_all place texts h) in
    let so_far : min (sum + texts_words (drop place texts)) MOST ≡ min (texts_words texts) MOST = k.sum in
    omega (arith, none, so_far, k.few)

pub adding_short : (texts : List (List ℕ)) (place sum : ℕ) → length texts ≤ place → Adding texts place sum → All IsShort texts
adding_short texts place sum h k = k.short (subst (All IsShort) (sym (drop_all place texts h)) (λ i d l. absurd (omega (arith, l))))

-- ---- by what was asked

module _ (texts : List (List ℕ)) (s : Isolate) where
  pub may_be_made : (r : Result (Unit {0}) Stop) → r ≡ has_words (arguments_words texts) s → words s.heap.objects ≤ s.heap.size → OnOk r (IsOk (arguments_made texts s))
  may_be_made (Ok x) e within = fits_made (arguments_words texts) s (arguments_made texts s) (arguments_take texts s within) e
  may_be_made (Err fault) e within = tt

  pub is_thrown : (r : Result (Unit {0}) Stop) → r ≡ has_words (arguments_words texts) s → words s.heap.objects ≤ s.heap.size → IfErr r (λ fault. fault ≢ OutOfMemory → arguments_made texts s ≡ Err fault)
  is_thrown (Ok x) e within = tt
  is_thrown (Err fault) e within = λ other. lacks_made (arguments_words texts) s (arguments_made texts s) fault (arguments_take texts s within) e

  -- the array, and then its texts
  pub arguments_are : (array : ℕ) (t u : Isolate) → new_array STRINGS (length texts) s ≡ Ok (array, t) → texts_made array 0 texts t ≡ Ok u → arguments_made texts s ≡ Ok (array, u)
  unfolding arguments_made
  arguments_are array t u h k = rw (h, k) refl

  pub array_fits : IsOk (arguments_made texts s) → IsOk (new_array STRINGS (length texts) s)
  unfolding arguments_made
  array_fits ok = ok_first (new_array STRINGS (length texts) s) _ ok

  pub texts_fit : (array : ℕ) (t : Isolate) → IsOk (arguments_made texts s) → new_array STRINGS (length texts) s ≡ Ok (array, t) → IsOk (texts_made array 0 texts t)
  unfolding arguments_made
  texts_fit array t ok h =
      let k = rw h at ok in
      ok_first (texts_made array 0 texts t) _ k
