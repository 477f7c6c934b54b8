-- What is made takes so many words, or they are missing.
use Rattle.std.proofs.Common.{◌≡◌, ◌<◌, ◌≤◌, ℕ, zero, suc, ◌+◌, ◌*◌, Bool, true, false, List, [], ◌∷◌, ◌++◌, length, replicate, Option, Some, None, Result, Ok, Err, IsOk, refl, sym, ap, ◌∙◌, subst, arith, lt-ltb, le-ltb, ltb-true, ltb-false}
use Rattle.std.specs.Prelude.{nat_lt, slice_set}
use Rattle.std.proofs.lemmas.List.{length-replicate, length-set}
use Rattle.mvm_base.specs.Answers.{◌>>=◌}
use Rattle.mvm_base.specs.declared.value.Word.TheVariants.{Ref}
use Rattle.mvm_heap.specs.Heap.{words, words_of, placed, put, written, object_at, zeros, text}
use Rattle.mvm_heap.specs.Objects.{Object}
use Rattle.mvm_heap.specs.Sorts.{bits_of, words_needed}
use Rattle.mvm_heap.specs.declared.kind.ItemKind.TheVariants as item
use Rattle.mvm_heap.specs.declared.kind.ObjectKind.TheVariants.{Array}
use Rattle.mvm_base.specs.declared.descriptor.FieldShape.{FieldShape}
use Rattle.mvm_native.specs.declared.out.Thrown.TheVariants.{OutOfMemoryError}
use Rattle.mvm_isolate.specs.Isolate.{Isolate, stopped, allocated, new_array, new_text, with_number}
use Rattle.mvm_isolate.specs.Types.{ReferenceType, of_array, of_class, items_of, STRING}
use Rattle.mvm_isolate.specs.declared.stop.Stop.{Stop}
use Rattle.mvm_isolate.specs.declared.stop.Stop.TheVariants.{Throw}
use Rattle.mvm_initialise.specs.Arguments.{arguments_made, arguments_words, texts_made, texts_words, STRINGS}
use Rattle.mvm_initialise.specs.Arrays.{arrays_made, array_words, item_shape, items_made}
use Rattle.mvm_initialise.specs.Words.{has_words}
use Rattle.mvm_initialise.proofs.Agreeing.{words_append}

-- ---- words of what is written

words_set : (os : List Object) (n : ℕ) (o : Object) → words_of o ≡ words_of (object_at os n) → words (slice_set os n o) ≡ words os
unfolding words
words_set [] n o e = refl
words_set (x ∷ os) zero o e = ap (λ (w : ℕ). w + words os) e
words_set (x ∷ os) (suc n) o e = ap (λ (w : ℕ). words_of x + w) (words_set os n o e)

pub length_set : {X : Type 0} (xs : List X) (n : ℕ) (x : X) → length (slice_set xs n x) ≡ length xs
length_set [] n x = refl
length_set (y ∷ ys) zero x = refl
length_set (y ∷ ys) (suc n) x = ap (λ (k : ℕ). suc k) (length_set ys n x)

kept_words : (o : Object) (place number : ℕ) → words_of (put o place number) ≡ words_of o
kept_words o place number = ap (words_needed o.sort) (length_set o.contents place _)

words_written : (os : List Object) (n place number : ℕ) → words (written os n place number) ≡ words os
unfolding written
words_written os n place number = words_set os n (put (object_at os n) place number) (kept_words (object_at os n) place number)

-- ---- what is left

-- so many words were taken
pub record Left (w : ℕ) (s t : Isolate) : Type 0 where
  pub words_are : words t.heap.objects ≡ words s.heap.objects + w
  pub size_is : t.heap.size ≡ s.heap.size
  pub within : words t.heap.objects ≤ t.heap.size

-- so many words are missing
pub record Lacks (w : ℕ) (s : Isolate) (fault : Stop) : Type 0 where
  pub thrown : fault ≡ Throw OutOfMemoryError
  pub less : s.heap.size < words s.heap.objects + w

abbrev pub Takes : ℕ → Isolate → Result (ℕ × Isolate) Stop → Type 0
Takes w s (Ok x) = Left w s x.1
Takes w s (Err fault) = Lacks w s fault

abbrev pub Leaves : ℕ → Isolate → Result Isolate Stop → Type 0
Leaves w s (Ok t) = Left w s t
Leaves w s (Err fault) = Lacks w s fault

left_more : (v w : ℕ) (s t u : Isolate) → Left v s t → Left w t u → Left (v + w) s u
left_more v w s t u a b = record { words_are = omega (arith, a.words_are, b.words_are); size_is = b.size_is ∙ a.size_is; within = b.within }

lacks_more : (v w : ℕ) (s t : Isolate) (fault : Stop) → Left v s t → Lacks w t fault → Lacks (v + w) s fault
lacks_more v w s t fault a b = record { thrown = b.thrown; less = omega (arith, a.words_are, a.size_is, b.less) }

lacks_first : (v w : ℕ) (s : Isolate) (fault : Stop) → Lacks v s fault → Lacks (v + w) s fault
lacks_first v w s fault a = record { thrown = a.thrown; less = omega (arith, a.less) }

join : (v w : ℕ) (s t : Isolate) (r : Result Isolate Stop) → Left v s t → Leaves w t r → Leaves (v + w) s r
join v w s t (Ok u) a b = left_more v w s t u a b
join v w s t (Err fault) a b = lacks_more v w s t fault a b

-- what takes nothing comes before
shift : (w : ℕ) (s t : Isolate) (r : Result Isolate Stop) → Left 0 s t → Leaves w t r → Leaves w s r
shift w s t (Ok u) a b = record { words_are = omega (arith, a.words_are, b.words_are); size_is = b.size_is ∙ a.size_is; within = b.within }
shift w s t (Err fault) a b = record { thrown = b.thrown; less = omega (arith, a.words_are, a.size_is, b.less) }

none_left : (s : Isolate) → words s.heap.objects ≤ s.heap.size → Left 0 s s
none_left s within = record { words_are = omega arith; size_is = refl; within = within }

bind : (v w : ℕ) (s : Isolate) (r : Result (ℕ × Isolate) Stop) (f : ℕ × Isolate → Result Isolate Stop) → Takes v s r → ((x : ℕ × Isolate) → Left v s x.1 → Leaves w x.1 (f x)) → Leaves (v + w) s (r >>= f)
bind v w s (Ok x) f a next = join v w s x.1 (f x) a (next x a)
bind v w s (Err fault) f a next = lacks_first v w s fault a

whole_by : (n v w : ℕ) (s t : Isolate) (r : Result Isolate Stop) → Left v s t → Leaves w t r → Takes (v + w) s (r >>= λ made. Ok (n, made))
whole_by n v w s t (Ok u) a b = left_more v w s t u a b
whole_by n v w s t (Err fault) a b = lacks_more v w s t fault a b

whole : (v w : ℕ) (s : Isolate) (r : Result (ℕ × Isolate) Stop) (f : ℕ × Isolate → Result Isolate Stop) → Takes v s r → ((x : ℕ × Isolate) → Left v s x.1 → Leaves w x.1 (f x))
    → Takes (v + w) s (r >>= λ x. f x >>= λ made. Ok (x.0, made))
whole v w s (Ok x) f a next = whole_by x.0 v w s x.1 (f x) a (next x a)
whole v w s (Err fault) f a next = lacks_first v w s fault a

-- ---- one object

pub takes_by : (type : ReferenceType) (o : Object) (s : Isolate) (lacks : Bool) → nat_lt s.heap.size (words s.heap.objects + words_of o) ≡ lacks → Takes (words_of o) s (allocated type s (placed o s.heap))
unfolding placed
takes_by type o s true f = rw f (record { thrown = refl; less = ltb-true _ _ f })
takes_by type o s false f =
    let more : words (s.heap.objects ++ o ∷ []) ≡ words s.heap.objects + words_of o = words_append s.heap.objects o in
    let fit : words s.heap.objects + words_of o ≤ s.heap.size = ltb-false _ _ f in
    rw f (record { words_are = more; size_is = refl; within = omega (arith, more, fit) })

pub text_takes : (units : List ℕ) (s : Isolate) → Takes (words_of (text units)) s (new_text units s)
unfolding new_text
text_takes units s = takes_by (of_class STRING) (text units) s _ refl

pub array_takes : (shape : FieldShape) (count : ℕ) (s : Isolate) → Takes (words_needed (Array (items_of shape)) count) s (new_array shape count s)
unfolding new_array
array_takes shape count s =
    subst (λ (n : ℕ). Takes (words_needed (Array (items_of shape)) n) s (allocated (of_array shape) s (placed (zeros (Array (items_of shape)) 0 count) s.heap))) (length-replicate count 0)
    (takes_by (of_array shape) (zeros (Array (items_of shape)) 0 count) s _ refl)

number_takes : (object place number : ℕ) (s : Isolate) → words s.heap.objects ≤ s.heap.size → Left 0 s (with_number object place number s)
number_takes object place number s within =
    let same : words (written s.heap.objects object place number) ≡ words s.heap.objects = words_written s.heap.objects object place number in
    record { words_are = omega (arith, same); size_is = refl; within = omega (arith, same, within) }

-- ---- texts as the items of an array

texts_take : (array place : ℕ) (texts : List (List ℕ)) (s : Isolate) → words s.heap.objects ≤ s.heap.size → Leaves (texts_words texts) s (texts_made array place texts s)
texts_take array place [] s within = none_left s within
texts_take array place (units ∷ others) s within =
    bind (words_of (text units)) (texts_words others) s (new_text units s) (λ x. texts_made array (place + 1) others (with_number array place (bits_of (Ref x.0)) x.1)) (text_takes units s)
    (λ x left. (let put : Left 0 x.1 (with_number array place (bits_of (Ref x.0)) x.1) = number_takes array place (bits_of (Ref x.0)) x.1 left.within in
    shift (texts_words others) x.1 (with_number array place (bits_of (Ref x.0)) x.1) _ put (texts_take array (place + 1) others (with_number array place (bits_of (Ref x.0)) x.1) put.within)))

pub arguments_take : (texts : List (List ℕ)) (s : Isolate) → words s.heap.objects ≤ s.heap.size → Takes (arguments_words texts) s (arguments_made texts s)
unfolding arguments_made items_of
arguments_take texts s within =
    whole (words_needed (Array item.Ref) (length texts)) (texts_words texts) s (new_array STRINGS (length texts) s) (λ x. texts_made x.0 0 texts x.1) (array_takes STRINGS (length texts) s)
    (λ x left. texts_take x.0 0 texts x.1 left.within)

-- ---- arrays of arrays

module _ (make : Isolate → Result (ℕ × Isolate) Stop) (w : ℕ) (each : (s : Isolate) → words s.heap.objects ≤ s.heap.size → Takes w s (make s)) where
  items_take : (array place n : ℕ) (s : Isolate) → words s.heap.objects ≤ s.heap.size → Leaves (n * w) s (items_made make array place n s)
  items_take array place zero s within =
      let none : 0 ≡ 0 * w = omega arith in
      subst (λ (k : ℕ). Left k s s) none (none_left s within)
  items_take array place (suc n) s within =
      let sum : w + n * w ≡ suc n * w = omega arith in
      subst (λ (k : ℕ). Leaves k s (items_made make array place (suc n) s)) sum
      (bind w (n * w) s (make s) (λ x. items_made make array (place + 1) n (with_number array place (bits_of (Ref x.0)) x.1)) (each s within)
      (λ x left. (let put : Left 0 x.1 (with_number array place (bits_of (Ref x.0)) x.1) = number_takes array place (bits_of (Ref x.0)) x.1 left.within in
      shift (n * w) x.1 (with_number array place (bits_of (Ref x.0)) x.1) _ put (items_take array (place + 1) n (with_number array place (bits_of (Ref x.0)) x.1) put.within))))

pub arrays_take : (counts : List ℕ) (count : ℕ) (shape : FieldShape) (s : Isolate) → words s.heap.objects ≤ s.heap.size → Takes (array_words shape (count ∷ counts)) s (arrays_made shape (count ∷ counts) s)
unfolding arrays_made array_words
arrays_take [] count shape s within = array_takes shape count s
arrays_take (next ∷ counts) count shape s within =
    whole (words_needed (Array (items_of shape)) count) (count * array_words (item_shape shape) (next ∷ counts)) s (new_array shape count s)
    (λ x. items_made (arrays_made (item_shape shape) (next ∷ counts)) x.0 0 count x.1) (array_takes shape count s)
    (λ x left. items_take (arrays_made (item_shape shape) (next ∷ counts)) (array_words (item_shape shape) (next ∷ counts)) (arrays_take counts next (item_shape shape)) x.0 0 count x.1 left.within)

-- ---- by what was asked

module _ (w : ℕ) (s : Isolate) where
  pub fits_made : (r : Result (ℕ × Isolate) Stop) → Takes w s r → Ok tt ≡ has_words w s → IsOk r
  unfolding has_words
  fits_made (Ok x) a e = refl
  fits_made (Err fault) a e =
      let test : nat_lt s.heap.size (words s.heap.objects + w) ≡ true = lt-ltb _ _ a.less in
      let k = rw test at e in absurd cc

  pub lacks_made : (r : Result (ℕ × Isolate) Stop) (fault : Stop) → Takes w s r → Err fault ≡ has_words w s → r ≡ Err fault
  unfolding has_words
  lacks_made (Ok x) fault a e =
      let test : nat_lt s.heap.size (words s.heap.objects + w) ≡ false = le-ltb _ _ (omega (arith, a.words_are, a.size_is, a.within)) in
      let k = rw test at e in absurd cc
  lacks_made (Err other) fault a e =
      let test : nat_lt s.heap.size (words s.heap.objects + w) ≡ true = lt-ltb _ _ a.less in
      let k = rw test at e in
      let is : Throw OutOfMemoryError ≡ fault = cc in
      ap (λ (x : Stop). Err x) (a.thrown ∙ is)
