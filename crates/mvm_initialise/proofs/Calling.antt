-- What a synchronized main is called with.
use Rattle.std.proofs.Common.{◌≡◌, ◌<◌, ◌≤◌, ℕ, suc, ◌+◌, Bool, true, false, List, [], ◌∷◌, length, get_or, Option, Some, None, Result, Ok, Err, IsOk, refl, sym, ap, ◌∙◌, subst, arith, lt-ltb, ltb-true}
use Rattle.std.specs.Prelude.{nat_lt, slice_get}
use Rattle.mvm_base.specs.Answers.{◌>>=◌}
use Rattle.std.proofs.lemmas.Option.{slice_get-get_or, slice_get_within}
use Rattle.mvm_base.specs.declared.descriptor.FieldShape.{FieldShape}
use Rattle.mvm_heap.specs.Heap.{words, words_of, free, placed, zeros}
use Rattle.mvm_heap.specs.Sorts.{words_needed}
use Rattle.mvm_heap.specs.declared.kind.ObjectKind.TheVariants.{Array, Object}
use Rattle.mvm_heap.specs.declared.kind.ItemKind.TheVariants as item
use Rattle.mvm_mirror.specs.Arrays.{shapes_of}
use Rattle.mvm_mirror.specs.declared.arrays.ArrayRow.{ArrayRow}
use Rattle.mvm_native.specs.declared.out.Thrown.TheVariants.{OutOfMemoryError, StackOverflowError}
use Rattle.mvm_region.specs.declared.monitor.Monitor.{Monitor}
use Rattle.mvm_isolate.specs.Isolate.{Isolate, stopped, allocated, class_object, new_array, new_object, with_class_object}
use Rattle.mvm_isolate.specs.Types.{items_of, of_class, CLASS}
use Rattle.mvm_isolate.specs.Monitors.{with_monitor}
use Rattle.mvm_isolate.specs.Numbered.{Numbered, class_at, name_at, named, shape_at, shape_in, IsArray}
use Rattle.mvm_isolate.specs.Sound.{Grows}
use Rattle.mvm_isolate.specs.declared.stop.Stop.{Stop}
use Rattle.mvm_isolate.specs.declared.stop.Stop.TheVariants.{Throw}
use Rattle.mvm_initialise.specs.Arguments.{arguments_made, arguments_words, main_arguments, main_in, main_known, main_locked, texts_made, STRINGS}
use Rattle.mvm_initialise.specs.Locks.{monitor_entered}
use Rattle.mvm_initialise.specs.Words.{has_words}
use Rattle.mvm_set.specs.declared.class.Lineage.{Lineage}
use Rattle.mvm_initialise.proofs.Setting.{name_stays}
use Rattle.mvm_initialise.proofs.Entering.{new_monitor}
use Rattle.mvm_initialise.specs.declared.arguments.MainCall.{MainCall}
use Rattle.mvm_initialise.specs.declared.arguments.MainLock.TheVariants.{Entered}
use Rattle.mvm_initialise.proofs.Taking.{arguments_take, takes_by, Lacks, Left, Takes}

-- ---- isolates with the same objects

like_ok : (w : ℕ) (s t : Isolate) (r q : Result (ℕ × Isolate) Stop) → t.heap.objects ≡ s.heap.objects → t.heap.size ≡ s.heap.size → Takes w s r → Takes w t q → IsOk r → IsOk q
like_ok w s t r (Ok y) o z a b ok = refl
like_ok w s t (Err e) q o z a b ok = absurd cc
like_ok w s t (Ok x) (Err f) o z a b ok = let same : words t.heap.objects ≡ words s.heap.objects = ap words o in absurd (omega (arith, same, z, a.words_are, a.size_is, a.within, b.less))

like_err : (w : ℕ) (s t : Isolate) (r q : Result (ℕ × Isolate) Stop) (fault : Stop) → t.heap.objects ≡ s.heap.objects → t.heap.size ≡ s.heap.size → Takes w s r → Takes w t q → r ≡ Err fault → q ≡ Err fault
like_err w s t (Ok x) q fault o z a b e = absurd cc
like_err w s t (Err f) (Ok y) fault o z a b e = let same : words t.heap.objects ≡ words s.heap.objects = ap words o in absurd (omega (arith, same, z, b.words_are, b.size_is, b.within, a.less))
like_err w s t (Err f) (Err g) fault o z a b e = ap (λ (x : Stop). Err x) (b.thrown ∙ sym a.thrown) ∙ e

module _ (texts : List (List ℕ)) (object : ℕ) (monitor : Monitor) (s : Isolate) (within : words s.heap.objects ≤ s.heap.size) where
  pub fits_entered : IsOk (arguments_made texts s) → IsOk (arguments_made texts (with_monitor object monitor s))
  fits_entered ok =
      like_ok (arguments_words texts) s (with_monitor object monitor s) (arguments_made texts s) (arguments_made texts (with_monitor object monitor s)) refl refl
      (arguments_take texts s within) (arguments_take texts (with_monitor object monitor s) within) ok

  pub lacks_entered : (fault : Stop) → arguments_made texts s ≡ Err fault → arguments_made texts (with_monitor object monitor s) ≡ Err fault
  lacks_entered fault e =
      like_err (arguments_words texts) s (with_monitor object monitor s) (arguments_made texts s) (arguments_made texts (with_monitor object monitor s)) fault refl refl
      (arguments_take texts s within) (arguments_take texts (with_monitor object monitor s) within) e

-- ---- what a call comes to

module _ (texts : List (List ℕ)) (object : ℕ) (s : Isolate) (monitor : Monitor) where
  pub main_is : (array : ℕ) (t : Isolate) → arguments_made texts (with_monitor object monitor s) ≡ Ok (array, t) → main_in texts true object s (Some monitor) ≡ Ok (Entered (record { lock = object; arguments = array }), t)
  unfolding main_arguments
  main_is array t h = rw h refl

  full_by : (r : Result (ℕ × Isolate) Stop) → arguments_made texts (with_monitor object monitor s) ≡ r → IsOk r → main_in texts false object s (Some monitor) ≡ stopped StackOverflowError
  unfolding main_arguments
  full_by (Ok x) h ok = rw h refl
  full_by (Err fault) h ok = absurd cc

  pub main_full : IsOk (arguments_made texts (with_monitor object monitor s)) → main_in texts false object s (Some monitor) ≡ stopped StackOverflowError
  main_full ok = full_by _ refl ok

  pub main_lacks : (room : Bool) (fault : Stop) → arguments_made texts (with_monitor object monitor s) ≡ Err fault → main_in texts room object s (Some monitor) ≡ Err fault
  unfolding main_arguments
  main_lacks room fault h = rw h refl

-- ---- the number of an array class stays

shape_by : (a b : Numbered) (row : ℕ) (shape : FieldShape) → slice_get (shapes_of a.arrays) row ≡ Some shape → slice_get (shapes_of b.arrays) row ≡ Some shape → shape_at b row ≡ shape_at a row
unfolding shape_in
shape_by a b row shape e f = rw (e, f) refl

module _ (a b : Numbered) (row : ℕ) (there : IsArray a row) (g : Grows a b) where
  count_is : (n : Numbered) → length (shapes_of n.arrays) ≡ length n.arrays
  count_is n = map_length n.arrays
    where
      map_length : (rows : List ArrayRow) → length (shapes_of rows) ≡ length rows
      map_length [] = refl
      map_length (r ∷ rows) = ap (λ (k : ℕ). suc k) (map_length rows)

  is_at : slice_get (shapes_of a.arrays) row ≡ Some (get_or (shapes_of a.arrays) row STRINGS)
  is_at = slice_get-get_or (shapes_of a.arrays) row STRINGS (let n : length (shapes_of a.arrays) ≡ length a.arrays = count_is a in omega (arith, n, there))

  pub shape_stays : shape_at b row ≡ shape_at a row
  shape_stays = shape_by a b row _ is_at (g.arrays row _ is_at)

  pub row_stays : IsArray b row
  row_stays =
      let n : length (shapes_of b.arrays) ≡ length b.arrays = count_is b in
      let h : row < length (shapes_of b.arrays) = slice_get_within (shapes_of b.arrays) row _ (g.arrays row _ is_at) in
      omega (arith, n, h)

-- ---- a class object that is made for it

abbrev pub OWN : ℕ
OWN = words_needed Object 0

abbrev pub entry_of : ℕ → Monitor
entry_of thread = record { owner = Some thread; count = 1 }

class_by : (name : List ℕ) (s : Isolate) (r : Result (ℕ × Isolate) Stop) → Takes OWN s r → Takes OWN s (r >>= λ x. Ok (x.0, with_class_object (of_class name) x.0 x.1))
class_by name s (Ok x) a = record { words_are = a.words_are; size_is = a.size_is; within = a.within }
class_by name s (Err fault) a = a

class_takes : (name : List ℕ) (s : Isolate) → s.classes.objects name ≡ None → Takes OWN s (class_object (of_class name) s)
unfolding class_object new_object
class_takes name s none = rw none (class_by name s (allocated (of_class CLASS) s (placed (zeros Object 0 0) s.heap)) (takes_by (of_class CLASS) (zeros Object 0 0) s _ refl))

module _ (texts : List (List ℕ)) (thread : ℕ) (name : List ℕ) (s : Isolate) (none : s.classes.objects name ≡ None) (each : length s.heap.monitors ≡ length s.heap.objects) where
  pub new_is : (room : Bool) (object : ℕ) (t : Isolate) → class_object (of_class name) s ≡ Ok (object, t) → main_locked texts room thread name s ≡ main_in texts room object t (Some (entry_of thread))
  unfolding main_locked main_known monitor_entered
  new_is room object t h =
      let m : slice_get t.heap.monitors object ≡ Some free = new_monitor name s t object none each h in
      rw h (rw m refl)

  pub new_thrown : (room : Bool) (fault : Stop) → class_object (of_class name) s ≡ Err fault → main_locked texts room thread name s ≡ Err fault
  unfolding main_locked
  new_thrown room fault h = rw h refl

  fits_by : (t : Isolate) (q : Result (ℕ × Isolate) Stop) → Left OWN s t → Takes (arguments_words texts) t q → Ok tt ≡ has_words (OWN + arguments_words texts) s → IsOk q
  unfolding has_words
  fits_by t (Ok x) a b e = refl
  fits_by t (Err fault) a b e =
      let test : nat_lt s.heap.size (words s.heap.objects + (OWN + arguments_words texts)) ≡ true = lt-ltb _ _ (omega (arith, a.words_are, a.size_is, b.less)) in
      let k = rw test at e in absurd cc

  pub new_fits : (object : ℕ) (monitor : Monitor) (t : Isolate) → class_object (of_class name) s ≡ Ok (object, t) → Ok tt ≡ has_words (OWN + arguments_words texts) s → IsOk (arguments_made texts (with_monitor object monitor t))
  new_fits object monitor t h e =
      let a : Left OWN s t = subst (Takes OWN s) h (class_takes name s none) in
      fits_by (with_monitor object monitor t) (arguments_made texts (with_monitor object monitor t)) (record { words_are = a.words_are; size_is = a.size_is; within = a.within })
      (arguments_take texts (with_monitor object monitor t) a.within) e

  full_of : (r : Result (ℕ × Isolate) Stop) → class_object (of_class name) s ≡ r → Takes OWN s r → Ok tt ≡ has_words (OWN + arguments_words texts) s → main_locked texts false thread name s ≡ stopped StackOverflowError
  unfolding has_words
  full_of (Ok x) h a e = new_is false x.0 x.1 h ∙ main_full texts x.0 x.1 (entry_of thread) (new_fits x.0 (entry_of thread) x.1 h e)
  full_of (Err fault) h a e =
      let test : nat_lt s.heap.size (words s.heap.objects + (OWN + arguments_words texts)) ≡ true = lt-ltb _ _ (omega (arith, a.less)) in
      let k = rw test at e in absurd cc

  pub new_full : Ok tt ≡ has_words (OWN + arguments_words texts) s → main_locked texts false thread name s ≡ stopped StackOverflowError
  new_full e = full_of _ refl (class_takes name s none) e

  missing : (fault : Stop) (lacks : Bool) → nat_lt s.heap.size (words s.heap.objects + (OWN + arguments_words texts)) ≡ lacks → Err fault ≡ has_words (OWN + arguments_words texts) s → Lacks (OWN + arguments_words texts) s fault
  unfolding has_words
  missing fault true f e =
      let k = rw f at e in
      let is : fault ≡ Throw OutOfMemoryError = cc in
      record { thrown = is; less = ltb-true _ _ f }
  missing fault false f e = let k = rw f at e in absurd cc

  rest_lacks : (fault : Stop) (t : Isolate) (q : Result (ℕ × Isolate) Stop) → Left OWN s t → Takes (arguments_words texts) t q → Lacks (OWN + arguments_words texts) s fault → q ≡ Err fault
  rest_lacks fault t (Ok x) a b m = absurd (omega (arith, a.words_are, a.size_is, b.words_are, b.size_is, b.within, m.less))
  rest_lacks fault t (Err other) a b m = ap (λ (x : Stop). Err x) (b.thrown ∙ sym m.thrown)

  lacks_of : (room : Bool) (fault : Stop) (r : Result (ℕ × Isolate) Stop) → class_object (of_class name) s ≡ r → Takes OWN s r → Lacks (OWN + arguments_words texts) s fault → main_locked texts room thread name s ≡ Err fault
  lacks_of room fault (Ok x) h a m =
      let t : Isolate = with_monitor x.0 (entry_of thread) x.1 in
      new_is room x.0 x.1 h ∙ main_lacks texts x.0 x.1 (entry_of thread) room fault
      (rest_lacks fault t (arguments_made texts t) (record { words_are = a.words_are; size_is = a.size_is; within = a.within }) (arguments_take texts t a.within) m)
  lacks_of room fault (Err other) h a m = new_thrown room other h ∙ ap (λ (x : Stop). Err x) (a.thrown ∙ sym m.thrown)

  pub new_lacks : (room : Bool) (fault : Stop) → Err fault ≡ has_words (OWN + arguments_words texts) s → main_locked texts room thread name s ≡ Err fault
  new_lacks room fault e = lacks_of room fault _ refl (class_takes name s none) (missing fault _ refl e)

-- one that is known
pub known_is : (texts : List (List ℕ)) (room : Bool) (thread object : ℕ) (name : List ℕ) (s : Isolate) → s.classes.objects name ≡ Some object → main_locked texts room thread name s ≡ main_known texts room thread object s
unfolding main_locked class_object
known_is texts room thread object name s e = rw e refl

-- ---- the array stands behind what was there

abbrev number_of : Result (ℕ × Isolate) Stop → ℕ
number_of (Ok x) = x.0
number_of (Err fault) = 0

last_by : (count array : ℕ) (s t : Isolate) (lacks : Bool) → nat_lt s.heap.size (words s.heap.objects + words_of (zeros (Array item.Ref) 0 count)) ≡ lacks → new_array STRINGS count s ≡ Ok (array, t) → array ≡ length s.heap.objects
unfolding new_array placed items_of
last_by count array s t true f h = let g = rw f at h in absurd cc
last_by count array s t false f h = let g = rw f at h in sym (ap number_of g)

abbrev with_first : ℕ → Result Isolate Stop → Result (ℕ × Isolate) Stop
with_first a r = r >>= λ made. Ok (a, made)

same_number : (a array : ℕ) (u : Isolate) (r : Result Isolate Stop) → with_first a r ≡ Ok (array, u) → a ≡ array
same_number a array u (Ok v) e = ap number_of e
same_number a array u (Err fault) e = absurd cc

behind_by : (texts : List (List ℕ)) (array : ℕ) (s u : Isolate) (r : Result (ℕ × Isolate) Stop) → new_array STRINGS (length texts) s ≡ r → arguments_made texts s ≡ Ok (array, u) → array ≡ length s.heap.objects
unfolding arguments_made
behind_by texts array s u (Ok x) h e =
    let k = rw h at e in
    sym (same_number x.0 array u (texts_made x.0 0 texts x.1) k) ∙ last_by (length texts) x.0 s x.1 _ refl h
behind_by texts array s u (Err fault) h e = let k = rw h at e in absurd cc

pub array_behind : (texts : List (List ℕ)) (array : ℕ) (s u : Isolate) → arguments_made texts s ≡ Ok (array, u) → array ≡ length s.heap.objects
array_behind texts array s u e = behind_by texts array s u _ refl e

-- ---- a class object, where an array class was met before

pub made_old : (old mid : Numbered) (mirror : ℕ) (class : Lineage) (r : Result (ℕ × Isolate) Stop) → class_at old mirror ≡ Some class → Grows old mid → named mid ≡ named old
    → class_object (of_class (name_at mid mirror)) (named mid) ≡ r → class_object (of_class (name_at old mirror)) (named old) ≡ r
made_old old mid mirror class r at g same e =
    subst (λ (s : Isolate). class_object (of_class (name_at old mirror)) s ≡ r) same
    (subst (λ (name : List ℕ). class_object (of_class name) (named mid) ≡ r) (name_stays old mid mirror class at g) e)
