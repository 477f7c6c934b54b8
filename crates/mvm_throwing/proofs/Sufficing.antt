-- Whether a throw finds its words can be known before anything is done.
use native.Mathlib.Omega.{arith}
use Rattle.std.proofs.Common.{◌≡◌, ◌≤◌, ◌<◌, refl, sym, ◌∙◌, ap, length-set}
use Rattle.std.proofs.lemmas.Bool.Decides.{nat_tests}
use Rattle.std.proofs.lemmas.List.{length-append, length-map}
use Rattle.std.specs.Prelude.{◌≢◌, ℕ, zero, suc, ◌+◌, ◌-◌, List, [], ◌∷◌, ◌++◌, length, map, Bool, true, false, not, ◌&&◌, ◌==◌, nat_le, nat_lt, if◌then◌else◌, Option, Some, None, Result, Ok, Err, slice_get, slice_set}
use Rattle.std.specs.Result.{is_ok}
use Rattle.mvm_base.specs.Answers.{◌>>=◌}
use Rattle.mvm_base.specs.declared.value.Word.TheVariants.{Ref}
use Rattle.mvm_heap.specs.Heap.{words, words_of, zeros, placed, put, written, object_at, free}
use Rattle.mvm_heap.specs.Objects.{Object, State}
use Rattle.mvm_heap.specs.Sorts.{bits_of}
use Rattle.mvm_heap.specs.declared.kind.ObjectKind.TheVariants as sort
use Rattle.mvm_heap.specs.declared.kind.AllocFault.TheVariants.{Full}
use Rattle.mvm_native.specs.declared.out.Thrown.TheVariants.{ExceptionInInitializerError}
use Rattle.mvm_region.specs.declared.monitor.Monitor.{Monitor}
use Rattle.mvm_isolate.specs.Initialise.{failed}
use Rattle.mvm_isolate.specs.Isolate.{Isolate, type_at, new_object, with_number}
use Rattle.mvm_isolate.specs.Look.{Look}
use Rattle.mvm_isolate.specs.Numbered.{Numbered, look_of, named, type_of_head, types_in}
use Rattle.mvm_mirror.specs.Arrays.{shapes_of}
use Rattle.mvm_mirror.specs.Kept.{classes_of}
use Rattle.mvm_native.specs.Unclassed.{head_of, heads_of}
use Rattle.mvm_native.proofs.Unclassed.{unclassed_length}
use Rattle.mvm_isolate.specs.Monitors.{monitor_at}
use Rattle.mvm_isolate.specs.Thrown.{name_of_thrown}
use Rattle.mvm_isolate.specs.Types.{ReferenceType, of_class}
use Rattle.mvm_isolate.specs.declared.stop.Stop.{Stop}
use Rattle.mvm_current.specs.Frames.{Runs, method, starting, initialising, Frame, LAST}
use Rattle.mvm_locking.specs.Monitors.{owns, exited_at, monitor_exited, released}
use Rattle.mvm_throwing.specs.Throwing.{Passing, Unwound, handler_for, is_error, wrapped, through_initialiser, class_failed, through_frame, frame_left, caught_or, unwound}
use Rattle.mvm_throwing.specs.Unwinding.{THROWABLE, caught_or_goes, wraps, unwinds}

-- ---- words

words_append : (os : List Object) (o : Object) → words (os ++ o ∷ []) ≡ words os + words_of o
unfolding words
words_append [] o = omega arith
words_append (x ∷ os) o = let e : words (os ++ o ∷ []) ≡ words os + words_of o = words_append os o in omega (arith, e)

words_set : (os : List Object) (n : ℕ) (o : Object) → words_of o ≡ words_of (object_at os n) → words (slice_set os n o) ≡ words os
unfolding words
words_set [] n o e = refl
words_set (x ∷ os) zero o e = ap (λ (w : ℕ). w + words os) e
words_set (x ∷ os) (suc n) o e = ap (λ (w : ℕ). words_of x + w) (words_set os n o e)

kept_words : (o : Object) (place number : ℕ) → words_of (put o place number) ≡ words_of o
kept_words o place number = rw (length-set o.contents place _) refl

words_written : (os : List Object) (n place number : ℕ) → words (written os n place number) ≡ words os
unfolding written
words_written os n place number = words_set os n (put (object_at os n) place number) (kept_words (object_at os n) place number)

-- ---- isolates that differ in monitors and in the states of classes alone

-- how many words are left
abbrev pub left_of : Isolate → ℕ
left_of s = s.heap.size - words s.heap.objects

record Alike (s t : Isolate) : Type 0 where
  objects : t.heap.objects ≡ s.heap.objects
  size : t.heap.size ≡ s.heap.size
  types : t.types ≡ s.types

exited_alike : (object : ℕ) (monitor : Option Monitor) (s : Isolate) → Alike s (exited_at object monitor s)
exited_alike object (Some monitor) s = record { objects = refl; size = refl; types = refl }
exited_alike object None s = record { objects = refl; size = refl; types = refl }

left_alike : (object : ℕ) (s : Isolate) → Alike s (monitor_exited object s)
unfolding monitor_exited
left_alike object s = exited_alike object (monitor_at s object) s

released_by : (thread object : ℕ) (s : Isolate) (owned : Bool) → owns thread object s ≡ owned → Alike s (released thread (Some object) s)
unfolding released
released_by thread object s true e = rw e (left_alike object s)
released_by thread object s false e = rw e (record { objects = refl; size = refl; types = refl })

nothing_released : (thread : ℕ) (s : Isolate) → Alike s (released thread None s)
unfolding released
nothing_released thread s = record { objects = refl; size = refl; types = refl }

released_alike : (thread : ℕ) (lock : Option ℕ) (s : Isolate) → Alike s (released thread lock s)
released_alike thread (Some object) s = released_by thread object s (owns thread object s) refl
released_alike thread None s = nothing_released thread s

-- ---- what is known of the object on its way

-- each object has a type, the words suffice so far, so many are left, and the object is of this type
pub record Known (x : Passing) (left : ℕ) (type : Option ReferenceType) : Type 0 where
  pub typed : length x.1.types ≡ length x.1.heap.objects
  pub within : words x.1.heap.objects ≤ x.1.heap.size
  pub rest : left + words x.1.heap.objects ≡ x.1.heap.size
  pub is : slice_get x.1.types x.0 ≡ type

known_alike : (object : ℕ) (s t : Isolate) (left : ℕ) (type : Option ReferenceType) → Alike s t → Known (object, s) left type → Known (object, t) left type
known_alike object s t left type a k = record {
  typed = rw (a.types, a.objects) k.typed;
  within = rw (a.objects, a.size) k.within;
  rest = rw (a.objects, a.size) k.rest;
  is = rw a.types k.is;
}

-- ---- the throwable that takes the place of another

get_last : {X : Type 0} (xs : List X) (x : X) (n : ℕ) → length xs ≡ n → slice_get (xs ++ x ∷ []) n ≡ Some x
get_last [] x zero e = refl
get_last [] x (suc n) e = absurd (omega (arith, e))
get_last (y ∷ ys) x zero e = absurd (omega (arith, e))
get_last (y ∷ ys) x (suc n) e = get_last ys x n (omega (arith, e))

abbrev ERROR : Option ReferenceType
ERROR = Some (of_class (name_of_thrown ExceptionInInitializerError))

-- it was made, and of what is left it took its words
record Wrapped (r : Result Passing Stop) (left : ℕ) : Type 0 where
  made : Passing
  is : r ≡ Ok made
  known : Known made (left - THROWABLE) ERROR

abbrev pub throwable : Object
throwable = zeros sort.Object 0 2

-- the heap with one throwable more
abbrev heap_after : State → State
heap_after h = record h { objects = h.objects ++ throwable ∷ []; monitors = h.monitors ++ free ∷ [] }

placed_fits : (h : State) (lacks : Bool) → nat_lt h.size (words h.objects + THROWABLE) ≡ lacks → lacks ≡ false → placed throwable h ≡ Ok (length h.objects, heap_after h)
unfolding placed
placed_fits h false e f = rw e refl
placed_fits h true e f = absurd cc

placed_lacks : (h : State) (lacks : Bool) → nat_lt h.size (words h.objects + THROWABLE) ≡ lacks → lacks ≡ true → placed throwable h ≡ Err Full
unfolding placed
placed_lacks h true e f = rw e refl
placed_lacks h false e f = absurd cc

abbrev with_new : List ℕ → Isolate → Isolate
with_new name s = record s { heap = heap_after s.heap; types = s.types ++ of_class name ∷ [] }

made_fits : (name : List ℕ) (s : Isolate) → placed throwable s.heap ≡ Ok (length s.heap.objects, heap_after s.heap) → new_object name 2 s ≡ Ok (length s.heap.objects, with_new name s)
unfolding new_object
made_fits name s e = rw e refl

made_lacks : (name : List ℕ) (s : Isolate) → placed throwable s.heap ≡ Err Full → is_ok (new_object name 2 s) ≡ false
unfolding new_object
made_lacks name s e = rw e refl

abbrev isolate_after : Isolate → Isolate
isolate_after s = with_new (name_of_thrown ExceptionInInitializerError) s

abbrev with_cause : ℕ → Isolate → Passing
with_cause object s = (length s.heap.objects, with_number (length s.heap.objects) 1 (bits_of (Ref object)) (isolate_after s))

length_written : (os : List Object) (n place number : ℕ) → length (written os n place number) ≡ length os
unfolding written
length_written os n place number = length-set os n (put (object_at os n) place number)

cause_known : (object : ℕ) (s : Isolate) (left : ℕ) (type : Option ReferenceType) → Known (object, s) left type → THROWABLE ≤ left → Known (with_cause object s) (left - THROWABLE) ERROR
cause_known object s left type k fits =
    let os : List Object = s.heap.objects in
    let more : words (os ++ throwable ∷ []) ≡ words os + THROWABLE = words_append os throwable in
    let same : words (written (os ++ throwable ∷ []) (length os) 1 (bits_of (Ref object))) ≡ words (os ++ throwable ∷ []) = words_written (os ++ throwable ∷ []) (length os) 1 (bits_of (Ref object)) in
    let l : left + words os ≡ s.heap.size = k.rest in
    record {
      typed = length-append s.types (of_class (name_of_thrown ExceptionInInitializerError) ∷ []) ∙ (ap (λ (n : ℕ). n + 1) k.typed ∙ sym (length_written (os ++ throwable ∷ []) (length os) 1 (bits_of (Ref object)) ∙ length-append os (throwable ∷ [])));
      within = omega (arith, more, same, l, fits);
      rest = omega (arith, more, same, l, fits);
      is = get_last s.types (of_class (name_of_thrown ExceptionInInitializerError)) (length os) k.typed;
    }

bind_not_ok : {A B E : Type 0} (r : Result A E) (f : A → Result B E) → is_ok r ≡ false → is_ok (r >>= f) ≡ false
bind_not_ok (Ok a) f e = absurd cc
bind_not_ok (Err x) f e = refl

wrapped_fits : (object : ℕ) (s : Isolate) (left : ℕ) (type : Option ReferenceType) → Known (object, s) left type → nat_le THROWABLE left ≡ true → Wrapped (wrapped (object, s)) left
wrapped_fits object s left type k f =
    let fits : THROWABLE ≤ left = grind (arith, nat_tests, f) in
    let l : left + words s.heap.objects ≡ s.heap.size = k.rest in
    let test : nat_lt s.heap.size (words s.heap.objects + THROWABLE) ≡ false = grind (arith, nat_tests, fits, l) in
    record {
      made = with_cause object s;
      is = rw (made_fits (name_of_thrown ExceptionInInitializerError) s (placed_fits s.heap false test refl)) refl;
      known = cause_known object s left type k fits;
    }

wrapped_lacks : (object : ℕ) (s : Isolate) (left : ℕ) (type : Option ReferenceType) → Known (object, s) left type → nat_le THROWABLE left ≡ false → is_ok (wrapped (object, s)) ≡ false
wrapped_lacks object s left type k f =
    let lacks : left < THROWABLE = grind (arith, nat_tests, f) in
    let l : left + words s.heap.objects ≡ s.heap.size = k.rest in
    let test : nat_lt s.heap.size (words s.heap.objects + THROWABLE) ≡ true = grind (arith, nat_tests, lacks, l) in
    bind_not_ok (new_object (name_of_thrown ExceptionInInitializerError) 2 s) _ (made_lacks (name_of_thrown ExceptionInInitializerError) s (placed_lacks s.heap true test refl))

-- ---- the frames

-- the rest of the way, once a frame was left
abbrev Goes : Look → ℕ → List Frame → Result Passing Stop → Bool → Type 0
Goes look thread fs r b = is_ok (r >>= unwound look thread fs) ≡ b

abbrev Suffices : Look → ℕ → List Frame → Type 0
Suffices look thread fs = (x : Passing) (left : ℕ) (type : Option ReferenceType) → Known x left type → is_ok (unwound look thread fs x) ≡ unwinds look left fs type

failed_alike : (class : List ℕ) (s : Isolate) → Alike s (failed class s)
unfolding failed
failed_alike class s = record { objects = refl; size = refl; types = refl }

failed_known : (class : List ℕ) (x : Passing) (left : ℕ) (type : Option ReferenceType) → Known x left type → Known (x.0, failed class x.1) left type
failed_known class x left type k = known_alike x.0 x.1 (failed class x.1) left type (failed_alike class x.1) k

abbrev by_words : Look → ℕ → List Frame → Bool → Bool
by_words look left fs fits = if fits then unwinds look (left - THROWABLE) fs ERROR else false

wrapped_goes : (look : Look) (thread : ℕ) (fs : List Frame) (class : List ℕ) (object : ℕ) (s : Isolate) (left : ℕ) (type : Option ReferenceType) (fits : Bool)
    → Suffices look thread fs → Known (object, s) left type → nat_le THROWABLE left ≡ fits → Goes look thread fs (wrapped (object, s) >>= class_failed class) (by_words look left fs fits)
wrapped_goes look thread fs class object s left type true all k f =
    let w : Wrapped (wrapped (object, s)) left = wrapped_fits object s left type k f in
    rw w.is (all (w.made.0, failed class w.made.1) (left - THROWABLE) ERROR (failed_known class w.made (left - THROWABLE) ERROR w.known))
wrapped_goes look thread fs class object s left type false all k f =
    bind_not_ok (wrapped (object, s) >>= class_failed class) (unwound look thread fs) (bind_not_ok (wrapped (object, s)) (class_failed class) (wrapped_lacks object s left type k f))

type_is : (object : ℕ) (s : Isolate) (left : ℕ) (type : Option ReferenceType) → Known (object, s) left type → type_at s object ≡ type
unfolding type_at
type_is object s left type k = k.is

by_wrap : (look : Look) (thread : ℕ) (fs : List Frame) (class : List ℕ) (stage object : ℕ) (s : Isolate) (left : ℕ) (type : Option ReferenceType) (wrap : Bool)
    → Suffices look thread fs → Known (object, s) left type → (stage == LAST && not (is_error look type)) ≡ wrap
    → Goes look thread fs (through_frame look (initialising class) stage (object, s)) (if wrap then by_words look left fs (nat_le THROWABLE left) else unwinds look left fs type)
by_wrap look thread fs class stage object s left type true all k e =
    let t : type_at s object ≡ type = type_is object s left type k in
    rw (t, e) (wrapped_goes look thread fs class object s left type (nat_le THROWABLE left) all k refl)
by_wrap look thread fs class stage object s left type false all k e =
    let t : type_at s object ≡ type = type_is object s left type k in
    rw (t, e) (all (object, failed class s) left type (failed_known class (object, s) left type k))

through_goes : (look : Look) (thread : ℕ) (fs : List Frame) (runs : Runs) (pc object : ℕ) (s : Isolate) (left : ℕ) (type : Option ReferenceType)
    → Suffices look thread fs → Known (object, s) left type
    → Goes look thread fs (through_frame look runs pc (object, s)) (if wraps look runs pc type then by_words look left fs (nat_le THROWABLE left) else unwinds look left fs type)
through_goes look thread fs (method class name desc) pc object s left type all k = all (object, s) left type k
through_goes look thread fs starting pc object s left type all k = all (object, s) left type k
through_goes look thread fs (initialising class) pc object s left type all k =
    by_wrap look thread fs class pc object s left type (pc == LAST && not (is_error look type)) all k refl

left_goes : (look : Look) (thread : ℕ) (f : Frame) (fs : List Frame) (x : Passing) (left : ℕ) (type : Option ReferenceType)
    → Suffices look thread fs → Known x left type
    → Goes look thread fs (frame_left look thread f x) (if wraps look f.runs f.body.pc type then by_words look left fs (nat_le THROWABLE left) else unwinds look left fs type)
unfolding frame_left
left_goes look thread f fs x left type all k =
    through_goes look thread fs f.runs f.body.pc x.0 (released thread f.lock x.1) left type all (known_alike x.0 x.1 (released thread f.lock x.1) left type (released_alike thread f.lock x.1) k)

caught_goes : (handler : Option ℕ) (f : Frame) (fs : List Frame) (x : Passing) (others : Result Unwound Stop) (b : Bool) → is_ok others ≡ b → is_ok (caught_or handler f fs x others) ≡ caught_or_goes handler b
caught_goes (Some handler) f fs x others b e = refl
caught_goes None f fs x others b e = e

-- A throw through these frames succeeds exactly where the words that it needs are among those that are left.
pub suffices : (look : Look) (thread : ℕ) (fs : List Frame) → Suffices look thread fs
unfolding unwound unwinds
suffices look thread [] x left type k = refl
suffices look thread (f ∷ fs) x left type k =
    rw (type_is x.0 x.1 left type k)
    (caught_goes (handler_for look f.runs f.body.pc type) f fs x (frame_left look thread f x >>= unwound look thread fs) _
    (left_goes look thread f fs x left type (suffices look thread fs) k))

-- ---- what is known before a throw

-- each object of an isolate by names has a type
typed_named : (n : Numbered) → length (named n).types ≡ length (named n).heap.objects
unfolding named types_in heads_of
typed_named n =
    length-map (map head_of n.env.heap.state.objects) (type_of_head (classes_of n.mirrors) (shapes_of n.arrays))
    ∙ length-map n.env.heap.state.objects head_of
    ∙ sym (unclassed_length n.env.heap.state.objects)

known_named : (n : Numbered) (object left : ℕ) → left + words (named n).heap.objects ≡ (named n).heap.size → Known (object, named n) left (type_at (named n) object)
unfolding type_at
known_named n object left e = record { typed = typed_named n; within = omega (arith, e); rest = e; is = refl }

-- an object that is there is thrown
pub object_suffices : (n : Numbered) (thread : ℕ) (fs : List Frame) (object left : ℕ) → left + words (named n).heap.objects ≡ (named n).heap.size → is_ok (unwound (look_of n) thread fs (object, named n)) ≡ unwinds (look_of n) left fs (type_at (named n) object)
object_suffices n thread fs object left e = suffices (look_of n) thread fs (object, named n) left (type_at (named n) object) (known_named n object left e)

new_known : (name : List ℕ) (object : ℕ) (s : Isolate) (left : ℕ) (type : Option ReferenceType) → Known (object, s) left type → THROWABLE ≤ left → Known (length s.heap.objects, with_new name s) (left - THROWABLE) (Some (of_class name))
new_known name object s left type k fits =
    let os : List Object = s.heap.objects in
    let more : words (os ++ throwable ∷ []) ≡ words os + THROWABLE = words_append os throwable in
    let l : left + words os ≡ s.heap.size = k.rest in
    record {
      typed = length-append s.types (of_class name ∷ []) ∙ (ap (λ (n : ℕ). n + 1) k.typed ∙ sym (length-append os (throwable ∷ [])));
      within = omega (arith, more, l, fits);
      rest = omega (arith, more, l, fits);
      is = get_last s.types (of_class name) (length os) k.typed;
    }

new_fits : (look : Look) (name : List ℕ) (thread : ℕ) (fs : List Frame) (object : ℕ) (s : Isolate) (left : ℕ) (type : Option ReferenceType) → Known (object, s) left type → THROWABLE ≤ left → is_ok (new_object name 2 s >>= unwound look thread fs) ≡ unwinds look (left - THROWABLE) fs (Some (of_class name))
new_fits look name thread fs object s left type k fits =
    let l : left + words s.heap.objects ≡ s.heap.size = k.rest in
    let test : nat_lt s.heap.size (words s.heap.objects + THROWABLE) ≡ false = grind (arith, nat_tests, fits, l) in
    rw (made_fits name s (placed_fits s.heap false test refl)) (suffices look thread fs (length s.heap.objects, with_new name s) (left - THROWABLE) (Some (of_class name)) (new_known name object s left type k fits))

new_lacks : (look : Look) (name : List ℕ) (thread : ℕ) (fs : List Frame) (object : ℕ) (s : Isolate) (left : ℕ) (type : Option ReferenceType) → Known (object, s) left type → left < THROWABLE → is_ok (new_object name 2 s >>= unwound look thread fs) ≡ false
new_lacks look name thread fs object s left type k lacks =
    let l : left + words s.heap.objects ≡ s.heap.size = k.rest in
    let test : nat_lt s.heap.size (words s.heap.objects + THROWABLE) ≡ true = grind (arith, nat_tests, lacks, l) in
    bind_not_ok (new_object name 2 s) (unwound look thread fs) (made_lacks name s (placed_lacks s.heap true test refl))

-- a new throwable is thrown
pub new_suffices : (n : Numbered) (name : List ℕ) (thread : ℕ) (fs : List Frame) (left : ℕ) → left + words (named n).heap.objects ≡ (named n).heap.size → THROWABLE ≤ left → is_ok (new_object name 2 (named n) >>= unwound (look_of n) thread fs) ≡ unwinds (look_of n) (left - THROWABLE) fs (Some (of_class name))
new_suffices n name thread fs left e fits = new_fits (look_of n) name thread fs 0 (named n) left (type_at (named n) 0) (known_named n 0 left e) fits

pub new_misses : (n : Numbered) (name : List ℕ) (thread : ℕ) (fs : List Frame) (left : ℕ) → left + words (named n).heap.objects ≡ (named n).heap.size → left < THROWABLE → is_ok (new_object name 2 (named n) >>= unwound (look_of n) thread fs) ≡ false
new_misses n name thread fs left e lacks = new_lacks (look_of n) name thread fs 0 (named n) left (type_at (named n) 0) (known_named n 0 left e) lacks

-- ---- a throwable that was made

object_last : (os : List Object) (o : Object) → object_at (os ++ o ∷ []) (length os) ≡ o
object_last [] o = refl
object_last (x ∷ os) o = object_last os o

ok_never : {A E : Type 0} (r : Result A E) (x : A) → r ≡ Ok x → is_ok r ≡ false → ⊥
ok_never (Ok y) x e f = absurd cc
ok_never (Err y) x e f = absurd cc

made_by : (name : List ℕ) (s : Isolate) (x : ℕ × Isolate) (lacks : Bool) → nat_lt s.heap.size (words s.heap.objects + THROWABLE) ≡ lacks → new_object name 2 s ≡ Ok x → object_at x.1.heap.objects x.0 ≡ throwable
made_by name s x false e h =
    let same : Ok (length s.heap.objects, with_new name s) ≡ Ok x = sym (made_fits name s (placed_fits s.heap false e refl)) ∙ h in
    let is : (length s.heap.objects, with_new name s) ≡ x = cc in
    ap (λ (y : ℕ × Isolate). object_at y.1.heap.objects y.0) (sym is) ∙ object_last s.heap.objects throwable
made_by name s x true e h =
    absurd (ok_never (new_object name 2 s) x h (made_lacks name s (placed_lacks s.heap true e refl)))

-- it has two fields
pub is_throwable : (name : List ℕ) (s : Isolate) (x : ℕ × Isolate) → new_object name 2 s ≡ Ok x → object_at x.1.heap.objects x.0 ≡ throwable
is_throwable name s x h = made_by name s x (nat_lt s.heap.size (words s.heap.objects + THROWABLE)) refl h

pub two_fields : (name : List ℕ) (s : Isolate) (x : ℕ × Isolate) → new_object name 2 s ≡ Ok x → 1 < length (object_at x.1.heap.objects x.0).contents
two_fields name s x h = rw (is_throwable name s x h) (omega arith)

pub not_text : (name : List ℕ) (s : Isolate) (x : ℕ × Isolate) → new_object name 2 s ≡ Ok x → (object_at x.1.heap.objects x.0).sort ≢ sort.Text
not_text name s x h = rw (is_throwable name s x h) (λ e. absurd cc)
