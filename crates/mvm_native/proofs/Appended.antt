-- What a builder holds after it was given an array.
use Rattle.std.proofs.Common.{◌≡◌, ◌≢◌, ℕ, zero, suc, ◌+◌, ◌*◌, ◌%◌, ◌<◌, ◌≤◌, ◌^◌, List, [], ◌∷◌, ◌++◌, length, drop, set, get_or, Bool, true, false, cond, Option, Some, None, Result, Ok, Err, refl, sym, subst, ap, ◌∙◌, arith}
use Rattle.std.specs.Prelude.{ℤ, nat_le, max}
use Rattle.std.proofs.lemmas.Bool.{leb-true}
use Rattle.std.proofs.lemmas.List.{get_or-set_same, get_or-set_other, length-set, length-replicate, take-append-le, take_all}
use Rattle.mvm_base.specs.declared.value.Kind.TheVariants as kind
use Rattle.mvm_base.specs.declared.value.Word.{Word}
use Rattle.mvm_base.specs.declared.value.Word.TheVariants.{Int, Long, Ref, Null}
use Rattle.mvm_heap.specs.declared.kind.AllocFault.{AllocFault}
use Rattle.mvm_heap.specs.declared.kind.ItemKind.TheVariants.{Char}
use Rattle.mvm_heap.specs.declared.kind.ObjectKind.{ObjectKind}
use Rattle.mvm_heap.specs.declared.kind.ObjectKind.TheVariants as sort
use Rattle.mvm_heap.specs.Heap.{nothing, number_at, object_at, placed, put, written, zeros}
use Rattle.mvm_heap.specs.Objects.{Object, State}
use Rattle.mvm_heap.specs.Sorts.{bits_of, kept, word_of}
use Rattle.mvm_native.specs.Builders.{array_of, begun, begun_in, built, chars_in, count_of, holding, append, array_for, as_word, init_builder, new_array, rebuilt, HasArray, Holds, IsBuilder}
use Rattle.mvm_native.specs.Throwables.{HasTwo}
use Rattle.mvm_native.proofs.Builders.{begun_object, begun_count, begun_two}
use Rattle.mvm_native.specs.declared.out.Out.{Out}
use Rattle.mvm_native.specs.declared.out.Out.TheVariants.{Value, Throw}
use Rattle.mvm_native.specs.declared.out.Thrown.TheVariants.{OutOfMemoryError}
use Rattle.mvm_native.specs.Machine.{Machine}
use Rattle.mvm_native.proofs.Objects.{array_there, new_object, old_object, old_two, placed_is, two_there, two_written}

-- ---- two fields written

set_zero : (cs : List ℕ) (v w : ℕ) → 2 ≤ length cs → get_or (set (set cs 0 v) 1 w) 0 0 ≡ v
set_zero [] v w h = absurd (omega (arith, h))
set_zero (x ∷ []) v w h = absurd (omega (arith, h))
set_zero (x ∷ y ∷ zs) v w h = refl

set_one : (cs : List ℕ) (v w : ℕ) → 2 ≤ length cs → get_or (set (set cs 0 v) 1 w) 1 0 ≡ w
set_one [] v w h = absurd (omega (arith, h))
set_one (x ∷ []) v w h = absurd (omega (arith, h))
set_one (x ∷ y ∷ zs) v w h = refl

object_kept : (s : ObjectKind) (v : ℕ) → s ≡ sort.Object → kept s v ≡ v
unfolding kept
object_kept s v e = rw e refl

object_held : (os : List Object) (n v w : ℕ) → HasTwo os n → object_at (written (written os n 0 v) n 1 w) n ≡ record (object_at os n) { contents = set (set (object_at os n).contents 0 v) 1 w }
unfolding written
object_held os n v w t =
    let p : Object = put (object_at os n) 0 v in
    let e : object_at (set os n p) n ≡ p = get_or-set_same os n p nothing (two_there os n t) in
    let l : length (set os n p) ≡ length os = length-set os n p in
    get_or-set_same (set os n p) n (put (object_at (set os n p) n) 1 w) nothing (omega (arith, l, two_there os n t))
    ∙ ap (λ (o : Object). put o 1 w) e
    ∙ rw (object_kept (object_at os n).sort v t.sort, object_kept (object_at os n).sort w t.sort) refl

other_held : (os : List Object) (n v w m : ℕ) → m ≢ n → object_at (written (written os n 0 v) n 1 w) m ≡ object_at os m
unfolding written
other_held os n v w m h =
    let p : Object = put (object_at os n) 0 v in
    get_or-set_other (set os n p) n m (put (object_at (set os n p) n) 1 w) nothing h ∙ get_or-set_other os n m p nothing h

field_zero : (os : List Object) (n v w : ℕ) → HasTwo os n → number_at (written (written os n 0 v) n 1 w) n 0 ≡ v
field_zero os n v w t = ap (λ (o : Object). get_or o.contents 0 0) (object_held os n v w t) ∙ set_zero (object_at os n).contents v w t.fields

field_one : (os : List Object) (n v w : ℕ) → HasTwo os n → number_at (written (written os n 0 v) n 1 w) n 1 ≡ w
field_one os n v w t = ap (λ (o : Object). get_or o.contents 1 0) (object_held os n v w t) ∙ set_one (object_at os n).contents v w t.fields

-- ---- a builder with an array

reference_back : (a : ℕ) → a < 2 ^ 32 → word_of kind.Ref (a + 1) ≡ Ref a
unfolding word_of
reference_back a h =
    let e : a + 1 ≡ suc a = omega arith in
    let k : a % 4294967296 ≡ a = omega (arith, h) in
    rw e (ap (λ (n : ℕ). Ref n) k)

sorts_apart : (s t : ObjectKind) → s ≡ sort.Array Char → t ≡ sort.Object → s ≡ t → ⊥
sorts_apart s t a o e = absurd cc

apart : (os : List Object) (n a : ℕ) → HasTwo os n → (object_at os a).sort ≡ sort.Array Char → a ≢ n
apart os n a t s e = sorts_apart _ _ s t.sort (ap (λ (k : ℕ). (object_at os k).sort) e)

pub held_array : (os : List Object) (n a : ℕ) (us : List ℕ) → HasTwo os n → (object_at os a).sort ≡ sort.Array Char → length us ≤ length (object_at os a).contents → a < 2 ^ 32
    → Holds (holding n (Ref a) (length us) (begun os a us)) n us
held_array os n a us t s l f =
    let b : List Object = begun os a us in
    let h : List Object = holding n (Ref a) (length us) b in
    let cs : List ℕ = (object_at os a).contents in
    let two : HasTwo b n = begun_two os a us n l t in
    let is_array : array_of h n ≡ Ref a = ap (λ (k : ℕ). word_of kind.Ref k) (field_zero b n (a + 1) (length us) two) ∙ reference_back a f in
    let is_count : count_of h n ≡ length us = field_one b n (a + 1) (length us) two in
    let at : object_at h a ≡ record (object_at os a) { contents = us ++ drop (length us) cs } =
    other_held b n (a + 1) (length us) a (apart os n a t s) ∙ begun_object os a us (array_there os a s) in
    let chars : chars_in h (array_of h n) ≡ us ++ drop (length us) cs = ap (chars_in h) is_array ∙ ap (λ (o : Object). o.contents) at in
    let still : (object_at h a).sort ≡ sort.Array Char = ap (λ (o : Object). o.sort) at ∙ s in
    let room : length us ≤ length (object_at h a).contents = omega (arith, l, ap (λ (o : Object). length o.contents) at, begun_count cs us l) in
    record {
      builder = record {
        object = two_written (written b n 0 (a + 1)) n 1 (length us) n (two_written b n 0 (a + 1) n two);
        array = rw (is_array, is_count) (array_there h a still, still, room);
      };
      units = rw (is_count, chars) (take-append-le (length us) us (drop (length us) cs) (omega arith) ∙ take_all (length us) us (omega arith));
    }

-- ---- a builder without one

no_int : (x : ℕ) (k : ℤ) → word_of kind.Ref x ≡ Int k → ⊥
unfolding word_of
no_int zero k e = absurd cc
no_int (suc x) k e = absurd cc

no_long : (x : ℕ) (k : ℤ) → word_of kind.Ref x ≡ Long k → ⊥
unfolding word_of
no_long zero k e = absurd cc
no_long (suc x) k e = absurd cc

null_back : word_of kind.Ref 0 ≡ Null
unfolding word_of
null_back = refl

none : (us : List ℕ) → length us ≤ 0 → us ≡ []
none [] h = refl
none (u ∷ us) h = absurd (omega (arith, h))

held_null : (os : List Object) (n : ℕ) (us : List ℕ) → HasTwo os n → us ≡ [] → Holds (holding n Null (length us) os) n us
held_null os n us t e =
    let h : List Object = holding n Null (length us) os in
    let is_array : array_of h n ≡ Null = ap (λ (k : ℕ). word_of kind.Ref k) (field_zero os n 0 (length us) t) ∙ null_back in
    let is_count : count_of h n ≡ 0 = field_one os n 0 (length us) t ∙ ap (λ (xs : List ℕ). length xs) e in
    record {
      builder = record {
        object = two_written (written os n 0 0) n 1 (length us) n (two_written os n 0 0 n t);
        array = rw is_array is_count;
      };
      units = rw (is_array, is_count) (sym e);
    }

-- ---- the methods

-- the array that the builder has is kept
kept_array : (os : List Object) (n count : ℕ) (us : List ℕ) (w : Word) → HasTwo os n → HasArray os w count → array_of os n ≡ w → length us ≤ length (chars_in os w) → length os < 2 ^ 32
    → Holds (holding n w (length us) (begun_in os w us)) n us
kept_array os n count us (Ref a) t h e l f = held_array os n a us t h.1 l (omega (arith, h.0, f))
kept_array os n count us (Int k) t h e l f = absurd (no_int (number_at os n 0) k e)
kept_array os n count us (Long k) t h e l f = absurd (no_long (number_at os n 0) k e)
kept_array os n count us Null t h e l f = held_null os n us t (none us l)

no_value : (m new : Machine) (value : Option Word) → ◌≡◌ {A = Out × Machine} (Throw OutOfMemoryError, m) (Value value, new) → ⊥
no_value m new value e = let o : Throw OutOfMemoryError ≡ Value value = ap (λ (p : Out × Machine). p.0) e in absurd cc

left : (out other : Out) (m new : Machine) → ◌≡◌ {A = Out × Machine} (out, m) (other, new) → new.heap.objects ≡ m.heap.objects
left out other m new e = sym (ap (λ (p : Out × Machine). p.1.heap.objects) e)

-- it has a new one
new_held : (n size : ℕ) (us : List ℕ) (v value : Option Word) (m new : Machine) (r : Result (ℕ × State) AllocFault) → HasTwo m.heap.objects n → length us ≤ size → length m.heap.objects < 2 ^ 32
    → placed (zeros (sort.Array Char) 0 size) m.heap ≡ r → rebuilt n us v (as_word r) m ≡ (Value value, new) → Holds new.heap.objects n us
new_held n size us v value m new (Err fault) t l f p e = absurd (no_value m new value e)
new_held n size us v value m new (Ok x) t l f p e =
    let z : Object = zeros (sort.Array Char) 0 size in
    let at : object_at x.1.objects x.0 ≡ z = new_object z m.heap x.0 x.1 p in
    let place : x.0 ≡ length m.heap.objects = (placed_is z m.heap x.0 x.1 p).0 in
    let room : length us ≤ length (object_at x.1.objects x.0).contents = omega (arith, l, ap (λ (o : Object). length o.contents) at, length-replicate {A = ℕ} size 0) in
    subst (λ (os : List Object). Holds os n us) (sym (left (Value v) (Value value) _ new e))
    (held_array x.1.objects n x.0 us (old_two z m.heap x.0 x.1 n p t) (ap (λ (o : Object). o.sort) at) room (omega (arith, place, f)))

pub appended_holds : (n : ℕ) (units : List ℕ) (m new : Machine) (value : Option Word) → IsBuilder m.heap.objects n → length m.heap.objects < 2 ^ 32 → append n units m ≡ (Value value, new)
    → Holds new.heap.objects n (built m.heap.objects n ++ units)
unfolding append array_for
appended_holds n units m new value b f =
    let os : List Object = m.heap.objects in
    let whole : List ℕ = built os n ++ units in
    let room : ℕ = length (chars_in os (array_of os n)) in
    let P : Bool → Type 0 = λ t. nat_le (length whole) room ≡ t → rebuilt n whole (Some (Ref n)) (cond {A = Result (Word × State) AllocFault} t (Ok (array_of os n, m.heap)) (new_array (max (2 * room + 2) (length whole)) m.heap)) m ≡ (Value value, new)
    → Holds new.heap.objects n whole in
    elim (nat_le (length whole) room) as P [
      | true ↦ λ t e. subst (λ (xs : List Object). Holds xs n whole) (sym (left (Value (Some (Ref n))) (Value value) _ new e))
          (kept_array os n (count_of os n) whole (array_of os n) b.object b.array refl (leb-true _ _ t) f)
      | false ↦ λ t e. new_held n (max (2 * room + 2) (length whole)) whole (Some (Ref n)) value m new _ b.object (omega arith) f refl e
    ] refl

pub new_holds : (n : ℕ) (m new : Machine) (value : Option Word) → HasTwo m.heap.objects n → length m.heap.objects < 2 ^ 32 → init_builder n m ≡ (Value value, new) → Holds new.heap.objects n []
unfolding init_builder
new_holds n m new value t f e = new_held n 16 [] None value m new _ t (omega arith) f refl e

-- ---- the other objects

begun_other : (os : List Object) (w : Word) (us : List ℕ) (k : ℕ) → w ≢ Ref k → object_at (begun_in os w us) k ≡ object_at os k
unfolding begun
begun_other os (Ref a) us k h = get_or-set_other os a k (record (object_at os a) { contents = us ++ drop (length us) (object_at os a).contents }) nothing (λ e. h (ap (λ (j : ℕ). Ref j) (sym e)))
begun_other os (Int j) us k h = refl
begun_other os (Long j) us k h = refl
begun_other os Null us k h = refl

same_number : (a k : ℕ) → Ref a ≡ Ref k → a ≡ k
same_number a k e = cc

new_other : (n size k : ℕ) (us : List ℕ) (v value : Option Word) (m new : Machine) (r : Result (ℕ × State) AllocFault) → k < length m.heap.objects → k ≢ n
    → placed (zeros (sort.Array Char) 0 size) m.heap ≡ r → rebuilt n us v (as_word r) m ≡ (Value value, new) → object_at new.heap.objects k ≡ object_at m.heap.objects k
new_other n size k us v value m new (Err fault) l h p e = absurd (no_value m new value e)
new_other n size k us v value m new (Ok x) l h p e =
    let z : Object = zeros (sort.Array Char) 0 size in
    let place : x.0 ≡ length m.heap.objects = (placed_is z m.heap x.0 x.1 p).0 in
    ap (λ (os : List Object). object_at os k) (left (Value v) (Value value) _ new e)
    ∙ other_held (begun x.1.objects x.0 us) n (x.0 + 1) (length us) k h
    ∙ begun_other x.1.objects (Ref x.0) us k (λ q. omega (arith, l, place, same_number x.0 k q))
    ∙ old_object z m.heap x.0 x.1 k p l

pub appended_others : (n k : ℕ) (units : List ℕ) (m new : Machine) (value : Option Word) → k < length m.heap.objects → k ≢ n → array_of m.heap.objects n ≢ Ref k → append n units m ≡ (Value value, new)
    → object_at new.heap.objects k ≡ object_at m.heap.objects k
unfolding append array_for
appended_others n k units m new value l h a =
    let os : List Object = m.heap.objects in
    let whole : List ℕ = built os n ++ units in
    let room : ℕ = length (chars_in os (array_of os n)) in
    let P : Bool → Type 0 = λ t. rebuilt n whole (Some (Ref n)) (cond {A = Result (Word × State) AllocFault} t (Ok (array_of os n, m.heap)) (new_array (max (2 * room + 2) (length whole)) m.heap)) m ≡ (Value value, new)
    → object_at new.heap.objects k ≡ object_at os k in
    elim (nat_le (length whole) room) as P [
      | true ↦ λ e. ap (λ (xs : List Object). object_at xs k) (left (Value (Some (Ref n))) (Value value) _ new e)
          ∙ other_held (begun_in os (array_of os n) whole) n (bits_of (array_of os n)) (length whole) k h ∙ begun_other os (array_of os n) whole k a
      | false ↦ λ e. new_other n (max (2 * room + 2) (length whole)) k whole (Some (Ref n)) value m new _ l h refl e
    ]
