-- What looks at no class number, and what a heap's writes and allocations do to objects without them.
use Rattle.std.proofs.Common.{◌≡◌, ℕ, zero, suc, ◌+◌, List, [], ◌∷◌, ◌++◌, length, set, get_or, drop, Bool, true, false, cond, Result, Ok, Err, refl, sym, ap, ◌∙◌}
use Rattle.std.specs.Prelude.{nat_lt}
use Rattle.std.proofs.lemmas.List.{length-map, map-append, map-set}
use Rattle.mvm_base.specs.declared.value.Word.{Word}
use Rattle.mvm_base.specs.declared.value.Word.TheVariants.{Ref}
use Rattle.mvm_heap.specs.Heap.{free, number_at, object_at, placed, put, words, words_of, written}
use Rattle.mvm_heap.specs.Objects.{Object, State}
use Rattle.mvm_heap.specs.declared.kind.AllocFault.{AllocFault}
use Rattle.mvm_heap.specs.declared.kind.AllocFault.TheVariants.{Full}
use Rattle.mvm_native.specs.Builders.{begun, begun_in, chars_in}
use Rattle.mvm_native.specs.Texts.{units_at}
use Rattle.mvm_native.specs.Unclassed.{unclassed_objects, unclassed_state, without_class}

-- ---- looking

pub unclassed_length : (os : List Object) → length (unclassed_objects os) ≡ length os
unfolding unclassed_objects
unclassed_length os = length-map os without_class

pub unclassed_at : (os : List Object) (n : ℕ) → object_at (unclassed_objects os) n ≡ without_class (object_at os n)
unfolding unclassed_objects
unclassed_at [] n = refl
unclassed_at (o ∷ os) zero = refl
unclassed_at (o ∷ os) (suc n) = unclassed_at os n

pub unclassed_sort : (os : List Object) (n : ℕ) → (object_at (unclassed_objects os) n).sort ≡ (object_at os n).sort
unclassed_sort os n = ap (λ (o : Object). o.sort) (unclassed_at os n)

pub unclassed_contents : (os : List Object) (n : ℕ) → (object_at (unclassed_objects os) n).contents ≡ (object_at os n).contents
unclassed_contents os n = ap (λ (o : Object). o.contents) (unclassed_at os n)

pub unclassed_units : (os : List Object) (n : ℕ) → units_at (unclassed_objects os) n ≡ units_at os n
unclassed_units os n = unclassed_contents os n

pub unclassed_number : (os : List Object) (n place : ℕ) → number_at (unclassed_objects os) n place ≡ number_at os n place
unclassed_number os n place = ap (λ (o : Object). get_or o.contents place 0) (unclassed_at os n)

pub unclassed_words : (os : List Object) → words (unclassed_objects os) ≡ words os
unfolding words unclassed_objects
unclassed_words [] = refl
unclassed_words (o ∷ os) = ap (λ (n : ℕ). words_of o + n) (unclassed_words os)

pub unclassed_chars : (os : List Object) (w : Word) → chars_in (unclassed_objects os) w ≡ chars_in os w
unclassed_chars os (Ref a) = unclassed_contents os a
unclassed_chars os _ = refl

-- ---- writing

pub unclassed_set : (os : List Object) (n : ℕ) (o : Object) → set (unclassed_objects os) n (without_class o) ≡ unclassed_objects (set os n o)
unfolding unclassed_objects
unclassed_set os n o = sym (map-set without_class os n o)

pub unclassed_written : (os : List Object) (n place v : ℕ) → written (unclassed_objects os) n place v ≡ unclassed_objects (written os n place v)
unfolding written
unclassed_written os n place v = ap (λ (o : Object). set (unclassed_objects os) n (put o place v)) (unclassed_at os n) ∙ unclassed_set os n (put (object_at os n) place v)

pub unclassed_begun : (os : List Object) (a : ℕ) (us : List ℕ) → begun (unclassed_objects os) a us ≡ unclassed_objects (begun os a us)
unfolding begun
unclassed_begun os a us =
    ap (λ (o : Object). set (unclassed_objects os) a (record o { contents = us ++ drop (length us) o.contents })) (unclassed_at os a)
    ∙ unclassed_set os a (record (object_at os a) { contents = us ++ drop (length us) (object_at os a).contents })

pub unclassed_begun_in : (os : List Object) (w : Word) (us : List ℕ) → begun_in (unclassed_objects os) w us ≡ unclassed_objects (begun_in os w us)
unclassed_begun_in os (Ref a) us = unclassed_begun os a us
unclassed_begun_in os _ us = refl

pub unclassed_two : (os : List Object) (n a b v w : ℕ) → written (written (unclassed_objects os) n a v) n b w ≡ unclassed_objects (written (written os n a v) n b w)
unclassed_two os n a b v w = ap (λ (xs : List Object). written xs n b w) (unclassed_written os n a v) ∙ unclassed_written (written os n a v) n b w

-- ---- allocating

-- what an allocation answers, the objects without class numbers
abbrev pub unclassed_result : {A : Type 0} → Result (A × State) AllocFault → Result (A × State) AllocFault
unclassed_result (Ok x) = Ok (x.0, unclassed_state x.1)
unclassed_result (Err fault) = Err fault

unclassed_push : (o : Object) (os : List Object) → unclassed_objects os ++ without_class o ∷ [] ≡ unclassed_objects (os ++ o ∷ [])
unfolding unclassed_objects
unclassed_push o os = sym (map-append without_class os (o ∷ []))

pub unclassed_placed : (o : Object) (s : State) → placed (without_class o) (unclassed_state s) ≡ unclassed_result (placed o s)
unfolding placed
unclassed_placed o s =
    let next : State = record s { objects = s.objects ++ o ∷ []; monitors = s.monitors ++ free ∷ [] } in
    let P : Bool → Type 0 = λ b. cond {A = Result (ℕ × State) AllocFault} b (Err Full) (Ok (length s.objects, unclassed_state next))
    ≡ unclassed_result (cond {A = Result (ℕ × State) AllocFault} b (Err Full) (Ok (length s.objects, next))) in
    rw (unclassed_words s.objects, unclassed_length s.objects, unclassed_push o s.objects)
    (elim (nat_lt s.size (words s.objects + words_of o)) as P [ true ↦ refl | false ↦ refl ])
