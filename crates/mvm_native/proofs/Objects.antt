-- What a write leaves of the other objects, and of the shape of all.
use Rattle.std.proofs.Common.{◌≡◌, ◌≢◌, ℕ, zero, suc, ◌+◌, ◌<◌, List, [], ◌∷◌, ◌++◌, length, set, Bool, true, false, cond, Result, Ok, Err, refl, sym, ap, ◌∙◌, arith}
use Rattle.std.specs.Prelude.{nat_lt}
use Rattle.std.proofs.lemmas.List.{length-set, get_or_at, get_or_append_left}
use Rattle.mvm_heap.specs.declared.kind.AllocFault.{AllocFault}
use Rattle.mvm_heap.specs.declared.kind.AllocFault.TheVariants.{Full}
use Rattle.mvm_heap.specs.declared.kind.ItemKind.TheVariants.{Char}
use Rattle.mvm_heap.specs.declared.kind.ObjectKind.{ObjectKind}
use Rattle.mvm_heap.specs.declared.kind.ObjectKind.TheVariants as sort
use Rattle.mvm_heap.specs.Heap.{free, nothing, object_at, placed, put, words, words_of, written}
use Rattle.mvm_heap.specs.Objects.{Object, State}
use Rattle.mvm_heap.specs.Sorts.{kept}
use Rattle.mvm_native.specs.Throwables.{HasTwo}

-- ---- where an object is

pub has_place : (os : List Object) (n place : ℕ) → place < length (object_at os n).contents → n < length os
has_place [] n place h = absurd (omega (arith, h))
has_place (o ∷ os) zero place h = omega arith
has_place (o ∷ os) (suc n) place h = omega (arith, has_place os n place h)

pub two_there : (os : List Object) (n : ℕ) → HasTwo os n → n < length os
two_there os n h = has_place os n 1 h.fields

pub array_there : (os : List Object) (a : ℕ) → (object_at os a).sort ≡ sort.Array Char → a < length os
array_there [] a e = absurd cc
array_there (o ∷ os) zero e = omega arith
array_there (o ∷ os) (suc a) e = omega (arith, array_there os a e)

pub array_no_text : (s : ObjectKind) → s ≡ sort.Array Char → s ≢ sort.Text
array_no_text s e t = absurd cc

pub object_no_text : (s : ObjectKind) → s ≡ sort.Object → s ≢ sort.Text
object_no_text s e t = absurd cc

-- ---- one object changed

pub shape : (os : List Object) (n m : ℕ) (o : Object) → length o.contents ≡ length (object_at os n).contents → length (object_at (set os n o) m).contents ≡ length (object_at os m).contents
shape [] n m o e = refl
shape (x ∷ xs) zero zero o e = e
shape (x ∷ xs) zero (suc m) o e = refl
shape (x ∷ xs) (suc n) zero o e = refl
shape (x ∷ xs) (suc n) (suc m) o e = shape xs n m o e

pub sorts : (os : List Object) (n m : ℕ) (o : Object) → o.sort ≡ (object_at os n).sort → (object_at (set os n o) m).sort ≡ (object_at os m).sort
sorts [] n m o e = refl
sorts (x ∷ xs) zero zero o e = e
sorts (x ∷ xs) zero (suc m) o e = refl
sorts (x ∷ xs) (suc n) zero o e = refl
sorts (x ∷ xs) (suc n) (suc m) o e = sorts xs n m o e

pub length_written : (os : List Object) (n place v m : ℕ) → length (object_at (written os n place v) m).contents ≡ length (object_at os m).contents
unfolding written
length_written os n place v m = shape os n m (put (object_at os n) place v) (length-set (object_at os n).contents place (kept (object_at os n).sort v))

pub sort_written : (os : List Object) (n place v m : ℕ) → (object_at (written os n place v) m).sort ≡ (object_at os m).sort
unfolding written
sort_written os n place v m = sorts os n m (put (object_at os n) place v) refl

pub two_written : (os : List Object) (n place v m : ℕ) → HasTwo os m → HasTwo (written os n place v) m
two_written os n place v m h = record {
  sort = sort_written os n place v m ∙ h.sort;
  fields = omega (arith, h.fields, length_written os n place v m);
}

-- ---- what was allocated

abbrev value_or : ℕ × State → Result (ℕ × State) AllocFault → ℕ × State
value_or d (Ok x) = x
value_or d (Err fault) = d

no_value : (r : Result (ℕ × State) AllocFault) (f : AllocFault) (x : ℕ × State) → r ≡ Err f → r ≡ Ok x → ⊥
no_value r f x a b = absurd cc

-- a new object is the last, and its number the count of those before
pub placed_is : (o : Object) (s : State) (n : ℕ) (t : State) → placed o s ≡ Ok (n, t) → (n ≡ length s.objects) × (t.objects ≡ s.objects ++ o ∷ [])
unfolding placed
placed_is o s n t =
    let next : State = record s { objects = s.objects ++ o ∷ []; monitors = s.monitors ++ free ∷ [] } in
    let P : Bool → Type 0 = λ b. cond {A = Result (ℕ × State) AllocFault} b (Err Full) (Ok (length s.objects, next)) ≡ Ok (n, t) → (n ≡ length s.objects) × (t.objects ≡ s.objects ++ o ∷ []) in
    elim (nat_lt s.size (words s.objects + words_of o)) as P [
      | true ↦ λ e. absurd (no_value (Err Full) Full (n, t) refl e)
      | false ↦ λ e.
          let x : (length s.objects, next) ≡ (n, t) = ap (value_or (n, t)) e in
          (sym (ap (λ (y : ℕ × State). y.0) x), sym (ap (λ (y : ℕ × State). y.1.objects) x))
    ]

pub new_object : (o : Object) (s : State) (n : ℕ) (t : State) → placed o s ≡ Ok (n, t) → object_at t.objects n ≡ o
new_object o s n t e = let p = placed_is o s n t e in rw (p.1, p.0) (get_or_at s.objects o [] nothing (length s.objects) refl)

pub old_object : (o : Object) (s : State) (n : ℕ) (t : State) (m : ℕ) → placed o s ≡ Ok (n, t) → m < length s.objects → object_at t.objects m ≡ object_at s.objects m
old_object o s n t m e h = let p = placed_is o s n t e in rw p.1 (get_or_append_left s.objects (o ∷ []) nothing m h)

pub old_two : (o : Object) (s : State) (n : ℕ) (t : State) (m : ℕ) → placed o s ≡ Ok (n, t) → HasTwo s.objects m → HasTwo t.objects m
old_two o s n t m e h =
    let same = old_object o s n t m e (two_there s.objects m h) in
    record { sort = ap (λ (x : Object). x.sort) same ∙ h.sort; fields = omega (arith, h.fields, ap (λ (x : Object). length x.contents) same) }
