-- An array of chars that begins with units, and the hidden fields of a builder.
use Rattle.std.proofs.Common.{◌≡◌, ℕ, ◌+◌, ◌*◌, ◌<◌, ◌≤◌, List, [], ◌∷◌, ◌++◌, length, take, drop, set, get_or, Some, true, false, Ok, refl, sym, ap, ◌∙◌, arith}
use Rattle.std.proofs.lemmas.List.{get_or-set_same, set-set, set-get_or, set_at, drop_more, take_more, append_assoc, length-take-le, length-append, length-drop, take-append-drop, append-nil}
use Rattle.std.proofs.lemmas.Bool.{le-leb, lt-leb}
use Rattle.std.specs.Prelude.{nat_le, max}
use Rattle.mvm_heap.specs.declared.kind.ItemKind.TheVariants.{Char}
use Rattle.mvm_heap.specs.declared.kind.ObjectKind.{ObjectKind}
use Rattle.mvm_heap.specs.declared.kind.ObjectKind.TheVariants.{Array}
use Rattle.mvm_heap.specs.Heap.{nothing, object_at, put, written}
use Rattle.mvm_heap.specs.Objects.{Object}
use Rattle.mvm_heap.specs.Sorts.{kept, kept_item}
use Rattle.mvm_base.specs.declared.value.Word.{Word}
use Rattle.mvm_base.specs.declared.value.Word.TheVariants.{Int, Long, Ref, Null}
use Rattle.mvm_native.specs.Builders.{append, array_for, array_of, begun, begun_in, built, chars_in, count_of, new_array, rebuilt, HasArray, IsBuilder}
use Rattle.mvm_native.specs.Machine.{Machine}
use Rattle.mvm_native.specs.Throwables.{HasTwo}
use Rattle.mvm_native.proofs.Objects.{shape, sorts}

-- ---- the loop that fills

pub begun_object : (os : List Object) (a : ℕ) (us : List ℕ) → a < length os → object_at (begun os a us) a ≡ record (object_at os a) { contents = us ++ drop (length us) (object_at os a).contents }
unfolding begun
begun_object os a us h = get_or-set_same os a _ nothing h

same_contents : (cs : List ℕ) (from : ℕ) → from ≤ length cs → take from cs ++ drop (length (take from cs)) cs ≡ cs
same_contents cs from h = rw (length-take-le from cs h) (take-append-drop from cs)

-- what stood there is written again
pub begun_same : (os : List Object) (a from : ℕ) → from ≤ length (object_at os a).contents → begun os a (take from (object_at os a).contents) ≡ os
unfolding begun
begun_same os a from h = rw (same_contents (object_at os a).contents from h) (set-get_or os a nothing)

char_kept : (s : ObjectKind) (u : ℕ) → s ≡ Array Char → u < 65536 → kept s u ≡ u
unfolding kept kept_item
char_kept s u e h = rw e (omega (arith, h))

next_contents : (cs us : List ℕ) (u : ℕ) → length us < length cs → set (us ++ drop (length us) cs) (length us) u ≡ (us ++ u ∷ []) ++ drop (length (us ++ u ∷ [])) cs
next_contents cs us u h =
    let m : length (us ++ u ∷ []) ≡ length us + 1 = length-append us (u ∷ []) in
    rw (m, drop_more cs (length us) 0 h, set_at us (get_or cs (length us) 0) (drop (length us + 1) cs) u (length us) refl)
    (sym (append_assoc us (u ∷ []) (drop (length us + 1) cs)))

-- one unit more
pub begun_next : (os : List Object) (a : ℕ) (us : List ℕ) (place u : ℕ) → a < length os → (object_at os a).sort ≡ Array Char → place ≡ length us → place < length (object_at os a).contents → u < 65536
    → written (begun os a us) a place u ≡ begun os a (us ++ u ∷ [])
unfolding written begun
begun_next os a us place u h s e p f =
    let o : Object = record (object_at os a) { contents = us ++ drop (length us) (object_at os a).contents } in
    rw (e, get_or-set_same os a o nothing h, set-set os a o (put o (length us) u))
    (ap (λ (xs : List ℕ). set os a (record (object_at os a) { contents = xs })) (ap (λ (v : ℕ). set o.contents (length us) v) (char_kept (object_at os a).sort u s f) ∙ next_contents (object_at os a).contents us u (omega (arith, e, p))))

pub begun_count : (cs us : List ℕ) → length us ≤ length cs → length (us ++ drop (length us) cs) ≡ length cs
begun_count cs us h = length-append us (drop (length us) cs) ∙ ap (λ (k : ℕ). length us + k) (length-drop (length us) cs) ∙ omega (arith, h)

pub begun_shape : (os : List Object) (a : ℕ) (us : List ℕ) (m : ℕ) → length us ≤ length (object_at os a).contents → length (object_at (begun os a us) m).contents ≡ length (object_at os m).contents
unfolding begun
begun_shape os a us m h = shape os a m (record (object_at os a) { contents = us ++ drop (length us) (object_at os a).contents }) (begun_count (object_at os a).contents us h)

pub begun_sorts : (os : List Object) (a : ℕ) (us : List ℕ) (m : ℕ) → (object_at (begun os a us) m).sort ≡ (object_at os m).sort
unfolding begun
begun_sorts os a us m = sorts os a m (record (object_at os a) { contents = us ++ drop (length us) (object_at os a).contents }) refl

pub begun_two : (os : List Object) (a : ℕ) (us : List ℕ) (m : ℕ) → length us ≤ length (object_at os a).contents → HasTwo os m → HasTwo (begun os a us) m
begun_two os a us m h t = record {
  sort = begun_sorts os a us m ∙ t.sort;
  fields = omega (arith, t.fields, begun_shape os a us m h);
}

-- ---- the units of an array up to a place, and more behind them

pub part_length : (cs us : List ℕ) (from i : ℕ) → from ≤ length cs → i ≤ length us → length (take from cs ++ take i us) ≡ from + i
part_length cs us from i h k = length-append (take from cs) (take i us) ∙ ap (λ (n : ℕ). n + length (take i us)) (length-take-le from cs h) ∙ ap (λ (n : ℕ). from + n) (length-take-le i us k)

pub filling_begins : (os : List Object) (a from : ℕ) → from ≤ length (object_at os a).contents → begun os a (take from (object_at os a).contents ++ []) ≡ os
filling_begins os a from h = rw (append-nil (take from (object_at os a).contents)) (begun_same os a from h)

pub filling_length : (os : List Object) (a : ℕ) (us : List ℕ) (from i : ℕ) → from + length us ≤ length (object_at os a).contents → i ≤ length us
    → length (object_at (begun os a (take from (object_at os a).contents ++ take i us)) a).contents ≡ length (object_at os a).contents
filling_length os a us from i h k =
    begun_shape os a (take from (object_at os a).contents ++ take i us) a (omega (arith, h, k, part_length (object_at os a).contents us from i (omega (arith, h)) k))

pub filling_next : (os : List Object) (a : ℕ) (us : List ℕ) (from i : ℕ) → a < length os → (object_at os a).sort ≡ Array Char → from + length us ≤ length (object_at os a).contents → i < length us → get_or us i 0 < 65536
    → written (begun os a (take from (object_at os a).contents ++ take i us)) a (from + i) (get_or us i 0) ≡ begun os a (take from (object_at os a).contents ++ take (i + 1) us)
filling_next os a us from i h s e p f =
    let cs : List ℕ = (object_at os a).contents in
    let n : length (take from cs ++ take i us) ≡ from + i = part_length cs us from i (omega (arith, e)) (omega (arith, p)) in
    begun_next os a (take from cs ++ take i us) (from + i) (get_or us i 0) h s (sym n) (omega (arith, e, p)) f
    ∙ ap (λ (xs : List ℕ). begun os a xs) (append_assoc (take from cs) (take i us) (get_or us i 0 ∷ []) ∙ ap (λ (xs : List ℕ). take from cs ++ xs) (sym (take_more us i 0 p)))

-- ---- what a builder holds

pub held_count : (os : List Object) (w : Word) (count : ℕ) → HasArray os w count → count ≤ length (chars_in os w)
held_count os (Ref a) count h = h.2
held_count os (Int n) count h = omega (arith, h)
held_count os (Long n) count h = omega (arith, h)
held_count os Null count h = omega (arith, h)

pub begun_in_two : (os : List Object) (w : Word) (us : List ℕ) (m : ℕ) → length us ≤ length (chars_in os w) → HasTwo os m → HasTwo (begun_in os w us) m
begun_in_two os (Ref a) us m h t = begun_two os a us m h t
begun_in_two os (Int n) us m h t = t
begun_in_two os (Long n) us m h t = t
begun_in_two os Null us m h t = t

pub built_length : (os : List Object) (n : ℕ) → IsBuilder os n → length (built os n) ≡ count_of os n
built_length os n b = length-take-le (count_of os n) (chars_in os (array_of os n)) (held_count os (array_of os n) (count_of os n) b.array)

pub whole_length : (os : List Object) (n : ℕ) (us : List ℕ) → IsBuilder os n → length (built os n ++ us) ≡ count_of os n + length us
whole_length os n us b = length-append (built os n) us ∙ ap (λ (k : ℕ). k + length us) (built_length os n b)

pub append_fits : (n : ℕ) (us : List ℕ) (m : Machine) → IsBuilder m.heap.objects n → count_of m.heap.objects n + length us ≤ length (chars_in m.heap.objects (array_of m.heap.objects n))
    → append n us m ≡ rebuilt n (built m.heap.objects n ++ us) (Some (Ref n)) (Ok (array_of m.heap.objects n, m.heap)) m
unfolding append array_for
append_fits n us m b h =
    let t : nat_le (length (built m.heap.objects n ++ us)) (length (chars_in m.heap.objects (array_of m.heap.objects n))) ≡ true = le-leb _ _ (omega (arith, h, whole_length m.heap.objects n us b)) in
    rw t refl

pub append_grows : (n : ℕ) (us : List ℕ) (m : Machine) → IsBuilder m.heap.objects n → length (chars_in m.heap.objects (array_of m.heap.objects n)) < count_of m.heap.objects n + length us
    → append n us m ≡ rebuilt n (built m.heap.objects n ++ us) (Some (Ref n)) (new_array (max (2 * length (chars_in m.heap.objects (array_of m.heap.objects n)) + 2) (length (built m.heap.objects n ++ us))) m.heap) m
unfolding append array_for
append_grows n us m b h =
    let t : nat_le (length (built m.heap.objects n ++ us)) (length (chars_in m.heap.objects (array_of m.heap.objects n))) ≡ false = lt-leb _ _ (omega (arith, h, whole_length m.heap.objects n us b)) in
    rw t refl
