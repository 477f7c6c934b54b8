-- One object in the words: it is read from its own words alone, and a write changes the one place.
use Rattle.std.proofs.Common.{◌≡◌, ◌≢◌, ℕ, ◌+◌, ◌*◌, ◌/◌, ◌%◌, ◌^◌, ◌<◌, ◌≤◌, List, length, get_or, set, map, replicate, inl, inr, refl, ap, sym, ◌∙◌, arith, get_or-set_other, get_or-set_same}
use Rattle.std.specs.List.{range_with_len}
use Rattle.std.proofs.lemmas.Bool.Decides.{eqb_tells}
use Rattle.std.proofs.lemmas.List.{length-set, length-replicate, get_or-replicate, length-map}
use Rattle.std.proofs.lemmas.List.FromFn.{fill_by_all, get_or-map-range_with_len, length-range_with_len}
use Rattle.std.proofs.lemmas.Nat.{mod_below}
use Rattle.std.proofs.Math.Nat.{zero-div, zero-mod, div-add-mod}
use Rattle.mvm_heap.specs.declared.kind.ItemKind.TheVariants as item
use Rattle.mvm_heap.specs.declared.kind.ObjectKind.{ObjectKind}
use Rattle.mvm_heap.specs.declared.kind.ObjectKind.TheVariants.{Array, Text}
use Rattle.mvm_heap.specs.declared.kind.ObjectKind.TheVariants as sort
use Rattle.mvm_heap.specs.Digits.{item_at, replaced}
use Rattle.mvm_heap.specs.Sorts.{kept, kept_item, words_needed}
use Rattle.mvm_heap.specs.Heap.{put, zeros}
use Rattle.mvm_heap.specs.Packed.{word_at, sort_number, sort_numbered, bits, in_word, length_in, sort_in, monitor_in, number_in, contents_in, object_in, words_in, with_number}
use Rattle.mvm_heap.proofs.Items.{item_same, item_other}

-- ---- sorts

pub two_at_least : (s : ObjectKind) (n : ℕ) → 2 ≤ words_needed s n
unfolding words_needed
two_at_least s n = omega arith

pub room_enough : (s : ObjectKind) (n : ℕ) → n ≤ 8 * words_needed s n
unfolding words_needed
room_enough sort.Object n = omega arith
room_enough (Array item.Boolean) n = omega arith
room_enough (Array item.Byte) n = omega arith
room_enough (Array item.Char) n = omega arith
room_enough (Array item.Short) n = omega arith
room_enough (Array item.Int) n = omega arith
room_enough (Array item.Long) n = omega arith
room_enough (Array item.Ref) n = omega arith
room_enough Text n = omega arith

pub place_inside : (s : ObjectKind) (n i : ℕ) → i < n → 2 + i / in_word s < words_needed s n
unfolding words_needed in_word
place_inside sort.Object n i h = omega (arith, h)
place_inside (Array item.Boolean) n i h = omega (arith, h)
place_inside (Array item.Byte) n i h = omega (arith, h)
place_inside (Array item.Char) n i h = omega (arith, h)
place_inside (Array item.Short) n i h = omega (arith, h)
place_inside (Array item.Int) n i h = omega (arith, h)
place_inside (Array item.Long) n i h = omega (arith, h)
place_inside (Array item.Ref) n i h = omega (arith, h)
place_inside Text n i h = omega (arith, h)

some_in_word : (s : ObjectKind) → 0 < in_word s
unfolding in_word
some_in_word sort.Object = omega arith
some_in_word (Array item.Boolean) = omega arith
some_in_word (Array item.Byte) = omega arith
some_in_word (Array item.Char) = omega arith
some_in_word (Array item.Short) = omega arith
some_in_word (Array item.Int) = omega arith
some_in_word (Array item.Long) = omega arith
some_in_word (Array item.Ref) = omega arith
some_in_word Text = omega arith

kept_fits : (s : ObjectKind) (n : ℕ) → n < 2 ^ 64 → kept s n < 2 ^ bits s
unfolding kept kept_item bits
kept_fits sort.Object n h = h
kept_fits (Array item.Boolean) n h = omega arith
kept_fits (Array item.Byte) n h = omega arith
kept_fits (Array item.Char) n h = omega arith
kept_fits (Array item.Short) n h = omega arith
kept_fits (Array item.Int) n h = omega arith
kept_fits (Array item.Long) n h = h
kept_fits (Array item.Ref) n h = omega arith
kept_fits Text n h = omega arith

numbered : (s : ObjectKind) → sort_numbered (sort_number s) ≡ s
unfolding sort_numbered
numbered sort.Object = refl
numbered (Array item.Boolean) = refl
numbered (Array item.Byte) = refl
numbered (Array item.Char) = refl
numbered (Array item.Short) = refl
numbered (Array item.Int) = refl
numbered (Array item.Long) = refl
numbered (Array item.Ref) = refl
numbered Text = refl

-- ---- tables

abbrev table : (ℕ → ℕ) → ℕ → List ℕ
table f n = map f (range_with_len 0 n)

table_same : (f g : ℕ → ℕ) (n : ℕ) → ((k : ℕ) → k < n → f k ≡ g k) → table f n ≡ table g n
table_same f g n h = fill_by_all g (table f n) n 0 (length-map (range_with_len 0 n) f ∙ length-range_with_len 0 n) (λ k l. get_or-map-range_with_len f 0 n k k 0 l (omega arith) ∙ h k l)

table_length : (f : ℕ → ℕ) (n : ℕ) → length (table f n) ≡ n
table_length f n = length-map (range_with_len 0 n) f ∙ length-range_with_len 0 n

table_at : (f : ℕ → ℕ) (n k : ℕ) → k < n → get_or (table f n) k 0 ≡ f k
table_at f n k l = get_or-map-range_with_len f 0 n k k 0 l (omega arith)

pub contents_length : (ws : List ℕ) (at : ℕ) → length (contents_in ws at) ≡ length_in ws at
unfolding contents_in
contents_length ws at = table_length (number_in ws at (sort_in ws at)) (length_in ws at)

pub contents_at : (ws : List ℕ) (at k : ℕ) → k < length_in ws at → get_or (contents_in ws at) k 0 ≡ number_in ws at (sort_in ws at) k
unfolding contents_in
contents_at ws at k h = table_at (number_in ws at (sort_in ws at)) (length_in ws at) k h

-- ---- an object is read from its own words alone

abbrev pub SameBlock : List ℕ → List ℕ → ℕ → Type 0
SameBlock ws ws' at = (k : ℕ) → at ≤ k → k < at + words_in ws at → word_at ws' k ≡ word_at ws k

first_same : (ws ws' : List ℕ) (at : ℕ) → SameBlock ws ws' at → word_at ws' at ≡ word_at ws at
first_same ws ws' at h = h at (omega arith) (omega (arith, two_at_least (sort_in ws at) (length_in ws at)))

second_same : (ws ws' : List ℕ) (at : ℕ) → SameBlock ws ws' at → word_at ws' (at + 1) ≡ word_at ws (at + 1)
second_same ws ws' at h = h (at + 1) (omega arith) (omega (arith, two_at_least (sort_in ws at) (length_in ws at)))

number_same : (ws ws' : List ℕ) (at : ℕ) (s : ObjectKind) (k : ℕ) → word_at ws' (at + 2 + k / in_word s) ≡ word_at ws (at + 2 + k / in_word s) → number_in ws' at s k ≡ number_in ws at s k
unfolding number_in
number_same ws ws' at s k e = ap (λ (w : ℕ). item_at (bits s) (k % in_word s * bits s) w) e

contents_of : (ws ws' : List ℕ) (at : ℕ) → word_at ws' at ≡ word_at ws at → word_at ws' (at + 1) ≡ word_at ws (at + 1) → contents_in ws' at ≡ table (number_in ws' at (sort_in ws at)) (length_in ws at)
unfolding contents_in
contents_of ws ws' at a b = rw (a, b) refl

contents_same : (ws ws' : List ℕ) (at : ℕ) → SameBlock ws ws' at → contents_in ws' at ≡ contents_in ws at
unfolding contents_in
contents_same ws ws' at h =
    contents_of ws ws' at (first_same ws ws' at h) (second_same ws ws' at h)
    ∙ table_same (number_in ws' at (sort_in ws at)) (number_in ws at (sort_in ws at)) (length_in ws at)
    (λ k l. number_same ws ws' at (sort_in ws at) k (h (at + 2 + k / in_word (sort_in ws at)) (omega arith) (omega (arith, place_inside (sort_in ws at) (length_in ws at) k l))))

pub words_same : (ws ws' : List ℕ) (at : ℕ) → SameBlock ws ws' at → words_in ws' at ≡ words_in ws at
words_same ws ws' at h = rw (first_same ws ws' at h, second_same ws ws' at h) refl

pub object_same : (ws ws' : List ℕ) (at : ℕ) → SameBlock ws ws' at → object_in ws' at ≡ object_in ws at
object_same ws ws' at h = rw (contents_same ws ws' at h, first_same ws ws' at h, second_same ws ws' at h) refl

pub monitor_same : (ws ws' : List ℕ) (at : ℕ) → SameBlock ws ws' at → monitor_in ws' at ≡ monitor_in ws at
monitor_same ws ws' at h = rw (second_same ws ws' at h) refl

-- ---- a new object

no_item : (b shift : ℕ) → item_at b shift 0 ≡ 0
unfolding item_at
no_item b shift = rw (zero-div (2 ^ shift)) (zero-mod (2 ^ b))

number_none : (ws : List ℕ) (at : ℕ) (s : ObjectKind) (k : ℕ) → word_at ws (at + 2 + k / in_word s) ≡ 0 → number_in ws at s k ≡ 0
unfolding number_in
number_none ws at s k e = rw e (no_item (bits s) (k % in_word s * bits s))

pub new_object : (ws : List ℕ) (at : ℕ) (s : ObjectKind) (class n : ℕ) → word_at ws at % 2 ^ 32 ≡ class → word_at ws at / 2 ^ 32 ≡ n → word_at ws (at + 1) % 16 ≡ sort_number s
    → ((k : ℕ) → at + 2 ≤ k → k < at + words_needed s n → word_at ws k ≡ 0) → object_in ws at ≡ zeros s class n
unfolding contents_in
new_object ws at s class n c l o z =
    let e : sort_in ws at ≡ s = ap sort_numbered o ∙ numbered s in
    let t : table (number_in ws at s) n ≡ replicate n 0 =
    sym (fill_by_all (number_in ws at s) (replicate n 0) n 0 (length-replicate {A = ℕ} n 0)
    (λ k h. get_or-replicate n k 0 0 h ∙ sym (number_none ws at s k (z (at + 2 + k / in_word s) (omega arith) (omega (arith, place_inside s n k h)))))) in
    rw (e, c, l, t) refl

-- ---- a number in a place

abbrev index : ℕ → ObjectKind → ℕ → ℕ
index at s i = at + 2 + i / in_word s

pub index_other : (ws : List ℕ) (at : ℕ) (s : ObjectKind) (i v k : ℕ) → k ≢ index at s i → word_at (with_number ws at s i v) k ≡ word_at ws k
unfolding with_number
index_other ws at s i v k d = get_or-set_other ws (index at s i) k _ 0 d

index_here : (ws : List ℕ) (at : ℕ) (s : ObjectKind) (i v : ℕ) → index at s i < length ws
    → word_at (with_number ws at s i v) (index at s i) ≡ replaced (bits s) (i % in_word s * bits s) (kept s v) (word_at ws (index at s i))
unfolding with_number
index_here ws at s i v h = get_or-set_same ws (index at s i) _ 0 h

pub with_number_length : (ws : List ℕ) (at : ℕ) (s : ObjectKind) (i v : ℕ) → length (with_number ws at s i v) ≡ length ws
unfolding with_number
with_number_length ws at s i v = length-set ws (index at s i) _

number_here : (ws : List ℕ) (at : ℕ) (s : ObjectKind) (i v : ℕ) → index at s i < length ws → v < 2 ^ 64 → number_in (with_number ws at s i v) at s i ≡ kept s v
unfolding number_in
number_here ws at s i v h f =
    rw (index_here ws at s i v h) (item_same (in_word s) (bits s) (i % in_word s) (kept s v) (word_at ws (index at s i)) (mod_below i (in_word s) (some_in_word s)) (kept_fits s v f))

apart : (c i k : ℕ) → k ≢ i → k / c ≡ i / c → k % c ≢ i % c
apart c i k d e m = d (sym (div-add-mod k c) ∙ rw (e, m) refl ∙ div-add-mod i c)

number_in_same_word : (ws : List ℕ) (at : ℕ) (s : ObjectKind) (i k v : ℕ) → index at s i < length ws → v < 2 ^ 64 → k ≢ i → k / in_word s ≡ i / in_word s
    → number_in (with_number ws at s i v) at s k ≡ number_in ws at s k
unfolding number_in
number_in_same_word ws at s i k v h f d e =
    rw (e, index_here ws at s i v h)
    (item_other (in_word s) (bits s) (i % in_word s) (k % in_word s) (kept s v) (word_at ws (index at s i)) (mod_below i (in_word s) (some_in_word s)) (mod_below k (in_word s) (some_in_word s)) (kept_fits s v f) (apart (in_word s) i k d e))

number_other : (ws : List ℕ) (at : ℕ) (s : ObjectKind) (i k v : ℕ) → index at s i < length ws → v < 2 ^ 64 → k ≢ i → number_in (with_number ws at s i v) at s k ≡ number_in ws at s k
number_other ws at s i k v h f d =
    elim (eqb_tells (k / in_word s) (i / in_word s)) as (λ t. number_in (with_number ws at s i v) at s k ≡ number_in ws at s k) [
      | inl e ↦ number_in_same_word ws at s i k v h f d e.1
      | inr e ↦ number_same ws (with_number ws at s i v) at s k (index_other ws at s i v (index at s k) (λ q. e.1 (omega (arith, q))))
    ]

-- the object there has that number in that place, and is else as before
pub put_object : (ws : List ℕ) (at i v : ℕ) → i < length_in ws at → at + words_in ws at ≤ length ws → v < 2 ^ 64
    → object_in (with_number ws at (sort_in ws at) i v) at ≡ put (object_in ws at) i v
unfolding contents_in
put_object ws at i v h w f =
    let s : ObjectKind = sort_in ws at in
    let ws' : List ℕ = with_number ws at s i v in
    let x : index at s i < length ws = omega (arith, w, place_inside s (length_in ws at) i h) in
    let a : word_at ws' at ≡ word_at ws at = index_other ws at s i v at (λ q. omega (arith, q)) in
    let b : word_at ws' (at + 1) ≡ word_at ws (at + 1) = index_other ws at s i v (at + 1) (λ q. omega (arith, q)) in
    let t : set (contents_in ws at) i (kept s v) ≡ table (number_in ws' at s) (length_in ws at) =
    fill_by_all (number_in ws' at s) (set (contents_in ws at) i (kept s v)) (length_in ws at) 0 (length-set (contents_in ws at) i (kept s v) ∙ contents_length ws at)
    (λ k l. elim (eqb_tells k i) as (λ z. get_or (set (contents_in ws at) i (kept s v)) k 0 ≡ number_in ws' at s k) [
      | inl e ↦ rw e.1 (get_or-set_same (contents_in ws at) i (kept s v) 0 (omega (arith, h, contents_length ws at)) ∙ sym (number_here ws at s i v x f))
      | inr e ↦ get_or-set_other (contents_in ws at) i k (kept s v) 0 e.1 ∙ contents_at ws at k l ∙ sym (number_other ws at s i k v x f e.1)
    ]) in
    let c : contents_in ws' at ≡ set (contents_in ws at) i (kept s v) = contents_of ws ws' at a b ∙ sym t in
    rw (c, a, b) refl

-- the words of the object there that are not that one are as before
pub put_monitor : (ws : List ℕ) (at i v : ℕ) → monitor_in (with_number ws at (sort_in ws at) i v) at ≡ monitor_in ws at
put_monitor ws at i v = rw (index_other ws at (sort_in ws at) i v (at + 1) (λ q. omega (arith, q))) refl

pub put_words : (ws : List ℕ) (at i v : ℕ) → words_in (with_number ws at (sort_in ws at) i v) at ≡ words_in ws at
put_words ws at i v = rw (index_other ws at (sort_in ws at) i v at (λ q. omega (arith, q)), index_other ws at (sort_in ws at) i v (at + 1) (λ q. omega (arith, q))) refl

-- ---- the two header words of a new object

pub new_written : (ws : List ℕ) (at : ℕ) (s : ObjectKind) (class n f g : ℕ) → at + 1 < length ws → f % 2 ^ 32 ≡ class → f / 2 ^ 32 ≡ n → g % 16 ≡ sort_number s
    → ((k : ℕ) → at + 2 ≤ k → k < at + words_needed s n → word_at ws k ≡ 0) → object_in (set (set ws at f) (at + 1) g) at ≡ zeros s class n
new_written ws at s class n f g h c l o z =
    let a : word_at (set (set ws at f) (at + 1) g) at ≡ f = get_or-set_other (set ws at f) (at + 1) at g 0 (λ q. omega (arith, q)) ∙ get_or-set_same ws at f 0 (omega (arith, h)) in
    let b : word_at (set (set ws at f) (at + 1) g) (at + 1) ≡ g = get_or-set_same (set ws at f) (at + 1) g 0 (omega (arith, h, length-set ws at f)) in
    new_object (set (set ws at f) (at + 1) g) at s class n (rw a c) (rw a l) (rw b o)
    (λ k low high. get_or-set_other (set ws at f) (at + 1) k g 0 (λ q. omega (arith, q, low)) ∙ get_or-set_other ws at k f 0 (λ q. omega (arith, q, low)) ∙ z k low high)

-- another monitor in the header leaves the object
pub object_of_header : (ws ws' : List ℕ) (at : ℕ) → word_at ws' at ≡ word_at ws at → sort_in ws' at ≡ sort_in ws at → ((k : ℕ) → at + 2 ≤ k → word_at ws' k ≡ word_at ws k) → object_in ws' at ≡ object_in ws at
unfolding contents_in
object_of_header ws ws' at a o h =
    let c : contents_in ws' at ≡ contents_in ws at =
    rw (o, a) (table_same (number_in ws' at (sort_in ws at)) (number_in ws at (sort_in ws at)) (length_in ws at) (λ k l. number_same ws ws' at (sort_in ws at) k (h (at + 2 + k / in_word (sort_in ws at)) (omega arith)))) in
    rw (c, a, o) refl
