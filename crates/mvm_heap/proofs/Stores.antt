-- What the calls of a store leave of the objects.
use Rattle.std.proofs.Common.{◌≡◌, ◌≢◌, ℕ, zero, suc, ◌+◌, ◌*◌, ◌/◌, ◌^◌, ◌<◌, ◌≤◌, List, [], ◌∷◌, ◌++◌, length, get_or, set, map, Some, refl, ap, sym, subst, ◌∙◌, arith}
use Rattle.std.specs.Prelude.{slice_get, IfNone, Option, None}
use Rattle.std.proofs.lemmas.List.{length-map, map_push, length-replicate, set-get_or}
use Rattle.mvm_region.specs.declared.monitor.Monitor.{Monitor}
use Rattle.mvm_heap.specs.declared.kind.ObjectKind.{ObjectKind}
use Rattle.mvm_heap.specs.Objects.{Object, Stored}
use Rattle.mvm_heap.specs.Digits.{item_at}
use Rattle.mvm_heap.specs.Heap.{words, object_at, number_at, nothing, zeros, free, put, written}
use Rattle.mvm_heap.specs.Sorts.{words_needed}
use Rattle.mvm_heap.specs.Packed.{word_at, bits, in_word, sort_in, length_in, number_in, object_in, objects_in, monitor_in, monitors_in, words_in, with_number, Laid, IsPacked}
use Rattle.mvm_heap.proofs.Blocks.{place_inside, room_enough, object_same, monitor_same, contents_length, contents_at, index_other, with_number_length, put_object, put_monitor, put_words, object_of_header}
use Rattle.mvm_heap.proofs.Laid as laid
use Rattle.mvm_heap.proofs.Items.{pow_pos}
use Rattle.std.proofs.lemmas.Nat.{mod_below}

-- ---- looking

pub object_is : (ws ds : List ℕ) (n at : ℕ) → slice_get ds n ≡ Some at → object_at (objects_in ws ds) n ≡ object_in ws at
unfolding objects_in
object_is ws ds n at e = laid.map_at (object_in ws) ds n at nothing e

pub count : (ws ds : List ℕ) → length (objects_in ws ds) ≡ length ds
unfolding objects_in
count ws ds = length-map ds (object_in ws)

pub monitor_count : (ws ds : List ℕ) → length (monitors_in ws ds) ≡ length ds
unfolding monitors_in
monitor_count ws ds = length-map ds (monitor_in ws)

pub is_there : (ws ds : List ℕ) (n place : ℕ) → place < length (object_at (objects_in ws ds) n).contents → n < length ds
unfolding objects_in
is_there ws ds n place h = laid.is_there ws ds n place h

pub block_within : (ws ds : List ℕ) (carved n at : ℕ) → IsPacked ws carved ds → slice_get ds n ≡ Some at → at + words_in ws at ≤ length ws
block_within ws ds carved n at s e = omega (arith, s.within, laid.block_within ws 0 ds carved n at s.laid e)

-- the header is there
pub header_within : (ws ds : List ℕ) (carved n at : ℕ) → IsPacked ws carved ds → slice_get ds n ≡ Some at → at + 1 < length ws
header_within ws ds carved n at s e = omega (arith, block_within ws ds carved n at s e, laid.two ws at)

pub place_below : (ws ds : List ℕ) (n place at : ℕ) → slice_get ds n ≡ Some at → place < length (object_at (objects_in ws ds) n).contents → place < length_in ws at
place_below ws ds n place at e h = omega (arith, h, ap (λ (o : Object). length o.contents) (object_is ws ds n at e), contents_length ws at)

pub index_within : (ws ds : List ℕ) (carved n place at : ℕ) → IsPacked ws carved ds → slice_get ds n ≡ Some at → place < length (object_at (objects_in ws ds) n).contents
    → at + 2 + place / in_word (sort_in ws at) < length ws
index_within ws ds carved n place at s e h =
    omega (arith, block_within ws ds carved n at s e, place_inside (sort_in ws at) (length_in ws at) place (place_below ws ds n place at e h))

pub number_is : (ws ds : List ℕ) (n place at : ℕ) → slice_get ds n ≡ Some at → place < length (object_at (objects_in ws ds) n).contents → number_at (objects_in ws ds) n place ≡ number_in ws at (sort_in ws at) place
number_is ws ds n place at e h = ap (λ (o : Object). get_or o.contents place 0) (object_is ws ds n at e) ∙ contents_at ws at place (place_below ws ds n place at e h)

pub few_places : (ws ds : List ℕ) (carved n at : ℕ) → IsPacked ws carved ds → slice_get ds n ≡ Some at → length_in ws at < 2 ^ 30
few_places ws ds carved n at s e = omega (arith, block_within ws ds carved n at s e, s.small, room_enough (sort_in ws at) (length_in ws at))

pub words_are : (ws ds : List ℕ) (carved : ℕ) → IsPacked ws carved ds → words (objects_in ws ds) ≡ carved
unfolding objects_in
words_are ws ds carved s = omega (arith, laid.words_are ws 0 ds carved s.laid)

pub two_each : (ws ds : List ℕ) (carved : ℕ) → IsPacked ws carved ds → 2 * length ds ≤ carved
two_each ws ds carved s = omega (arith, laid.laid_end ws 0 ds carved s.laid)

-- ---- writing

pub put_objects : (ws ds : List ℕ) (carved n place at v : ℕ) → IsPacked ws carved ds → slice_get ds n ≡ Some at → place < length (object_at (objects_in ws ds) n).contents → v < 2 ^ 64
    → objects_in (with_number ws at (sort_in ws at) place v) ds ≡ written (objects_in ws ds) n place v
unfolding objects_in written
put_objects ws ds carved n place at v s e h f =
    let inside = place_inside (sort_in ws at) (length_in ws at) place (place_below ws ds n place at e h) in
    let ws' : List ℕ = with_number ws at (sort_in ws at) place v in
    laid.map_changed object_in ws ws' 0 ds carved n at object_same s.laid e (λ k b. index_other ws at (sort_in ws at) place v k (λ q. omega (arith, q, b))) (λ k a. index_other ws at (sort_in ws at) place v k (λ q. omega (arith, q, a, inside)))
    ∙ ap (λ (o : Object). set (map (object_in ws) ds) n o) (put_object ws at place v (place_below ws ds n place at e h) (block_within ws ds carved n at s e) f)
    ∙ ap (λ (o : Object). set (map (object_in ws) ds) n (put o place v)) (sym (object_is ws ds n at e))

pub put_monitors : (ws ds : List ℕ) (carved n place at v : ℕ) → IsPacked ws carved ds → slice_get ds n ≡ Some at → place < length (object_at (objects_in ws ds) n).contents
    → monitors_in (with_number ws at (sort_in ws at) place v) ds ≡ monitors_in ws ds
unfolding monitors_in
put_monitors ws ds carved n place at v s e h =
    let inside = place_inside (sort_in ws at) (length_in ws at) place (place_below ws ds n place at e h) in
    let ws' : List ℕ = with_number ws at (sort_in ws at) place v in
    laid.map_changed monitor_in ws ws' 0 ds carved n at monitor_same s.laid e (λ k b. index_other ws at (sort_in ws at) place v k (λ q. omega (arith, q, b))) (λ k a. index_other ws at (sort_in ws at) place v k (λ q. omega (arith, q, a, inside)))
    ∙ ap (λ (m : Monitor). set (map (monitor_in ws) ds) n m) (put_monitor ws at place v ∙ sym (laid.map_at (monitor_in ws) ds n at free e))
    ∙ set-get_or (map (monitor_in ws) ds) n free

pub put_stored : (ws ds : List ℕ) (carved n place at v : ℕ) → IsPacked ws carved ds → slice_get ds n ≡ Some at → place < length (object_at (objects_in ws ds) n).contents
    → IsPacked (with_number ws at (sort_in ws at) place v) carved ds
put_stored ws ds carved n place at v s e h =
    let inside = place_inside (sort_in ws at) (length_in ws at) place (place_below ws ds n place at e h) in
    let ws' : List ℕ = with_number ws at (sort_in ws at) place v in
    let l : length ws' ≡ length ws = with_number_length ws at (sort_in ws at) place v in
    record {
      laid = laid.laid_changed ws ws' 0 ds carved n at s.laid e (λ k b. index_other ws at (sort_in ws at) place v k (λ q. omega (arith, q, b))) (λ k a. index_other ws at (sort_in ws at) place v k (λ q. omega (arith, q, a, inside))) (put_words ws at place v);
      within = omega (arith, l, s.within);
      small = omega (arith, l, s.small);
    }

-- ---- a monitor in a header

pub record HeaderChanged (ws ws' : List ℕ) (at : ℕ) : Type 0 where
  pub others : (k : ℕ) → k ≢ at + 1 → word_at ws' k ≡ word_at ws k
  pub sort : sort_in ws' at ≡ sort_in ws at
  pub length : length ws' ≡ length ws

header_words : (ws ws' : List ℕ) (at : ℕ) → HeaderChanged ws ws' at → words_in ws' at ≡ words_in ws at
header_words ws ws' at h = rw (h.sort, h.others at (λ q. omega (arith, q))) refl

header_object : (ws ws' : List ℕ) (at : ℕ) → HeaderChanged ws ws' at → object_in ws' at ≡ object_in ws at
header_object ws ws' at h = object_of_header ws ws' at (h.others at (λ q. omega (arith, q))) h.sort (λ k l. h.others k (λ q. omega (arith, q, l)))

pub header_objects : (ws ws' ds : List ℕ) (carved n at : ℕ) → IsPacked ws carved ds → slice_get ds n ≡ Some at → HeaderChanged ws ws' at → objects_in ws' ds ≡ objects_in ws ds
unfolding objects_in
header_objects ws ws' ds carved n at s e h =
    laid.map_changed object_in ws ws' 0 ds carved n at object_same s.laid e (λ k b. h.others k (λ q. omega (arith, q, b))) (λ k a. h.others k (λ q. omega (arith, q, a, laid.two ws at)))
    ∙ ap (λ (o : Object). set (map (object_in ws) ds) n o) (header_object ws ws' at h ∙ sym (laid.map_at (object_in ws) ds n at nothing e))
    ∙ set-get_or (map (object_in ws) ds) n nothing

pub header_monitors : (ws ws' ds : List ℕ) (carved n at : ℕ) (m : Monitor) → IsPacked ws carved ds → slice_get ds n ≡ Some at → HeaderChanged ws ws' at → monitor_in ws' at ≡ m
    → monitors_in ws' ds ≡ set (monitors_in ws ds) n m
unfolding monitors_in
header_monitors ws ws' ds carved n at m s e h i =
    laid.map_changed monitor_in ws ws' 0 ds carved n at monitor_same s.laid e (λ k b. h.others k (λ q. omega (arith, q, b))) (λ k a. h.others k (λ q. omega (arith, q, a, laid.two ws at)))
    ∙ ap (λ (x : Monitor). set (map (monitor_in ws) ds) n x) i

pub header_stored : (ws ws' ds : List ℕ) (carved n at : ℕ) → IsPacked ws carved ds → slice_get ds n ≡ Some at → HeaderChanged ws ws' at → IsPacked ws' carved ds
header_stored ws ws' ds carved n at s e h = record {
  laid = laid.laid_changed ws ws' 0 ds carved n at s.laid e (λ k b. h.others k (λ q. omega (arith, q, b))) (λ k a. h.others k (λ q. omega (arith, q, a, laid.two ws at))) (header_words ws ws' at h);
  within = omega (arith, h.length, s.within);
  small = omega (arith, h.length, s.small);
}

-- ---- one object more

pub record Added (ws ws' : List ℕ) (carved : ℕ) (s : ObjectKind) (class n : ℕ) : Type 0 where
  pub before : laid.SameBelow ws ws' carved
  pub object : object_in ws' carved ≡ zeros s class n
  pub monitor : monitor_in ws' carved ≡ free
  pub length : length ws' ≡ length ws

added_words : (ws ws' : List ℕ) (carved : ℕ) (s : ObjectKind) (class n : ℕ) → Added ws ws' carved s class n → words_in ws' carved ≡ words_needed s n
added_words ws ws' carved s class n a =
    let k : length_in ws' carved ≡ n = sym (contents_length ws' carved) ∙ ap (λ (o : Object). length o.contents) a.object ∙ length-replicate {A = ℕ} n 0 in
    ap (λ (t : ObjectKind). words_needed t (length_in ws' carved)) (ap (λ (o : Object). o.sort) a.object) ∙ ap (words_needed s) k

pub added_objects : (ws ws' ds : List ℕ) (carved : ℕ) (s : ObjectKind) (class n : ℕ) → IsPacked ws carved ds → Added ws ws' carved s class n
    → objects_in ws' (ds ++ carved ∷ []) ≡ objects_in ws ds ++ zeros s class n ∷ []
unfolding objects_in
added_objects ws ws' ds carved s class n i a =
    map_push (object_in ws') ds carved
    ∙ ap (λ (os : List Object). os ++ object_in ws' carved ∷ []) (laid.map_same object_in ws ws' 0 ds carved object_same i.laid (λ k lo hi. a.before k hi))
    ∙ ap (λ (o : Object). map (object_in ws) ds ++ o ∷ []) a.object

pub added_monitors : (ws ws' ds : List ℕ) (carved : ℕ) (s : ObjectKind) (class n : ℕ) → IsPacked ws carved ds → Added ws ws' carved s class n
    → monitors_in ws' (ds ++ carved ∷ []) ≡ monitors_in ws ds ++ free ∷ []
unfolding monitors_in
added_monitors ws ws' ds carved s class n i a =
    map_push (monitor_in ws') ds carved
    ∙ ap (λ (ms : List Monitor). ms ++ monitor_in ws' carved ∷ []) (laid.map_same monitor_in ws ws' 0 ds carved monitor_same i.laid (λ k lo hi. a.before k hi))
    ∙ ap (λ (m : Monitor). map (monitor_in ws) ds ++ m ∷ []) a.monitor

pub added_packed : (ws ws' ds : List ℕ) (carved : ℕ) (s : ObjectKind) (class n : ℕ) → IsPacked ws carved ds → Added ws ws' carved s class n → carved + words_needed s n ≤ length ws'
    → IsPacked ws' (carved + words_needed s n) (ds ++ carved ∷ [])
added_packed ws ws' ds carved s class n i a w = record {
  laid = subst (λ (m : ℕ). Laid ws' 0 (ds ++ carved ∷ []) (carved + m)) (added_words ws ws' carved s class n a) (laid.laid_push ws' 0 ds carved (laid.laid_same ws ws' 0 ds carved i.laid (λ k lo hi. a.before k hi)));
  within = w;
  small = omega (arith, a.length, i.small);
}

-- ---- for the calls

pub number_fits : (ws : List ℕ) (at : ℕ) (s : ObjectKind) (place : ℕ) → number_in ws at s place < 2 ^ bits s
unfolding number_in item_at
number_fits ws at s place = mod_below _ (2 ^ bits s) (pow_pos (bits s))

pub monitor_is : (ws ds : List ℕ) (n at : ℕ) → slice_get ds n ≡ Some at → slice_get (monitors_in ws ds) n ≡ Some (monitor_in ws at)
unfolding monitors_in
monitor_is ws [] n at e = absurd cc
monitor_is ws (d ∷ ds) zero at e = let k : d ≡ at = cc in ap (λ (x : ℕ). Some (monitor_in ws x)) k
monitor_is ws (d ∷ ds) (suc n) at e = monitor_is ws ds n at e

abbrev pub seen : List ℕ → List ℕ → Stored
seen ws ds = record { objects = objects_in ws ds; monitors = monitors_in ws ds; size = length ws }

pub seen_none : (ws : List ℕ) → seen ws [] ≡ record { objects = []; monitors = []; size = length ws }
unfolding objects_in monitors_in
seen_none ws = refl

pub added_seen : (ws ws' ds : List ℕ) (carved : ℕ) (s : ObjectKind) (class n : ℕ) → IsPacked ws carved ds → Added ws ws' carved s class n
    → seen ws' (ds ++ carved ∷ []) ≡ record { objects = objects_in ws ds ++ zeros s class n ∷ []; monitors = monitors_in ws ds ++ free ∷ []; size = length ws }
added_seen ws ws' ds carved s class n i a = rw (added_objects ws ws' ds carved s class n i a, added_monitors ws ws' ds carved s class n i a, a.length) refl

pub if_none : {T : Type 0} (r : Option T) (P : Type 0) → P → IfNone r P
if_none (Some x) P p = tt
if_none None P p = p
