-- Arrays of arrays, made dimension by dimension.
use Rattle.std.proofs.Common.{◌≡◌, ◌<◌, ◌≤◌, ℕ, zero, suc, ◌+◌, ◌-◌, ◌*◌, min, Bool, true, false, List, [], ◌∷◌, ◌++◌, length, take, drop, Result, Ok, Err, IsOk, ◌⊎◌, inl, inr, refl, sym, ap, ◌∙◌, subst, arith}
use Rattle.std.specs.Prelude.{nat_lt, slice_index_or, slice_set}
use Rattle.std.proofs.lemmas.Bool.{cases_lt}
use Rattle.std.proofs.lemmas.List.{get_or_append_left, get_or_at, length-replicate, length_push, take_all}
use Rattle.mvm_base.specs.Answers.{◌>>=◌}
use Rattle.mvm_base.specs.declared.descriptor.FieldShape.{FieldShape}
use Rattle.mvm_base.specs.declared.value.Word.TheVariants.{Ref}
use Rattle.mvm_heap.specs.Heap.{words, words_of, placed, put, written, object_at, nothing, zeros}
use Rattle.mvm_heap.specs.Objects.{Object}
use Rattle.mvm_heap.specs.Sorts.{bits_of, words_needed}
use Rattle.mvm_heap.specs.declared.kind.ObjectKind.TheVariants.{Array, Text}
use Rattle.mvm_native.specs.declared.out.Thrown.TheVariants.{VerifyError}
use Rattle.mvm_isolate.specs.Isolate.{Isolate, stopped, allocated, new_array, with_number}
use Rattle.mvm_isolate.specs.Numbered.{Numbered, named, shape_at, IsArray}
use Rattle.mvm_isolate.specs.Sound.{Grows}
use Rattle.mvm_isolate.specs.Types.{ReferenceType, of_array, items_of}
use Rattle.mvm_isolate.specs.declared.stop.Stop.{Stop}
use Rattle.mvm_initialise.specs.declared.arrays.Dimension.{Dimension}
use Rattle.mvm_initialise.specs.Arrays.{array_words, arrays_made, counts_in, first_shape, item_shape, items_made, AreDimensions, HasItems}
use Rattle.mvm_initialise.specs.Constants.{MOST}
use Rattle.mvm_initialise.specs.Words.{has_words}
use Rattle.mvm_initialise.proofs.Calling.{row_stays, shape_stays}
use Rattle.mvm_initialise.proofs.Setting.{grows_trans}
use Rattle.mvm_initialise.proofs.Taking.{arrays_take, fits_made, lacks_made, length_set}

-- ---- their array classes

pub stay : (a b : Numbered) (shape : FieldShape) (ds : List Dimension) → Grows a b → AreDimensions a shape ds → AreDimensions b shape ds
stay a b shape [] g are = tt
stay a b shape (d ∷ ds) g are = (row_stays a b d.row are.0 g, shape_stays a b d.row are.0 g ∙ are.1, stay a b (item_shape shape) ds g are.2)

pub by_first : (n : Numbered) (shape : FieldShape) (ds : List Dimension) → AreDimensions n shape ds → AreDimensions n (first_shape n ds) ds
by_first n shape [] are = tt
by_first n shape (d ∷ ds) are = (are.0, refl, subst (λ (x : FieldShape). AreDimensions n (item_shape x) ds) (sym are.1) are.2)

pub made_first : (n : Numbered) (shape : FieldShape) (ds : List Dimension) (s : Isolate) → AreDimensions n shape ds → arrays_made (first_shape n ds) (counts_in ds) s ≡ arrays_made shape (counts_in ds) s
unfolding arrays_made
made_first n shape [] s are = refl
made_first n shape (d ∷ ds) s are = ap (λ (x : FieldShape). arrays_made x (d.count ∷ counts_in ds) s) are.1

pub words_first : (n : Numbered) (shape : FieldShape) (ds : List Dimension) → AreDimensions n shape ds → array_words (first_shape n ds) (counts_in ds) ≡ array_words shape (counts_in ds)
unfolding array_words
words_first n shape [] are = refl
words_first n shape (d ∷ ds) are = ap (λ (x : FieldShape). array_words x (d.count ∷ counts_in ds)) are.1

-- ---- found one after another

-- the shape of the items of the last of these dimensions
abbrev shape_after : FieldShape → List Dimension → FieldShape
shape_after shape [] = shape
shape_after shape (d ∷ ds) = shape_after (item_shape shape) ds

after_push : (shape : FieldShape) (ds : List Dimension) (d : Dimension) → shape_after shape (ds ++ d ∷ []) ≡ item_shape (shape_after shape ds)
after_push shape [] d = refl
after_push shape (e ∷ ds) d = after_push (item_shape shape) ds d

are_push : (n : Numbered) (shape : FieldShape) (ds : List Dimension) (d : Dimension) → AreDimensions n shape ds → IsArray n d.row → shape_at n d.row ≡ shape_after shape ds → AreDimensions n shape (ds ++ d ∷ [])
are_push n shape [] d are there is = (there, is, tt)
are_push n shape (e ∷ ds) d are there is = (are.0, are.1, are_push n (item_shape shape) ds d are.2 there is)

counts_push : (ds : List Dimension) (d : Dimension) → counts_in (ds ++ d ∷ []) ≡ counts_in ds ++ d.count ∷ []
counts_push [] d = refl
counts_push (e ∷ ds) d = ap (λ (x : List ℕ). e.count ∷ x) (counts_push ds d)

-- so many dimensions were found
pub record Finding (old mid : Numbered) (shape item : FieldShape) (counts : List ℕ) (place : ℕ) (ds : List Dimension) : Type 0 where
  pub are : AreDimensions mid shape ds
  pub next : item ≡ shape_after shape ds
  pub lengths : counts_in ds ≡ take place counts
  pub same : named mid ≡ named old
  pub links : mid.env.links ≡ old.env.links
  pub grows : Grows old mid

pub finding_begins : (old mid : Numbered) (shape item : FieldShape) (counts : List ℕ) → item ≡ shape → Grows old old → Finding old old shape item counts 0 []
finding_begins old mid shape item counts e g = record { are = tt; next = e; lengths = refl; same = refl; links = refl; grows = g }

pub finding_more : (old mid new : Numbered) (shape item : FieldShape) (dims : ℕ) (counts : List ℕ) (place : ℕ) (ds all : List Dimension) (d : Dimension) → Finding old mid shape item counts place ds
    → all ≡ ds ++ d ∷ [] → take (place + 1) counts ≡ take place counts ++ d.count ∷ [] → IsArray new d.row → shape_at new d.row ≡ item → dims ≡ item.dims - 1 → named new ≡ named mid → new.env.links ≡ mid.env.links → Grows mid new
    → Finding old new shape (record item { dims = dims }) counts (place + 1) all
finding_more old mid new shape item dims counts place ds all d k whole one there is less same links g =
    let after : record item { dims = dims } ≡ item_shape item = ap (λ (n : ℕ). record item { dims = n }) less in
    record {
      are = subst (λ (x : List Dimension). AreDimensions new shape x) (sym whole) (are_push new shape ds d (stay mid new shape ds g k.are) there (is ∙ k.next));
      next = after ∙ (ap item_shape k.next ∙ (sym (after_push shape ds d) ∙ ap (λ (x : List Dimension). shape_after shape x) (sym whole)));
      lengths = ap counts_in whole ∙ (counts_push ds d ∙ (ap (λ (x : List ℕ). x ++ d.count ∷ []) k.lengths ∙ sym one));
      same = same ∙ k.same;
      links = links ∙ k.links;
      grows = grows_trans old mid new k.grows g;
    }

-- ---- their words

times_by : (c w : ℕ) → (w < MOST) → min (c * min w MOST) MOST ≡ min (c * w) MOST
times_by c w h =
    let small : min w MOST ≡ w = omega (arith, h) in
    ap (λ (x : ℕ). min (c * x) MOST) small

times_above : (c w : ℕ) → (MOST ≤ w) → min (c * min w MOST) MOST ≡ min (c * w) MOST
times_above zero w h = omega arith
times_above (suc c) w h =
    let large : min w MOST ≡ MOST = omega (arith, h) in
    ap (λ (x : ℕ). min (suc c * x) MOST) large ∙ omega (arith, h)

times_most : (c w : ℕ) → min (c * min w MOST) MOST ≡ min (c * w) MOST
times_most c w = by (cases_lt w MOST)
  where
    by : (w < MOST) ⊎ (MOST ≤ w) → min (c * min w MOST) MOST ≡ min (c * w) MOST
    by (inl h) = times_by c w h
    by (inr h) = times_above c w h

sum_of : (own inner product sum w c : ℕ) → inner ≡ min w MOST → product ≡ min (c * inner) MOST → sum ≡ min (own + product) MOST → sum ≡ min (own + c * w) MOST
sum_of own inner product sum w c i p e =
    let is : product ≡ min (c * w) MOST = p ∙ (ap (λ (x : ℕ). min (c * x) MOST) i ∙ times_most c w) in
    omega (arith, is, e)

words_by : (n : Numbered) (shape : FieldShape) (d : Dimension) (ds : List Dimension) (own inner product sum : ℕ) → AreDimensions n shape (d ∷ ds) → own ≡ words_needed (Array (items_of shape)) d.count
    → inner ≡ min (array_words (first_shape n ds) (counts_in ds)) MOST → product ≡ min (d.count * inner) MOST → sum ≡ min (own + product) MOST → sum ≡ min (array_words shape (d.count ∷ counts_in ds)) MOST
unfolding array_words
words_by n shape d [] own inner product sum are o i p e = sum_of own inner product sum 0 d.count i p e ∙ omega (arith, o)
words_by n shape d (next ∷ ds) own inner product sum are o i p e =
    let w : ℕ = array_words (item_shape shape) (next.count ∷ counts_in ds) in
    let first : array_words (shape_at n next.row) (next.count ∷ counts_in ds) ≡ w = words_first n (item_shape shape) (next ∷ ds) are.2 in
    sum_of own inner product sum w d.count (i ∙ ap (λ (x : ℕ). min x MOST) first) p e ∙ ap (λ (x : ℕ). min (x + d.count * w) MOST) o

pub words_none : (n : Numbered) (ds : List Dimension) → length ds ≡ 0 → 0 ≡ min (array_words (first_shape n ds) (counts_in ds)) MOST
unfolding array_words
words_none n [] e = omega arith
words_none n (d ∷ ds) e = absurd (omega (arith, e))

module _ (n : Numbered) (ds : List Dimension) (d : Dimension) (others : List Dimension) (is : ds ≡ d ∷ others) (are : AreDimensions n (first_shape n ds) ds) where
  pub others_are : AreDimensions n (first_shape n others) others
  others_are = by_first n (item_shape (shape_at n d.row)) others (subst (λ (x : List Dimension). AreDimensions n (first_shape n x) x) is are).2

  pub words_more : (own inner product sum : ℕ) → own ≡ words_needed (Array (items_of (shape_at n d.row))) d.count → inner ≡ min (array_words (first_shape n others) (counts_in others)) MOST → product ≡ min (d.count * inner) MOST
      → sum ≡ min (own + product) MOST → sum ≡ min (array_words (first_shape n ds) (counts_in ds)) MOST
  words_more own inner product sum o i p e =
      words_by n (shape_at n d.row) d others own inner product sum (subst (λ (x : List Dimension). AreDimensions n (first_shape n x) x) is are) o i p e
      ∙ ap (λ (x : List Dimension). min (array_words (first_shape n x) (counts_in x)) MOST) (sym is)

-- ---- an array keeps its items

kept_at : {X : Type 0} (f : Object → X) (os : List Object) (n at : ℕ) (o : Object) → f o ≡ f (object_at os n) → f (object_at (slice_set os n o) at) ≡ f (object_at os at)
kept_at f [] n at o e = refl
kept_at f (x ∷ os) zero zero o e = e
kept_at f (x ∷ os) zero (suc at) o e = refl
kept_at f (x ∷ os) (suc n) zero o e = refl
kept_at f (x ∷ os) (suc n) (suc at) o e = kept_at f os n at o e

pub number_has : (count array object place number : ℕ) (s : Isolate) → HasItems count s array → HasItems count (with_number object place number s) array
unfolding written
number_has count array object place number s is =
    let o : Object = put (object_at s.heap.objects object) place number in
    let more : length (slice_set s.heap.objects object o) ≡ length s.heap.objects = length_set s.heap.objects object o in
    let size : length (object_at (slice_set s.heap.objects object o) array).contents ≡ length (object_at s.heap.objects array).contents =
    kept_at (λ (x : Object). length x.contents) s.heap.objects object array o (length_set (object_at s.heap.objects object).contents place _) in
    let sort : (object_at (slice_set s.heap.objects object o) array).sort ≡ (object_at s.heap.objects array).sort = kept_at (λ (x : Object). x.sort) s.heap.objects object array o refl in
    record { there = omega (arith, more, is.there); size = size ∙ is.size; sort = λ e. is.sort (sym sort ∙ e) }

abbrev Has : ℕ → ℕ → Result (ℕ × Isolate) Stop → Type 0
Has count array (Ok x) = HasItems count x.1 array
Has count array (Err fault) = Unit {0}

abbrev Still : ℕ → ℕ → Result Isolate Stop → Type 0
Still count array (Ok s) = HasItems count s array
Still count array (Err fault) = Unit {0}

placed_by : (type : ReferenceType) (o : Object) (s : Isolate) (count array : ℕ) (lacks : Bool) → nat_lt s.heap.size (words s.heap.objects + words_of o) ≡ lacks → HasItems count s array → Has count array (allocated type s (placed o s.heap))
unfolding placed
placed_by type o s count array true f is = rw f tt
placed_by type o s count array false f is =
    let more : length (s.heap.objects ++ o ∷ []) ≡ length s.heap.objects + 1 = length_push s.heap.objects o in
    let same : object_at (s.heap.objects ++ o ∷ []) array ≡ object_at s.heap.objects array = get_or_append_left s.heap.objects (o ∷ []) nothing array is.there in
    rw f (record { there = omega (arith, more, is.there); size = ap (λ (x : Object). length x.contents) same ∙ is.size; sort = λ e. is.sort (sym (ap (λ (x : Object). x.sort) same) ∙ e) })

array_has : (shape : FieldShape) (n : ℕ) (s : Isolate) (count array : ℕ) → HasItems count s array → Has count array (new_array shape n s)
unfolding new_array
array_has shape n s count array is = placed_by (of_array shape) (zeros (Array (items_of shape)) 0 n) s count array _ refl is

still_by : (count array : ℕ) (r : Result (ℕ × Isolate) Stop) (f : ℕ × Isolate → Result Isolate Stop) → Has count array r → ((x : ℕ × Isolate) → HasItems count x.1 array → Still count array (f x)) → Still count array (r >>= f)
still_by count array (Ok x) f has next = next x has
still_by count array (Err fault) f has next = tt

has_whole : (count array n : ℕ) (r : Result Isolate Stop) → Still count array r → Has count array (r >>= λ made. Ok (n, made))
has_whole count array n (Ok s) still = still
has_whole count array n (Err fault) still = tt

has_by : (count array : ℕ) (r : Result (ℕ × Isolate) Stop) (f : ℕ × Isolate → Result Isolate Stop) → Has count array r → ((x : ℕ × Isolate) → HasItems count x.1 array → Still count array (f x))
    → Has count array (r >>= λ x. f x >>= λ made. Ok (x.0, made))
has_by count array (Ok x) f has next = has_whole count array x.0 (f x) (next x has)
has_by count array (Err fault) f has next = tt

module _ (count array : ℕ) (make : Isolate → Result (ℕ × Isolate) Stop) (each : (s : Isolate) → HasItems count s array → Has count array (make s)) where
  items_still : (object place n : ℕ) (s : Isolate) → HasItems count s array → Still count array (items_made make object place n s)
  items_still object place zero s is = is
  items_still object place (suc n) s is =
      still_by count array (make s) (λ x. items_made make object (place + 1) n (with_number object place (bits_of (Ref x.0)) x.1)) (each s is)
      (λ x has. items_still object (place + 1) n (with_number object place (bits_of (Ref x.0)) x.1) (number_has count array object place (bits_of (Ref x.0)) x.1 has))

arrays_have : (count array : ℕ) (shape : FieldShape) (counts : List ℕ) (s : Isolate) → HasItems count s array → Has count array (arrays_made shape counts s)
unfolding arrays_made
arrays_have count array shape [] s is = tt
arrays_have count array shape (n ∷ []) s is = array_has shape n s count array is
arrays_have count array shape (n ∷ next ∷ counts) s is =
    has_by count array (new_array shape n s) (λ x. items_made (arrays_made (item_shape shape) (next ∷ counts)) x.0 0 n x.1) (array_has shape n s count array is)
    (λ x has. items_still count array (arrays_made (item_shape shape) (next ∷ counts)) (arrays_have count array (item_shape shape) (next ∷ counts)) x.0 0 n x.1 has)

-- what is made changes no array that was there
pub made_has : (count array object : ℕ) (shape : FieldShape) (counts : List ℕ) (s t : Isolate) → arrays_made shape counts s ≡ Ok (object, t) → HasItems count s array → HasItems count t array
made_has count array object shape counts s t e is = subst (Has count array) e (arrays_have count array shape counts s is)

abbrev New : ℕ → Result (ℕ × Isolate) Stop → Type 0
New count (Ok x) = HasItems count x.1 x.0
New count (Err fault) = Unit {0}

new_by : (shape : FieldShape) (count : ℕ) (s : Isolate) (lacks : Bool) → nat_lt s.heap.size (words s.heap.objects + words_of (zeros (Array (items_of shape)) 0 count)) ≡ lacks → New count (new_array shape count s)
unfolding new_array placed
new_by shape count s true f = rw f tt
new_by shape count s false f =
    let o : Object = zeros (Array (items_of shape)) 0 count in
    let more : length (s.heap.objects ++ o ∷ []) ≡ length s.heap.objects + 1 = length_push s.heap.objects o in
    let new : object_at (s.heap.objects ++ o ∷ []) (length s.heap.objects) ≡ o = get_or_at s.heap.objects o [] nothing (length s.heap.objects) refl in
    rw f (record { there = omega (arith, more); size = ap (λ (x : Object). length x.contents) new ∙ length-replicate count 0; sort = λ e. (let is : Array (items_of shape) ≡ Text = sym (ap (λ (x : Object). x.sort) new) ∙ e in absurd cc) })

pub new_has : (shape : FieldShape) (count array : ℕ) (s t : Isolate) → new_array shape count s ≡ Ok (array, t) → HasItems count t array
new_has shape count array s t e = subst (New count) e (new_by shape count s _ refl)

-- ---- a loop over the items

abbrev whole : Numbered → List Dimension → Result (ℕ × Isolate) Stop
whole old ds = arrays_made (first_shape old ds) (counts_in ds) (named old)

abbrev each : Numbered → List Dimension → List Dimension → Isolate → Result (ℕ × Isolate) Stop
each old ds others s = arrays_made (item_shape (first_shape old ds)) (counts_in others) s

abbrev left : Numbered → List Dimension → List Dimension → ℕ → ℕ → ℕ → Isolate → Result (ℕ × Isolate) Stop
left old ds others array place n s = items_made (each old ds others) array place n s >>= λ made. Ok (array, made)

-- so far the items before were made
pub record Making (old mid : Numbered) (ds others : List Dimension) (array count place : ℕ) : Type 0 where
  pub rest : whole old ds ≡ left old ds others array place (count - place) (named mid)
  pub is : HasItems count (named mid) array
  pub are : AreDimensions mid (item_shape (first_shape old ds)) others
  pub links : mid.env.links ≡ old.env.links
  pub grows : Grows old mid

-- the first, and the others
pub cut : (ds : List Dimension) (d : Dimension) → 0 < length ds → ds ≡ slice_index_or ds 0 d ∷ take (length ds - 1) (drop 1 ds)
cut [] d h = absurd (omega (arith, h))
cut (e ∷ ds) d h = let all : length ds ≤ length (e ∷ ds) - 1 = omega arith in ap (λ (x : List Dimension). e ∷ x) (sym (take_all (length (e ∷ ds) - 1) ds all))

pub none_made : (n : Numbered) (ds : List Dimension) (s : Isolate) → length ds ≡ 0 → arrays_made (first_shape n ds) (counts_in ds) s ≡ stopped VerifyError
unfolding arrays_made
none_made n [] s e = refl
none_made n (d ∷ ds) s e = absurd (omega (arith, e))

module _ (old : Numbered) (d : Dimension) where
  whole_is : (others : List Dimension) (array : ℕ) (s : Isolate) → 0 < length others → new_array (shape_at old d.row) d.count (named old) ≡ Ok (array, s) → whole old (d ∷ others) ≡ left old (d ∷ others) others array 0 d.count s
  unfolding arrays_made
  whole_is [] array s h e = absurd (omega (arith, h))
  whole_is (next ∷ others) array s h e = rw e refl

  fails : (others : List Dimension) (fault : Stop) → new_array (shape_at old d.row) d.count (named old) ≡ Err fault → whole old (d ∷ others) ≡ Err fault
  unfolding arrays_made
  fails [] fault e = e
  fails (next ∷ others) fault e = rw e refl

  alone : (others : List Dimension) → length others ≡ 0 → whole old (d ∷ others) ≡ new_array (shape_at old d.row) d.count (named old)
  unfolding arrays_made
  alone [] e = refl
  alone (next ∷ others) e = absurd (omega (arith, e))

  module _ (ds others : List Dimension) (is : ds ≡ d ∷ others) where
    pub row_there : AreDimensions old (first_shape old ds) ds → IsArray old d.row
    row_there are = (subst (λ (x : List Dimension). AreDimensions old (first_shape old x) x) is are).0

    -- the array itself could not be made
    pub whole_fails : (fault : Stop) → new_array (shape_at old d.row) d.count (named old) ≡ Err fault → whole old ds ≡ Err fault
    whole_fails fault e = ap (whole old) is ∙ fails others fault e

    -- there are no dimensions below it
    pub whole_alone : (array : ℕ) (s : Isolate) → length others ≡ 0 → new_array (shape_at old d.row) d.count (named old) ≡ Ok (array, s) → whole old ds ≡ Ok (array, s)
    whole_alone array s h e = ap (whole old) is ∙ (alone others h ∙ e)

    pub making_begins : (mid : Numbered) (array : ℕ) → 0 < length others → new_array (shape_at old d.row) d.count (named old) ≡ Ok (array, named mid) → AreDimensions old (first_shape old ds) ds
        → mid.env.links ≡ old.env.links → Grows old mid → Making old mid ds others array d.count 0
    making_begins mid array h e are links g =
        let all : d.count ≡ d.count - 0 = omega arith in
        let begun : Making old mid (d ∷ others) others array d.count 0 = record {
          rest = whole_is others array (named mid) h e ∙ ap (λ (n : ℕ). left old (d ∷ others) others array 0 n (named mid)) all;
          is = new_has (shape_at old d.row) d.count array (named old) (named mid) e;
          are = stay old mid (item_shape (shape_at old d.row)) others g (subst (λ (x : List Dimension). AreDimensions old (first_shape old x) x) is are).2;
          links = links;
          grows = g;
        } in
        subst (λ (x : List Dimension). Making old mid x others array d.count 0) (sym is) begun

module _ (old mid : Numbered) (ds others : List Dimension) (array count place : ℕ) (within : place < count) (k : Making old mid ds others array count place) where
  pub making_are : AreDimensions mid (first_shape mid others) others
  making_are = by_first mid (item_shape (first_shape old ds)) others k.are

  same_item : arrays_made (first_shape mid others) (counts_in others) (named mid) ≡ each old ds others (named mid)
  same_item = made_first mid (item_shape (first_shape old ds)) others (named mid) k.are

  steps : whole old ds ≡ left old ds others array place (suc (count - (place + 1))) (named mid)
  steps =
      let one : count - place ≡ suc (count - (place + 1)) = omega (arith, within) in
      k.rest ∙ ap (λ (n : ℕ). left old ds others array place n (named mid)) one

  pub making_fails : (fault : Stop) → arrays_made (first_shape mid others) (counts_in others) (named mid) ≡ Err fault → whole old ds ≡ Err fault
  making_fails fault e =
      let is : each old ds others (named mid) ≡ Err fault = sym same_item ∙ e in
      steps ∙ rw is refl

  pub making_has : (object : ℕ) (t : Numbered) → arrays_made (first_shape mid others) (counts_in others) (named mid) ≡ Ok (object, named t) → HasItems count (named t) array
  making_has object t e = made_has count array object (first_shape mid others) (counts_in others) (named mid) (named t) e k.is

  pub making_more : (object bits : ℕ) (t new : Numbered) → arrays_made (first_shape mid others) (counts_in others) (named mid) ≡ Ok (object, named t) → bits ≡ bits_of (Ref object)
      → named new ≡ with_number array place bits (named t) → t.env.links ≡ mid.env.links → Grows mid t → new.env.links ≡ t.env.links → Grows t new → Making old new ds others array count (place + 1)
  making_more object bits t new e b put links g links_too h =
      let is : each old ds others (named mid) ≡ Ok (object, named t) = sym same_item ∙ e in
      let to : with_number array place (bits_of (Ref object)) (named t) ≡ named new = ap (λ (n : ℕ). with_number array place n (named t)) (sym b) ∙ sym put in
      record {
        rest = steps ∙ (rw is refl ∙ ap (left old ds others array (place + 1) (count - (place + 1))) to);
        is = subst (λ (s : Isolate). HasItems count s array) to (number_has count array array place (bits_of (Ref object)) (named t) (making_has object t e));
        are = stay t new (item_shape (first_shape old ds)) others h (stay mid t (item_shape (first_shape old ds)) others g k.are);
        links = links_too ∙ (links ∙ k.links);
        grows = grows_trans old t new (grows_trans old mid t k.grows g) h;
      }

pub making_ends : (old mid : Numbered) (ds others : List Dimension) (array count place : ℕ) → count ≤ place → Making old mid ds others array count place → whole old ds ≡ Ok (array, named mid)
making_ends old mid ds others array count place h k =
    let none : count - place ≡ 0 = omega (arith, h) in
    k.rest ∙ ap (λ (n : ℕ). left old ds others array place n (named mid)) none

-- ---- all of them, where their words are there

pub no_lengths : (shape : FieldShape) (counts : List ℕ) (s : Isolate) → length counts ≡ 0 → arrays_made shape counts s ≡ stopped VerifyError
unfolding arrays_made
no_lengths shape [] s e = refl
no_lengths shape (c ∷ counts) s e = absurd (omega (arith, e))

fits_by : (counts : List ℕ) (shape : FieldShape) (s : Isolate) → 0 < length counts → words s.heap.objects ≤ s.heap.size → Ok tt ≡ has_words (array_words shape counts) s → IsOk (arrays_made shape counts s)
fits_by [] shape s h within e = absurd (omega (arith, h))
fits_by (c ∷ counts) shape s h within e = fits_made (array_words shape (c ∷ counts)) s (arrays_made shape (c ∷ counts) s) (arrays_take counts c shape s within) e

lacks_by : (counts : List ℕ) (shape : FieldShape) (s : Isolate) (fault : Stop) → 0 < length counts → words s.heap.objects ≤ s.heap.size → Err fault ≡ has_words (array_words shape counts) s → arrays_made shape counts s ≡ Err fault
lacks_by [] shape s fault h within e = absurd (omega (arith, h))
lacks_by (c ∷ counts) shape s fault h within e = lacks_made (array_words shape (c ∷ counts)) s (arrays_made shape (c ∷ counts) s) fault (arrays_take counts c shape s within) e

module _ (old mid : Numbered) (shape : FieldShape) (counts : List ℕ) (ds : List Dimension) (are : AreDimensions mid shape ds) (lengths : counts_in ds ≡ counts) (same : named mid ≡ named old) where
  pub sum_is : (sum : ℕ) → sum ≡ min (array_words (first_shape mid ds) (counts_in ds)) MOST → sum ≡ min (array_words shape counts) MOST
  sum_is sum e = e ∙ ap (λ (w : ℕ). min w MOST) (words_first mid shape ds are ∙ ap (λ (x : List ℕ). array_words shape x) lengths)

  pub same_made : arrays_made (first_shape mid ds) (counts_in ds) (named mid) ≡ arrays_made shape counts (named old)
  same_made = made_first mid shape ds (named mid) are ∙ (ap (λ (x : List ℕ). arrays_made shape x (named mid)) lengths ∙ ap (λ (s : Isolate). arrays_made shape counts s) same)

  module _ (some : 0 < length counts) (within : words (named mid).heap.objects ≤ (named mid).heap.size) where
    pub never_fails : (fault : Stop) → Ok tt ≡ has_words (array_words shape counts) (named mid) → arrays_made (first_shape mid ds) (counts_in ds) (named mid) ≡ Err fault → ⊥
    never_fails fault e f =
        let ok : IsOk (arrays_made shape counts (named mid)) = fits_by counts shape (named mid) some within e in
        let err : arrays_made shape counts (named mid) ≡ Err fault = ap (λ (s : Isolate). arrays_made shape counts s) same ∙ (sym same_made ∙ f) in
        let k = rw err at ok in absurd cc

    pub words_missing : (fault : Stop) → Err fault ≡ has_words (array_words shape counts) (named mid) → arrays_made shape counts (named old) ≡ Err fault
    words_missing fault e = ap (λ (s : Isolate). arrays_made shape counts s) (sym same) ∙ lacks_by counts shape (named mid) fault some within e
