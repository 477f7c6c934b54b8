-- Array classes by shapes: what one more changes, and what a class object changes.
use Rattle.std.proofs.Common.{inl, inr, ◌≡◌, ℕ, zero, suc, ◌<◌, List, [], ◌∷◌, ◌++◌, length, Bool, true, false, cond, Option, Some, None, refl, sym, ap, subst, ◌∙◌, arith}
use Rattle.std.specs.Prelude.{slice_get, slice_set}
use Rattle.std.specs.Option.{option_map, option_and_then}
use Rattle.std.proofs.lemmas.List.{length-map, length-set, map_push, length_push}
use Rattle.std.proofs.lemmas.Option.{slice_get-map}
use Rattle.mvm_base.specs.declared.descriptor.FieldShape.{FieldShape}
use Rattle.mvm_mirror.specs.Arrays.{shapes_of, place_of, number_of, row_of, object_in, objects_of, changed}
use Rattle.mvm_mirror.specs.KeptArrays.{AreKept}
use Rattle.mvm_mirror.specs.Shapes.{is_shape}
use Rattle.mvm_mirror.specs.ShapeNumbers.{found, IsSound}
use Rattle.mvm_mirror.specs.declared.arrays.ArrayRow.{ArrayRow}
use Rattle.mvm_mirror.specs.declared.shape_numbers.ShapeNumbers.{ShapeNumbers}
use Rattle.mvm_mirror.proofs.Numbers.{first, later, number_or}
use Rattle.mvm_mirror.proofs.Changed.{get_set_same, get_set_other}
use Rattle.mvm_mirror.proofs.Added.{get_push, get_push_below, get_push_last}
use Rattle.mvm_mirror.proofs.SameShape.{shape_same, shape_itself}

-- ---- places

-- two shapes of one place are one shape
place_same : (s t : FieldShape) (xs : List FieldShape) (n : ℕ) → place_of s xs ≡ Some n → place_of t xs ≡ Some n → s ≡ t
place_same s t [] n e f = absurd cc
place_same s t (x ∷ xs) zero e f = shape_same s x (first _ _ e) ∙ sym (shape_same t x (first _ _ f))
place_same s t (x ∷ xs) (suc n) e f = place_same s t xs n (later _ _ n e).1 (later _ _ n f).1

place_below : (s : FieldShape) (xs : List FieldShape) (n : ℕ) → place_of s xs ≡ Some n → n < length xs
place_below s [] n e = absurd cc
place_below s (x ∷ xs) zero e = omega arith
place_below s (x ∷ xs) (suc n) e = omega (arith, place_below s xs n (later _ _ n e).1)

one_more : (r : Option ℕ) (b : Bool) (count : ℕ) → option_map suc (number_or r b count) ≡ number_or (option_map suc r) b (suc count)
one_more (Some n) b count = refl
one_more None true count = refl
one_more None false count = refl

pub place_push : (s : FieldShape) (xs : List FieldShape) (x : FieldShape) → place_of s (xs ++ x ∷ []) ≡ number_or (place_of s xs) (is_shape s x) (length xs)
place_push s [] x = by (is_shape s x)
  where
    by : (b : Bool) → cond b (Some zero) (option_map suc None) ≡ number_or None b 0
    by true = refl
    by false = refl
place_push s (y ∷ xs) x = ap (λ (r : Option ℕ). cond (is_shape s y) (Some zero) (option_map suc r)) (place_push s xs x) ∙ by (is_shape s y)
  where
    by : (b : Bool) → cond b (Some zero) (option_map suc (number_or (place_of s xs) (is_shape s x) (length xs))) ≡ number_or (cond b (Some zero) (option_map suc (place_of s xs))) (is_shape s x) (length (y ∷ xs))
    by true = refl
    by false = one_more (place_of s xs) (is_shape s x) (length xs)

-- the test the other way round
turned : (s t : FieldShape) (a b : Bool) → is_shape s t ≡ a → is_shape t s ≡ b → a ≡ b
turned s t true true e f = refl
turned s t false false e f = refl
turned s t true false e f = sym (shape_itself s) ∙ ap (λ (u : FieldShape). is_shape u s) (shape_same s t e) ∙ f
turned s t false true e f = sym e ∙ ap (λ (u : FieldShape). is_shape s u) (shape_same t s f) ∙ shape_itself s

pub shape_turned : (s t : FieldShape) → is_shape s t ≡ is_shape t s
shape_turned s t = turned s t (is_shape s t) (is_shape t s) refl refl

-- ---- one array class more

shapes_push : (rows : List ArrayRow) (row : ArrayRow) → shapes_of (rows ++ row ∷ []) ≡ shapes_of rows ++ row.shape ∷ []
shapes_push rows row = map_push (λ (r : ArrayRow). r.shape) rows row

count_is : (rows : List ArrayRow) → length (shapes_of rows) ≡ length rows
count_is rows = length-map rows (λ (r : ArrayRow). r.shape)

number_after : (rows : List ArrayRow) (row : ArrayRow) (t : FieldShape) → number_of t (rows ++ row ∷ []) ≡ number_or (number_of t rows) (is_shape t row.shape) (length rows)
number_after rows row t = ap (place_of t) (shapes_push rows row) ∙ place_push t (shapes_of rows) row.shape ∙ ap (number_or (number_of t rows) (is_shape t row.shape)) (count_is rows)

-- a row of this shape behind the others, of which none has the shape
abbrev pub made : FieldShape → ArrayRow
made s = record { shape = s; object = None }

pub number_added : (rows rows' : List ArrayRow) (s : FieldShape) (count : ℕ) → number_of s rows ≡ None → rows' ≡ rows ++ made s ∷ [] → count ≡ length rows → number_of s rows' ≡ Some count
number_added rows rows' s count new e c =
    ap (number_of s) e ∙ number_after rows (made s) s
    ∙ ap (λ (r : Option ℕ). number_or r (is_shape s s) (length rows)) new
    ∙ ap (λ (b : Bool). number_or None b (length rows)) (shape_itself s)
    ∙ ap (λ (n : ℕ). Some n) (sym c)

one_of : (b : Bool) (r : Option ℕ) (n : ℕ) → (b ≡ true → r ≡ None) → cond b (Some n) r ≡ number_or r b n
one_of true (Some k) n h = absurd (let q = h refl in cc)
one_of true None n h = refl
one_of false (Some k) n h = refl
one_of false None n h = refl

numbers_after : (old new : FieldShape → Option ℕ) (rows : List ArrayRow) (s : FieldShape) → number_of s rows ≡ None → ((t : FieldShape) → old t ≡ number_of t rows)
    → ((t : FieldShape) → new t ≡ cond (is_shape s t) (Some (length rows)) (old t)) → (t : FieldShape) → new t ≡ number_of t (rows ++ made s ∷ [])
numbers_after old new rows s none kept updates t =
    updates t
    ∙ ap (cond (is_shape s t) (Some (length rows))) (kept t)
    ∙ one_of (is_shape s t) (number_of t rows) (length rows) (λ q. subst (λ (u : FieldShape). number_of u rows ≡ None) (shape_same s t q) none)
    ∙ ap (λ (b : Bool). number_or (number_of t rows) b (length rows)) (shape_turned s t)
    ∙ sym (number_after rows (made s) t)

own_after : (rows : List ArrayRow) (s : FieldShape) → number_of s rows ≡ None → ((n : ℕ) (t : FieldShape) → slice_get (shapes_of rows) n ≡ Some t → number_of t rows ≡ Some n)
    → (n : ℕ) (t : FieldShape) → slice_get (shapes_of (rows ++ made s ∷ [])) n ≡ Some t → number_of t (rows ++ made s ∷ []) ≡ Some n
own_after rows s none own n t e =
    elim (get_push (shapes_of rows) s t n (subst (λ (xs : List FieldShape). slice_get xs n ≡ Some t) (shapes_push rows (made s)) e)) [
      | inl h ↦ number_after rows (made s) t ∙ ap (λ (r : Option ℕ). number_or r (is_shape t s) (length rows)) (own n t h)
      | inr h ↦ subst (λ (u : FieldShape). number_of u (rows ++ made s ∷ []) ≡ Some n) h.0 (number_added rows (rows ++ made s ∷ []) s n none refl (sym h.1 ∙ count_is rows))
    ]

pub kept_push : (old new : ShapeNumbers) (rows rows' : List ArrayRow) (s : FieldShape) (count : ℕ) → AreKept old rows → number_of s rows ≡ None → rows' ≡ rows ++ made s ∷ [] → count ≡ length rows
    → length rows < 4294967295 → ((t : FieldShape) → found new t ≡ cond (is_shape s t) (Some count) (found old t)) → IsSound new → AreKept new rows'
kept_push old new rows rows' s count kept none e c l updates sound =
    let by_length : (t : FieldShape) → found new t ≡ cond (is_shape s t) (Some (length rows)) (found old t) = λ t. updates t ∙ ap (λ (n : ℕ). cond (is_shape s t) (Some n) (found old t)) c in
    subst (AreKept new) (sym e) (record {
      sound = sound;
      numbers = numbers_after (found old) (found new) rows s none kept.numbers by_length;
      own = own_after rows s none kept.own;
      few = omega (arith, l, length_push rows (made s));
    })

pub objects_push : (rows rows' : List ArrayRow) (s : FieldShape) → rows' ≡ rows ++ made s ∷ [] → objects_of rows' ≡ objects_of rows
unfolding objects_of
objects_push rows rows' s e = ap objects_of e ∙ (λ j. λ t. at_each t j)
  where
    at_each : (t : FieldShape) → object_in (row_of t (rows ++ made s ∷ [])) ≡ object_in (row_of t rows)
    at_each t =
        ap (λ (r : Option ℕ). object_in (option_and_then (slice_get (rows ++ made s ∷ [])) r)) (number_after rows (made s) t)
        ∙ by (number_of t rows) (is_shape t s) refl
      where
        by : (r : Option ℕ) (b : Bool) → number_of t rows ≡ r → object_in (option_and_then (slice_get (rows ++ made s ∷ [])) (number_or r b (length rows))) ≡ object_in (option_and_then (slice_get rows) r)
        by (Some k) b h = ap object_in (get_push_below rows (made s) k (omega (arith, count_is rows, place_below t (shapes_of rows) k h)))
        by None true h = ap object_in (get_push_last rows (made s))
        by None false h = refl

-- ---- a class object

shapes_set : (rows : List ArrayRow) (n : ℕ) (row row' : ArrayRow) → slice_get rows n ≡ Some row → row'.shape ≡ row.shape → shapes_of (slice_set rows n row') ≡ shapes_of rows
shapes_set [] n row row' e c = refl
shapes_set (x ∷ rows) zero row row' e c = let k : x ≡ row = cc in ap (λ (s : FieldShape). s ∷ shapes_of rows) (c ∙ sym (ap (λ (r : ArrayRow). r.shape) k))
shapes_set (x ∷ rows) (suc n) row row' e c = ap (λ (xs : List FieldShape). x.shape ∷ xs) (shapes_set rows n row row' e c)

abbrev with_object : ArrayRow → ℕ → ArrayRow
with_object row object = record row { object = Some object }

pub shapes_stay : (rows rows' : List ArrayRow) (n object : ℕ) (row : ArrayRow) → slice_get rows n ≡ Some row → rows' ≡ slice_set rows n (record row { object = Some object }) → shapes_of rows' ≡ shapes_of rows
shapes_stay rows rows' n object row e c = ap shapes_of c ∙ shapes_set rows n row (with_object row object) e refl

pub object_set : (rows rows' : List ArrayRow) (n object : ℕ) (row : ArrayRow) → slice_get rows n ≡ Some row → rows' ≡ slice_set rows n (record row { object = Some object })
    → (s : FieldShape) → number_of s rows ≡ Some n → objects_of rows' ≡ changed s (Some object) (objects_of rows)
unfolding objects_of
object_set rows rows' n object row e c s h = λ j. λ t. at_each t j
  where
    at_each : (t : FieldShape) → object_in (row_of t rows') ≡ cond (is_shape s t) (Some object) (object_in (row_of t rows))
    at_each t =
        ap (λ (r : Option ℕ). object_in (option_and_then (slice_get rows') r)) (ap (place_of t) (shapes_stay rows rows' n object row e c))
        ∙ ap (λ (rs : List ArrayRow). object_in (option_and_then (slice_get rs) (number_of t rows))) c
        ∙ by (is_shape s t) (number_of t rows) refl refl
      where
        by : (b : Bool) (r : Option ℕ) → is_shape s t ≡ b → number_of t rows ≡ r
            → object_in (option_and_then (slice_get (slice_set rows n (with_object row object))) r) ≡ cond b (Some object) (object_in (option_and_then (slice_get rows) r))
        by true r q g =
            let there : number_of t rows ≡ Some n = subst (λ (u : FieldShape). number_of u rows ≡ Some n) (shape_same s t q) h in
            ap (λ (o : Option ℕ). object_in (option_and_then (slice_get (slice_set rows n (with_object row object))) o)) (sym g ∙ there)
            ∙ ap object_in (get_set_same rows n (with_object row object) row e)
        by false None q g = refl
        by false (Some k) q g =
            let other : k ≡ n → ⊥ = λ i.
            (let same : s ≡ t = place_same s t (shapes_of rows) n h (g ∙ ap (λ (m : ℕ). Some m) i) in
            let yes : is_shape s t ≡ true = ap (is_shape s) (sym same) ∙ shape_itself s in absurd cc) in
            ap object_in (get_set_other rows n k (with_object row object) other)

pub kept_set : (maps : ShapeNumbers) (rows rows' : List ArrayRow) (n object : ℕ) (row : ArrayRow) → AreKept maps rows → slice_get rows n ≡ Some row → rows' ≡ slice_set rows n (record row { object = Some object }) → AreKept maps rows'
kept_set maps rows rows' n object row kept e c =
    let same : shapes_of rows' ≡ shapes_of rows = shapes_stay rows rows' n object row e c in
    record {
      sound = kept.sound;
      numbers = λ s. kept.numbers s ∙ ap (place_of s) (sym same);
      own = subst (λ (xs : List FieldShape). (m : ℕ) (s : FieldShape) → slice_get xs m ≡ Some s → place_of s xs ≡ Some m) (sym same) kept.own;
      few = omega (arith, kept.few, ap length c, length-set rows n (with_object row object));
    }

-- ---- reading

pub shape_at : (rows : List ArrayRow) (n : ℕ) (row : ArrayRow) → slice_get rows n ≡ Some row → slice_get (shapes_of rows) n ≡ Some row.shape
shape_at rows n row e = slice_get-map (λ (r : ArrayRow). r.shape) rows n ∙ ap (option_map (λ (r : ArrayRow). r.shape)) e

pub object_is : (rows : List ArrayRow) (n : ℕ) (row : ArrayRow) (s : FieldShape) → slice_get rows n ≡ Some row → number_of s rows ≡ Some n → row.object ≡ objects_of rows s
unfolding objects_of
object_is rows n row s e h = sym (ap (λ (r : Option ℕ). object_in (option_and_then (slice_get rows) r)) h ∙ ap object_in e)
