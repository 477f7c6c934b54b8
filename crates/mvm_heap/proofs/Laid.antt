-- All objects in the words: one more at the end, and one of them changed.
use Rattle.std.proofs.Common.{◌≡◌, ℕ, zero, suc, ◌+◌, ◌*◌, ◌<◌, ◌≤◌, List, [], ◌∷◌, ◌++◌, length, get_or, set, map, Some, refl, ap, sym, subst, ◌∙◌, arith}
use Rattle.std.specs.Prelude.{slice_get}
use Rattle.mvm_heap.specs.Heap.{words, words_of, object_at}
use Rattle.mvm_heap.specs.Sorts.{words_needed}
use Rattle.mvm_heap.specs.Packed.{word_at, sort_in, length_in, object_in, words_in, Laid}
use Rattle.mvm_heap.proofs.Blocks.{two_at_least, SameBlock, words_same, contents_length}

-- what is read of an object from its own words alone
abbrev pub IsLocal : {X : Type 0} → (List ℕ → ℕ → X) → Type 0
IsLocal f = (ws ws' : List ℕ) (at : ℕ) → SameBlock ws ws' at → f ws' at ≡ f ws at

abbrev pub SameBelow : List ℕ → List ℕ → ℕ → Type 0
SameBelow ws ws' end = (k : ℕ) → k < end → word_at ws' k ≡ word_at ws k

abbrev pub SameFrom : List ℕ → List ℕ → ℕ → Type 0
SameFrom ws ws' start = (k : ℕ) → start ≤ k → word_at ws' k ≡ word_at ws k

abbrev pub SameWithin : List ℕ → List ℕ → ℕ → ℕ → Type 0
SameWithin ws ws' start end = (k : ℕ) → start ≤ k → k < end → word_at ws' k ≡ word_at ws k

pub two : (ws : List ℕ) (at : ℕ) → 2 ≤ words_in ws at
two ws at = two_at_least (sort_in ws at) (length_in ws at)

-- ---- where objects stand

pub laid_end : (ws : List ℕ) (from : ℕ) (ds : List ℕ) (to : ℕ) → Laid ws from ds to → from + 2 * length ds ≤ to
laid_end ws from [] to l = omega (arith, l)
laid_end ws from (d ∷ ds) to l = omega (arith, two ws d, laid_end ws (from + words_in ws d) ds to l.1)

pub laid_start : (ws : List ℕ) (from : ℕ) (ds : List ℕ) (to n at : ℕ) → Laid ws from ds to → slice_get ds n ≡ Some at → from ≤ at
laid_start ws from [] to n at l e = absurd cc
laid_start ws from (d ∷ ds) to zero at l e = let k : d ≡ at = cc in omega (arith, k, l.0)
laid_start ws from (d ∷ ds) to (suc n) at l e = omega (arith, laid_start ws (from + words_in ws d) ds to n at l.1 e)

pub block_within : (ws : List ℕ) (from : ℕ) (ds : List ℕ) (to n at : ℕ) → Laid ws from ds to → slice_get ds n ≡ Some at → at + words_in ws at ≤ to
block_within ws from [] to n at l e = absurd cc
block_within ws from (d ∷ ds) to zero at l e =
    let k : d ≡ at = cc in
    subst (λ (x : ℕ). x + words_in ws x ≤ to) k (omega (arith, l.0, laid_end ws (from + words_in ws d) ds to l.1))
block_within ws from (d ∷ ds) to (suc n) at l e = block_within ws (from + words_in ws d) ds to n at l.1 e

pub laid_push : (ws : List ℕ) (from : ℕ) (ds : List ℕ) (to : ℕ) → Laid ws from ds to → Laid ws from (ds ++ to ∷ []) (to + words_in ws to)
laid_push ws from [] to l = (sym l, ap (λ (n : ℕ). n + words_in ws to) l)
laid_push ws from (d ∷ ds) to l = (l.0, laid_push ws (from + words_in ws d) ds to l.1)

words_at : (ws : List ℕ) (at : ℕ) → words_of (object_in ws at) ≡ words_in ws at
words_at ws at = ap (words_needed (sort_in ws at)) (contents_length ws at)

pub words_are : (ws : List ℕ) (from : ℕ) (ds : List ℕ) (to : ℕ) → Laid ws from ds to → from + words (map (object_in ws) ds) ≡ to
unfolding words
words_are ws from [] to l = omega (arith, l)
words_are ws from (d ∷ ds) to l = omega (arith, words_at ws d, words_are ws (from + words_in ws d) ds to l.1)

-- ---- other words are the same

same_first : (ws ws' : List ℕ) (from d : ℕ) (ds : List ℕ) (to : ℕ) → Laid ws from (d ∷ ds) to → SameWithin ws ws' from to → SameBlock ws ws' d
same_first ws ws' from d ds to l h = λ k a b. h k (omega (arith, a, l.0)) (omega (arith, b, l.0, laid_end ws (from + words_in ws d) ds to l.1))

pub laid_same : (ws ws' : List ℕ) (from : ℕ) (ds : List ℕ) (to : ℕ) → Laid ws from ds to → SameWithin ws ws' from to → Laid ws' from ds to
laid_same ws ws' from [] to l h = l
laid_same ws ws' from (d ∷ ds) to l h = (
  l.0,
  subst (λ (m : ℕ). Laid ws' (from + m) ds to) (sym (words_same ws ws' d (same_first ws ws' from d ds to l h)))
      (laid_same ws ws' (from + words_in ws d) ds to l.1 (λ k a b. h k (omega (arith, a)) b)),
)

pub map_same : {X : Type 0} (f : List ℕ → ℕ → X) (ws ws' : List ℕ) (from : ℕ) (ds : List ℕ) (to : ℕ) → IsLocal f → Laid ws from ds to → SameWithin ws ws' from to → map (f ws') ds ≡ map (f ws) ds
map_same f ws ws' from [] to o l h = refl
map_same {X = X} f ws ws' from (d ∷ ds) to o l h =
    ap (λ (x : X). x ∷ map (f ws') ds) (o ws ws' d (same_first ws ws' from d ds to l h))
    ∙ ap (λ (xs : List X). f ws d ∷ xs) (map_same f ws ws' (from + words_in ws d) ds to o l.1 (λ k a b. h k (omega (arith, a)) b))

-- ---- one object is changed

pub laid_changed : (ws ws' : List ℕ) (from : ℕ) (ds : List ℕ) (to n at : ℕ) → Laid ws from ds to → slice_get ds n ≡ Some at → SameBelow ws ws' at → SameFrom ws ws' (at + words_in ws at)
    → words_in ws' at ≡ words_in ws at → Laid ws' from ds to
laid_changed ws ws' from [] to n at l e b a w = absurd cc
laid_changed ws ws' from (d ∷ ds) to zero at l e b a w =
    let k : at ≡ d = sym cc in
    let w' : words_in ws' d ≡ words_in ws d = subst (λ (x : ℕ). words_in ws' x ≡ words_in ws x) k w in
    let a' : SameFrom ws ws' (d + words_in ws d) = subst (λ (x : ℕ). SameFrom ws ws' (x + words_in ws x)) k a in
    (l.0, subst (λ (m : ℕ). Laid ws' (from + m) ds to) (sym w') (laid_same ws ws' (from + words_in ws d) ds to l.1 (λ q lo hi. a' q (omega (arith, lo, l.0)))))
laid_changed ws ws' from (d ∷ ds) to (suc n) at l e b a w =
    let low : from + words_in ws d ≤ at = laid_start ws (from + words_in ws d) ds to n at l.1 e in
    let same : SameBlock ws ws' d = λ q lo hi. b q (omega (arith, hi, l.0, low)) in
    (l.0, subst (λ (m : ℕ). Laid ws' (from + m) ds to) (sym (words_same ws ws' d same)) (laid_changed ws ws' (from + words_in ws d) ds to n at l.1 e b a w))

pub map_changed : {X : Type 0} (f : List ℕ → ℕ → X) (ws ws' : List ℕ) (from : ℕ) (ds : List ℕ) (to n at : ℕ) → IsLocal f → Laid ws from ds to → slice_get ds n ≡ Some at → SameBelow ws ws' at
    → SameFrom ws ws' (at + words_in ws at) → map (f ws') ds ≡ set (map (f ws) ds) n (f ws' at)
map_changed f ws ws' from [] to n at o l e b a = absurd cc
map_changed {X = X} f ws ws' from (d ∷ ds) to zero at o l e b a =
    let k : at ≡ d = sym cc in
    let a' : SameFrom ws ws' (d + words_in ws d) = subst (λ (x : ℕ). SameFrom ws ws' (x + words_in ws x)) k a in
    ap (λ (x : ℕ). f ws' x ∷ map (f ws') ds) (sym k) ∙ ap (λ (xs : List X). f ws' at ∷ xs) (map_same f ws ws' (from + words_in ws d) ds to o l.1 (λ q lo hi. a' q (omega (arith, lo, l.0))))
map_changed {X = X} f ws ws' from (d ∷ ds) to (suc n) at o l e b a =
    let low : from + words_in ws d ≤ at = laid_start ws (from + words_in ws d) ds to n at l.1 e in
    ap (λ (x : X). x ∷ map (f ws') ds) (o ws ws' d (λ q lo hi. b q (omega (arith, hi, l.0, low))))
    ∙ ap (λ (xs : List X). f ws d ∷ xs) (map_changed f ws ws' (from + words_in ws d) ds to n at o l.1 e b a)

-- ---- looking up

pub map_at : {X : Type 0} (f : ℕ → X) (ds : List ℕ) (n at : ℕ) (d : X) → slice_get ds n ≡ Some at → get_or (map f ds) n d ≡ f at
map_at f [] n at d e = absurd cc
map_at f (x ∷ ds) zero at d e = let k : x ≡ at = cc in ap f k
map_at f (x ∷ ds) (suc n) at d e = map_at f ds n at d e

pub is_there : (ws ds : List ℕ) (n place : ℕ) → place < length (object_at (map (object_in ws) ds) n).contents → n < length ds
is_there ws [] n place h = absurd (omega (arith, h))
is_there ws (d ∷ ds) zero place h = omega arith
is_there ws (d ∷ ds) (suc n) place h = omega (arith, is_there ws ds n place h)
