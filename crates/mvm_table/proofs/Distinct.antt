-- Equal bytes are kept once.
use Rattle.std.proofs.Common.{◌≡◌, ℕ, ◌+◌, ◌<◌, ◌≤◌, ◌^◌, zero, suc, Bool, true, false, cond, List, [], ◌∷◌, length, map, drop, Option, Some, None, refl, sym, ap, subst, ◌∙◌, inl, inr, arith}
use Rattle.std.specs.Prelude.{◌==◌, ◌⊎◌, nat_lt, slice_get, slice_set, slice_index, slice_index_or}
use Rattle.std.specs.Option.{option_map}
use Rattle.std.specs.Str.{bytes_eq}
use Rattle.std.proofs.lemmas.Bool.Decides.{nat_tests, Decides-eqb}
use Rattle.std.proofs.lemmas.Option.{slice_get-map, slice_get_within, get_or_from_slice_get}
use Rattle.std.proofs.lemmas.Slice.Eq.{bytes_eq-Decides}
use Rattle.mvm_table.specs.Contents.{AreShort}
use Rattle.mvm_table.specs.Files.{bytes_in, bytes_at}
use Rattle.mvm_table.specs.Sources.{place_from, or_zero, first_of, no_bytes, left, AreLeft, AreApart, or_no_bytes, told}
use Rattle.mvm_table.specs.declared.source.SourceRow.{SourceRow}

-- ---- places

pub record Found (at : ℕ) (bytes : List ℕ) (sources : List SourceRow) : Type 0 where
  pub place : ℕ
  pub source : SourceRow
  pub is : place_from at bytes sources ≡ Some (at + place)
  pub stands : slice_get sources place ≡ Some source
  pub same : source.bytes ≡ bytes

found_here : (at : ℕ) (source : SourceRow) (sources : List SourceRow) (bytes : List ℕ) → bytes_eq source.bytes bytes ≡ true → Found at bytes (source ∷ sources)
found_here at source sources bytes e = record {
  place = 0;
  source = source;
  is = rw e (ap Some (omega arith));
  stands = refl;
  same = (bytes_eq-Decides source.bytes bytes).0 e;
}

found_later : (at : ℕ) (source : SourceRow) (sources : List SourceRow) (bytes : List ℕ) → Found (at + 1) bytes sources → Found at bytes (source ∷ sources)
found_later at source sources bytes f = by (bytes_eq source.bytes bytes) refl
  where
    by : (b : Bool) → bytes_eq source.bytes bytes ≡ b → Found at bytes (source ∷ sources)
    by true e = found_here at source sources bytes e
    by false e = record {
      place = suc f.place;
      source = f.source;
      is = rw e (f.is ∙ ap Some (omega arith));
      stands = f.stands;
      same = f.same;
    }

-- the bytes of one of the sources have a place
found : (at : ℕ) (sources : List SourceRow) (i : ℕ) (row : SourceRow) → slice_get sources i ≡ Some row → Found at row.bytes sources
found at [] i row e = absurd cc
found at (source ∷ sources) zero row e =
    let same : source ≡ row = cc in
    found_here at source sources row.bytes ((bytes_eq-Decides source.bytes row.bytes).1 (ap (λ (one : SourceRow). one.bytes) same))
found at (source ∷ sources) (suc i) row e = found_later at source sources row.bytes (found (at + 1) sources i row e)

first_by_bytes : (sources : List SourceRow) (one other : SourceRow) → one.bytes ≡ other.bytes → first_of sources one ≡ first_of sources other
first_by_bytes sources one other e = ap (λ (bytes : List ℕ). or_zero (place_from 0 bytes sources)) e

-- ---- what is told is what was handed in

same_items : {A : Type 0} (xs ys : List A) → ((i : ℕ) → slice_get xs i ≡ slice_get ys i) → xs ≡ ys
same_items [] [] e = refl
same_items [] (y ∷ ys) e = let h : None ≡ Some y = e 0 in absurd cc
same_items (x ∷ xs) [] e = let h : Some x ≡ None = e 0 in absurd cc
same_items (x ∷ xs) (y ∷ ys) e =
    let here : Some x ≡ Some y = e 0 in
    let rest : xs ≡ ys = same_items xs ys (λ i. e (suc i)) in cc

abbrev with_bytes : List ℕ → SourceRow
with_bytes bytes = record { bytes = bytes }

same_source : (one other : SourceRow) → one.bytes ≡ other.bytes → one ≡ other
same_source one other e = ap with_bytes e

source_first : (sources rows : List SourceRow) → AreLeft sources rows → (i : ℕ) (row : SourceRow) → slice_get sources i ≡ Some row → or_no_bytes (slice_get rows (first_of sources row)) ≡ row
source_first sources rows are i row e =
    let f = found 0 sources i row e in
    let first : first_of sources row ≡ f.place = ap or_zero f.is ∙ omega arith in
    let other : first_of sources f.source ≡ f.place = first_by_bytes sources f.source row f.same ∙ first in
    let test : (first_of sources f.source == f.place) ≡ true = (Decides-eqb (first_of sources f.source) f.place).1 other in
    ap (λ (place : ℕ). or_no_bytes (slice_get rows place)) first
    ∙ ap or_no_bytes (are f.place ∙ ap (option_map (left sources f.place)) f.stands)
    ∙ ap (λ (b : Bool). cond b f.source no_bytes) test
    ∙ same_source f.source row f.same

pub told_all : (sources rows : List SourceRow) (firsts : List ℕ) → AreLeft sources rows → firsts ≡ map (first_of sources) sources → told rows firsts ≡ sources
told_all sources rows firsts are e =
    ap (told rows) e
    ∙ same_items (told rows (map (first_of sources) sources)) sources
    (λ i. slice_get-map (λ first. or_no_bytes (slice_get rows first)) (map (first_of sources) sources) i
    ∙ ap (option_map (λ first. or_no_bytes (slice_get rows first))) (slice_get-map (first_of sources) sources i)
    ∙ by i (slice_get sources i) refl)
  where
    by : (i : ℕ) (row : Option SourceRow) → slice_get sources i ≡ row → option_map (λ first. or_no_bytes (slice_get rows first)) (option_map (first_of sources) row) ≡ row
    by i None g = refl
    by i (Some row) g = ap Some (source_first sources rows are i row g)

-- ---- no two are equal

record Stays (sources : List SourceRow) (place : ℕ) (one : SourceRow) : Type 0 where
  source : SourceRow
  same : source.bytes ≡ one.bytes
  first : first_of sources source ≡ place

stays : (sources : List SourceRow) (place : ℕ) (found : Option SourceRow) (one : SourceRow) → option_map (left sources place) found ≡ Some one → (one.bytes ≡ []) ⊎ Stays sources place one
stays sources place None one e = absurd cc
stays sources place (Some source) one e = by (first_of sources source == place) refl e
  where
    by : (b : Bool) → (first_of sources source == place) ≡ b → Some (cond b source no_bytes) ≡ Some one → (one.bytes ≡ []) ⊎ Stays sources place one
    by true t f =
        let same : source ≡ one = cc in
        inr (record { source = source; same = ap (λ (row : SourceRow). row.bytes) same; first = (Decides-eqb (first_of sources source) place).0 t })
    by false t f =
        let same : no_bytes ≡ one = cc in
        inl (sym (ap (λ (row : SourceRow). row.bytes) same))

pub are_apart : (sources rows : List SourceRow) → AreLeft sources rows → AreApart rows
are_apart sources rows are i j one other e f same =
    by (stays sources i (slice_get sources i) one (sym (are i) ∙ e)) (stays sources j (slice_get sources j) other (sym (are j) ∙ f))
  where
    by : (one.bytes ≡ []) ⊎ Stays sources i one → (other.bytes ≡ []) ⊎ Stays sources j other → (one.bytes ≡ []) ⊎ (i ≡ j)
    by (inl none) right = inl none
    by (inr kept) (inl none) = inl (same ∙ none)
    by (inr kept) (inr others) =
        inr (sym kept.first ∙ first_by_bytes sources kept.source others.source (kept.same ∙ same ∙ sym others.same) ∙ others.first)

-- ---- later ones are emptied

-- the sources below a place are as they will be
abbrev pub emptied_to : ℕ → List SourceRow → ℕ → Option SourceRow
emptied_to i sources place = cond (nat_lt place i) (option_map (left sources place) (slice_get sources place)) (slice_get sources place)

set_here : {A : Type 0} (xs : List A) (i : ℕ) (x y : A) → slice_get xs i ≡ Some x → slice_get (slice_set xs i y) i ≡ Some y
set_here [] i x y e = absurd cc
set_here (z ∷ xs) zero x y e = refl
set_here (z ∷ xs) (suc i) x y e = set_here xs i x y e

set_apart : {A : Type 0} (xs : List A) (i k : ℕ) (y : A) → (k == i) ≡ false → slice_get (slice_set xs i y) k ≡ slice_get xs k
set_apart [] i k y e = refl
set_apart (z ∷ xs) zero zero y e = absurd cc
set_apart (z ∷ xs) zero (suc k) y e = refl
set_apart (z ∷ xs) (suc i) zero y e = refl
set_apart (z ∷ xs) (suc i) (suc k) y e = set_apart xs i k y (grind (arith, nat_tests))

index_of_map : {A : Type 0} (f : A → ℕ) (xs : List A) (i : ℕ) (x : A) → slice_get xs i ≡ Some x → slice_index (map f xs) i ≡ f x
index_of_map f [] i x e = absurd cc
index_of_map f (z ∷ xs) zero x e = let same : z ≡ x = cc in ap f same
index_of_map f (z ∷ xs) (suc i) x e = index_of_map f xs i x e

item_at : {A : Type 0} (xs : List A) (i : ℕ) → i < length xs → (x : A) × (slice_get xs i ≡ Some x)
item_at [] i h = absurd (omega arith)
item_at (x ∷ xs) zero h = (x, refl)
item_at (x ∷ xs) (suc i) h = item_at xs i (omega arith)

module _ (sources rows new : List SourceRow) (i first : ℕ) (row : SourceRow) (stands : slice_get sources i ≡ Some row) (is_first : first ≡ first_of sources row)
    (so_far : (place : ℕ) → slice_get rows place ≡ emptied_to i sources place) (e : new ≡ cond (first == i) rows (slice_set rows i no_bytes)) where
  here : slice_get new i ≡ option_map (left sources i) (slice_get sources i)
  here =
      let below : nat_lt i i ≡ false = grind (arith, nat_tests) in
      let old : slice_get rows i ≡ Some row = so_far i ∙ rw below stands in
      let goal : slice_get new i ≡ Some (cond (first_of sources row == i) row no_bytes) = by (first == i) refl old in
      goal ∙ sym (ap (option_map (left sources i)) stands)
    where
      by : (b : Bool) → (first == i) ≡ b → slice_get rows i ≡ Some row → slice_get new i ≡ Some (cond (first_of sources row == i) row no_bytes)
      by true t old =
          let test : (first_of sources row == i) ≡ true = ap (λ n. n == i) (sym is_first) ∙ t in
          rw test (ap (λ (list : List SourceRow). slice_get list i) (e ∙ ap (λ b. cond b rows (slice_set rows i no_bytes)) t) ∙ old)
      by false t old =
          let test : (first_of sources row == i) ≡ false = ap (λ n. n == i) (sym is_first) ∙ t in
          rw test (ap (λ (list : List SourceRow). slice_get list i) (e ∙ ap (λ b. cond b rows (slice_set rows i no_bytes)) t) ∙ set_here rows i row no_bytes old)

  elsewhere : (place : ℕ) → (place == i) ≡ false → slice_get new place ≡ slice_get rows place
  elsewhere place n = by (first == i) refl
    where
      by : (b : Bool) → (first == i) ≡ b → slice_get new place ≡ slice_get rows place
      by true t = ap (λ (list : List SourceRow). slice_get list place) (e ∙ ap (λ b. cond b rows (slice_set rows i no_bytes)) t)
      by false t = ap (λ (list : List SourceRow). slice_get list place) (e ∙ ap (λ b. cond b rows (slice_set rows i no_bytes)) t) ∙ set_apart rows i place no_bytes n

  one_more : (place : ℕ) → slice_get new place ≡ emptied_to (i + 1) sources place
  one_more place = by (place == i) refl
    where
      by : (b : Bool) → (place == i) ≡ b → slice_get new place ≡ emptied_to (i + 1) sources place
      by true t =
          let same : place ≡ i = (Decides-eqb place i).0 t in
          let below : nat_lt i (i + 1) ≡ true = grind (arith, nat_tests) in
          subst (λ (n : ℕ). slice_get new n ≡ emptied_to (i + 1) sources n) (sym same) (rw below here)
      by false t =
          let below : nat_lt place (i + 1) ≡ nat_lt place i = grind (arith, nat_tests) in
          elsewhere place t ∙ so_far place ∙ sym (ap (λ b. cond b (option_map (left sources place) (slice_get sources place)) (slice_get sources place)) below)

pub emptied_more : (sources rows new : List SourceRow) (i : ℕ) → i < length sources → ((place : ℕ) → slice_get rows place ≡ emptied_to i sources place)
    → new ≡ cond (slice_index (map (first_of sources) sources) i == i) rows (slice_set rows i no_bytes) → (place : ℕ) → slice_get new place ≡ emptied_to (i + 1) sources place
emptied_more sources rows new i less so_far e =
    let at = item_at sources i less in
    one_more sources rows new i (slice_index (map (first_of sources) sources) i) at.0 at.1 (index_of_map (first_of sources) sources i at.0 at.1) so_far e

length_set : (rows : List SourceRow) (i : ℕ) (row : SourceRow) → length (slice_set rows i row) ≡ length rows
length_set [] i row = refl
length_set (x ∷ rows) zero row = refl
length_set (x ∷ rows) (suc i) row = ap suc (length_set rows i row)

pub emptied_length : (rows new : List SourceRow) (i : ℕ) (b : Bool) → new ≡ cond b rows (slice_set rows i no_bytes) → length new ≡ length rows
emptied_length rows new i true e = ap length e
emptied_length rows new i false e = ap length e ∙ length_set rows i no_bytes

pub length_map : {A B : Type 0} (f : A → B) (xs : List A) → length (map f xs) ≡ length xs
length_map f [] = refl
length_map f (x ∷ xs) = ap suc (length_map f xs)

pub emptied_all : (sources rows : List SourceRow) (i : ℕ) → length sources ≤ i → ((place : ℕ) → slice_get rows place ≡ emptied_to i sources place) → AreLeft sources rows
emptied_all sources rows i h so_far place = so_far place ∙ by (slice_get sources place) refl (nat_lt place i) refl
  where
    by : (found : Option SourceRow) → slice_get sources place ≡ found → (b : Bool) → nat_lt place i ≡ b → cond b (option_map (left sources place) found) found ≡ option_map (left sources place) found
    by None e true f = refl
    by None e false f = refl
    by (Some row) e true f = refl
    by (Some row) e false f = let less = slice_get_within sources place row e in absurd (grind (arith, nat_tests, less, f, h))

-- ---- bytes

pub bytes_by_first : (rows : List SourceRow) (firsts : List ℕ) (place : ℕ) (first : ℕ) → slice_get firsts place ≡ Some first → bytes_at (told rows firsts) place ≡ bytes_in (slice_get rows first)
bytes_by_first rows firsts place first e =
    ap bytes_in (slice_get-map (λ first. or_no_bytes (slice_get rows first)) firsts place ∙ ap (option_map (λ first. or_no_bytes (slice_get rows first))) e) ∙ by (slice_get rows first)
  where
    by : (row : Option SourceRow) → (or_no_bytes row).bytes ≡ bytes_in row
    by (Some row) = refl
    by None = refl

pub no_bytes_there : (rows : List SourceRow) (firsts : List ℕ) (place : ℕ) → slice_get firsts place ≡ None → bytes_at (told rows firsts) place ≡ []
no_bytes_there rows firsts place e =
    ap bytes_in (slice_get-map (λ first. or_no_bytes (slice_get rows first)) firsts place ∙ ap (option_map (λ first. or_no_bytes (slice_get rows first))) e)

pub short_bytes : (sources : List SourceRow) (place : ℕ) → AreShort sources → length (bytes_at sources place) < 2 ^ 32
short_bytes sources place short = by (slice_get sources place) refl
  where
    by : (row : Option SourceRow) → slice_get sources place ≡ row → length (bytes_in row) < 2 ^ 32
    by None e = omega arith
    by (Some row) e =
        let within = slice_get_within sources place row e in
        let here : slice_index_or sources place row ≡ row = get_or_from_slice_get sources place row row e in
        subst (λ (source : SourceRow). length source.bytes < 2 ^ 32) here (short place row within)

pub emptied_none : (sources : List SourceRow) (place : ℕ) → slice_get sources place ≡ emptied_to 0 sources place
emptied_none sources place =
    let below : nat_lt place 0 ≡ false = grind (arith, nat_tests) in
    sym (ap (λ b. cond b (option_map (left sources place) (slice_get sources place)) (slice_get sources place)) below)
