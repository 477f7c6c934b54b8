-- The operands of a line, read again as they are written: once for each way of putting them together.
use Rattle.std.proofs.Common.{◌≡◌, true, List, [], ◌∷◌, ◌++◌, Some, refl, ap, ◌∙◌}
use Rattle.std.specs.Prelude.{option_map}
use Rattle.std.specs.List.{list_all}
use Rattle.mvm_statement.specs.Tokens.{is_writable}
use Rattle.mvm_statement.specs.Operands.{Kind, number, place, is_bare}
use Rattle.mvm_statement.specs.Lines.{Operands, nothing, one, two, three, four, targets, rows, before_default, places_in, rows_in, spelled_places, spelled_rows, spelled_default, is_good_row, default_word}
use Rattle.mvm_statement.specs.declared.token.Token.{Token}
use Rattle.mvm_statement.specs.declared.operand.Place.{Place}
use Rattle.mvm_statement.specs.declared.operand.KeyRow.{KeyRow}
use Rattle.mvm_statement.proofs.Tests.{both, and_again}
use Rattle.mvm_statement.proofs.OperandsBack.{Back, number_back, place_back}

-- values that can be written are read again
pub record Again {A : Type 0} (F : Operands A) : Type 0 where
  pub read : (x : A) → F.is_good x ≡ true → F.read (F.spelled x) ≡ Some x
  pub written : (x : A) → F.is_good x ≡ true → list_all is_writable (F.spelled x) ≡ true

-- ---- operands of a token each

pub nothing_again : Again nothing
nothing_again = record { read = λ x h. refl; written = λ x h. refl }

pub one_again : {A : Type 0} (F : Kind A) → Back F → Again (one F)
one_again F f = record {
  read = λ x h. f.read x h;
  written = λ x h. rw (f.written x h) refl;
}

pub two_again : {A B : Type 0} (F : Kind A) (G : Kind B) → Back F → Back G → Again (two F G)
two_again F G f g = record {
  read = λ x h. (let a = both (F.is_good x.0) _ h in rw (f.read x.0 a.0, g.read x.1 a.1) refl);
  written = λ x h. (let a = both (F.is_good x.0) _ h in rw (f.written x.0 a.0, g.written x.1 a.1) refl);
}

pub three_again : {A B C : Type 0} (F : Kind A) (G : Kind B) (H : Kind C) → Back F → Back G → Back H → Again (three F G H)
three_again F G H f g k = record {
  read = λ x h. (
      let a = both (F.is_good x.0) _ h in
      let b = both (G.is_good x.1.0) _ a.1 in
      rw (f.read x.0 a.0, g.read x.1.0 b.0, k.read x.1.1 b.1) refl);
  written = λ x h. (
      let a = both (F.is_good x.0) _ h in
      let b = both (G.is_good x.1.0) _ a.1 in
      rw (f.written x.0 a.0, g.written x.1.0 b.0, k.written x.1.1 b.1) refl);
}

pub four_again : {A B C D : Type 0} (F : Kind A) (G : Kind B) (H : Kind C) (K : Kind D) → Back F → Back G → Back H → Back K → Again (four F G H K)
four_again F G H K f g k l = record {
  read = λ x h. (
      let a = both (F.is_good x.0) _ h in
      let b = both (G.is_good x.1.0) _ a.1 in
      let c = both (H.is_good x.1.1.0) _ b.1 in
      rw (f.read x.0 a.0, g.read x.1.0 b.0, k.read x.1.1.0 c.0, l.read x.1.1.1 c.1) refl);
  written = λ x h. (
      let a = both (F.is_good x.0) _ h in
      let b = both (G.is_good x.1.0) _ a.1 in
      let c = both (H.is_good x.1.1.0) _ b.1 in
      rw (f.written x.0 a.0, g.written x.1.0 b.0, k.written x.1.1.0 c.0, l.written x.1.1.1 c.1) refl);
}

-- ---- the rows of a switch

more_before : (t u v : Token) (ts : List Token) → before_default (t ∷ (u ∷ (v ∷ ts))) ≡ option_map (λ x. (t ∷ x.0, x.1)) (before_default (u ∷ (v ∷ ts)))
more_before t u v ts = refl

-- what stands before `default PLACE`
pub before_back : (front : List Token) (w p : Token) → is_bare default_word w ≡ true → before_default (front ++ w ∷ p ∷ []) ≡ Some (front, p)
before_back [] w p h = rw h refl
before_back (t ∷ []) w p h = rw h refl
before_back (t ∷ (u ∷ [])) w p h = rw h refl
before_back (t ∷ (u ∷ (v ∷ front))) w p h =
    more_before t u v (front ++ w ∷ p ∷ []) ∙ ap (option_map (λ (x : List Token × Token). (t ∷ x.0, x.1))) (before_back (u ∷ (v ∷ front)) w p h)

places_back : (xs : List Place) → list_all place.is_good xs ≡ true → places_in (spelled_places xs) ≡ Some xs
places_back [] h = refl
places_back (x ∷ xs) h = let a = both (place.is_good x) _ h in rw (place_back.read x a.0, places_back xs a.1) refl

places_written : (xs : List Place) → list_all place.is_good xs ≡ true → list_all is_writable (spelled_places xs) ≡ true
places_written [] h = refl
places_written (x ∷ xs) h = let a = both (place.is_good x) _ h in and_again _ _ (place_back.written x a.0) (places_written xs a.1)

rows_back : (xs : List KeyRow) → list_all is_good_row xs ≡ true → rows_in (spelled_rows xs) ≡ Some xs
rows_back [] h = refl
rows_back (x ∷ xs) h =
    let a = both (is_good_row x) _ h in
    let b = both (number.is_good x.key) _ a.0 in
    rw (number_back.read x.key b.0, place_back.read x.target b.1, rows_back xs a.1) refl

rows_written : (xs : List KeyRow) → list_all is_good_row xs ≡ true → list_all is_writable (spelled_rows xs) ≡ true
rows_written [] h = refl
rows_written (x ∷ xs) h =
    let a = both (is_good_row x) _ h in
    let b = both (number.is_good x.key) _ a.0 in
    and_again _ _ (number_back.written x.key b.0) (and_again _ _ (place_back.written x.target b.1) (rows_written xs a.1))

default_written : (x : Place) → place.is_good x ≡ true → list_all is_writable (spelled_default x) ≡ true
default_written x h = rw (place_back.written x h) refl

pub all_again : (xs ys : List Token) → list_all is_writable xs ≡ true → list_all is_writable ys ≡ true → list_all is_writable (xs ++ ys) ≡ true
all_again [] ys p q = q
all_again (x ∷ xs) ys p q = let a = both (is_writable x) _ p in and_again _ _ a.0 (all_again xs ys a.1 q)

pub targets_again : Again targets
targets_again = record {
  read = λ x h. (
      let a = both (list_all place.is_good x.0) _ h in
      rw (before_back (spelled_places x.0) _ (place.spelled x.1) refl, places_back x.0 a.0, place_back.read x.1 a.1) refl);
  written = λ x h. (
      let a = both (list_all place.is_good x.0) _ h in
      all_again (spelled_places x.0) (spelled_default x.1) (places_written x.0 a.0) (default_written x.1 a.1));
}

pub rows_again : Again rows
rows_again = record {
  read = λ x h. (
      let a = both (list_all is_good_row x.0) _ h in
      rw (before_back (spelled_rows x.0) _ (place.spelled x.1) refl, rows_back x.0 a.0, place_back.read x.1 a.1) refl);
  written = λ x h. (
      let a = both (list_all is_good_row x.0) _ h in
      all_again (spelled_rows x.0) (spelled_default x.1) (rows_written x.0 a.0) (default_written x.1 a.1));
}
