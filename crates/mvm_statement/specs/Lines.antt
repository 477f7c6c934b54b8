-- The operands of a line, all that stands behind its first word: how they are read, and how they are written. That the two agree is
-- proved once for each way of putting operands together.
use Rattle.std.specs.Prelude.{ℕ, List, [], ◌∷◌, ◌++◌, Bool, true, ◌&&◌, if◌then◌else◌, Option, Some, None, option_map, option_and_then, codes}
use Rattle.std.specs.List.{list_all}
use Rattle.mvm_statement.specs.Operands.{Kind, number, place, is_bare}
use Rattle.mvm_statement.specs.declared.token.Token.{Token}
use Rattle.mvm_statement.specs.declared.token.Token.TheVariants.{Bare}
use Rattle.mvm_statement.specs.declared.operand.Place.{Place}
use Rattle.mvm_statement.specs.declared.operand.KeyRow.{KeyRow}

pub record Operands (A : Type 0) : Type 0 where
  -- the value of all these tokens
  pub read : List Token → Option A
  pub spelled : A → List Token
  -- values that can be written
  pub is_good : A → Bool

-- ---- so many tokens

abbrev pub just_one : List Token → Option Token
just_one (a ∷ []) = Some a
just_one _ = None

abbrev pub just_two : List Token → Option (Token × Token)
just_two (a ∷ (b ∷ [])) = Some (a, b)
just_two _ = None

abbrev pub just_three : List Token → Option (Token × (Token × Token))
just_three (a ∷ (b ∷ (c ∷ []))) = Some (a, (b, c))
just_three _ = None

abbrev pub just_four : List Token → Option (Token × (Token × (Token × Token)))
just_four (a ∷ (b ∷ (c ∷ (d ∷ [])))) = Some (a, (b, (c, d)))
just_four _ = None

-- one value, and another
abbrev pub both_of : {A B : Type 0} → Option A → Option B → Option (A × B)
both_of None y = None
both_of (Some x) y = option_map (λ b. (x, b)) y

-- ---- operands of a token each

abbrev pub read_nothing : List Token → Option (Unit {0})
read_nothing [] = Some tt
read_nothing (t ∷ ts) = None

abbrev pub nothing : Operands (Unit {0})
nothing = record { read = read_nothing; spelled = λ x. []; is_good = λ x. true }

abbrev pub one : {A : Type 0} → Kind A → Operands A
one F = record {
  read = λ ts. option_and_then F.read (just_one ts);
  spelled = λ x. F.spelled x ∷ [];
  is_good = F.is_good;
}

abbrev pub two : {A B : Type 0} → Kind A → Kind B → Operands (A × B)
two F G = record {
  read = λ ts. option_and_then (λ t. both_of (F.read t.0) (G.read t.1)) (just_two ts);
  spelled = λ x. F.spelled x.0 ∷ G.spelled x.1 ∷ [];
  is_good = λ x. F.is_good x.0 && G.is_good x.1;
}

abbrev pub three : {A B C : Type 0} → Kind A → Kind B → Kind C → Operands (A × (B × C))
three F G H = record {
  read = λ ts. option_and_then (λ t. both_of (F.read t.0) (both_of (G.read t.1.0) (H.read t.1.1))) (just_three ts);
  spelled = λ x. F.spelled x.0 ∷ G.spelled x.1.0 ∷ H.spelled x.1.1 ∷ [];
  is_good = λ x. F.is_good x.0 && (G.is_good x.1.0 && H.is_good x.1.1);
}

abbrev pub four : {A B C D : Type 0} → Kind A → Kind B → Kind C → Kind D → Operands (A × (B × (C × D)))
four F G H K = record {
  read = λ ts. option_and_then (λ t. both_of (F.read t.0) (both_of (G.read t.1.0) (both_of (H.read t.1.1.0) (K.read t.1.1.1)))) (just_four ts);
  spelled = λ x. F.spelled x.0 ∷ G.spelled x.1.0 ∷ H.spelled x.1.1.0 ∷ K.spelled x.1.1.1 ∷ [];
  is_good = λ x. F.is_good x.0 && (G.is_good x.1.0 && (H.is_good x.1.1.0 && K.is_good x.1.1.1));
}

-- ---- the rows of a switch

abbrev pub default_word : List ℕ
default_word = codes "default"

-- what stands before `default PLACE` at the end, and the token of that place
abbrev pub before_default : List Token → Option (List Token × Token)
before_default [] = None
before_default (t ∷ []) = None
before_default (t ∷ (u ∷ [])) = if is_bare default_word t then Some ([], u) else None
before_default (t ∷ (u ∷ (v ∷ more))) = option_map (λ x. (t ∷ x.0, x.1)) (before_default (u ∷ (v ∷ more)))

-- a place each
abbrev pub places_in : List Token → Option (List Place)
places_in [] = Some []
places_in (t ∷ ts) = option_map (λ x. x.0 ∷ x.1) (both_of (place.read t) (places_in ts))

abbrev pub key_row : Token → Token → Option KeyRow
key_row key target = option_map (λ x. record { key = x.0; target = x.1 }) (both_of (number.read key) (place.read target))

-- a key and a place each
abbrev pub rows_in : List Token → Option (List KeyRow)
rows_in [] = Some []
rows_in (t ∷ []) = None
rows_in (t ∷ (u ∷ ts)) = option_map (λ x. x.0 ∷ x.1) (both_of (key_row t u) (rows_in ts))

abbrev pub spelled_default : Place → List Token
spelled_default otherwise = Bare default_word ∷ place.spelled otherwise ∷ []

abbrev pub spelled_places : List Place → List Token
spelled_places [] = []
spelled_places (x ∷ xs) = place.spelled x ∷ spelled_places xs

abbrev pub spelled_rows : List KeyRow → List Token
spelled_rows [] = []
spelled_rows (x ∷ xs) = number.spelled x.key ∷ place.spelled x.target ∷ spelled_rows xs

abbrev pub is_good_row : KeyRow → Bool
is_good_row x = number.is_good x.key && place.is_good x.target

-- the places of the keys from the lowest on, and the place for the others
abbrev pub targets : Operands (List Place × Place)
targets = record {
  read = λ ts. option_and_then (λ x. both_of (places_in x.0) (place.read x.1)) (before_default ts);
  spelled = λ x. spelled_places x.0 ++ spelled_default x.1;
  is_good = λ x. list_all place.is_good x.0 && place.is_good x.1;
}

-- the keys with a place for each, and the place for the others
abbrev pub rows : Operands (List KeyRow × Place)
rows = record {
  read = λ ts. option_and_then (λ x. both_of (rows_in x.0) (place.read x.1)) (before_default ts);
  spelled = λ x. spelled_rows x.0 ++ spelled_default x.1;
  is_good = λ x. list_all is_good_row x.0 && place.is_good x.1;
}
