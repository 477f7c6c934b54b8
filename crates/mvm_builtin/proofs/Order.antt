-- What each row keeps at its place, and what that says of the class of a name.
use Rattle.std.proofs.Common.{◌≡◌, ℕ, zero, suc, ◌+◌, ◌<◌, Bool, true, false, cond, List, [], ◌∷◌, Option, Some, None, refl, sym, ap, ◌∙◌, subst, arith}
use Rattle.std.specs.Prelude.{slice_get, nat_lt, All, IsSome, ◌↔◌, length}
use Rattle.std.proofs.Common.{get_or}
use Rattle.std.proofs.lemmas.Option.{slice_get_within, slice_get-get_or}
use Rattle.mvm_builtin.specs.declared.table.TheConstants.{CLASSES}
use Rattle.mvm_builtin.specs.declared.table.Sort.TheVariants.{Class}
use Rattle.std.specs.Option.{option_map}
use Rattle.std.specs.Str.{bytes_eq}
use Rattle.std.proofs.lemmas.Bool.{ltb-true}
use Rattle.std.proofs.lemmas.List.Elements.{All-nil, All-cons}
use Rattle.std.proofs.lemmas.Slice.Eq.{bytes_eq-Decides}
use Rattle.mvm_layout.specs.Flags.{is_interface, has_flag}
use Rattle.mvm_layout.specs.Pool.{class_name}
use Rattle.mvm_layout.specs.declared.flags.TheConstants as flag
use Rattle.mvm_layout.specs.declared.parts.Item.{Item}
use Rattle.mvm_layout.specs.declared.parts.Parts.{Parts}
use Rattle.mvm_builtin.specs.Table.{Row, rows, named}
use Rattle.mvm_builtin.specs.Classes.{made, builtin, builtin_at}
use Rattle.mvm_builtin.specs.Order.{rows_before, place_of, own_name, StandsBefore}

-- ---- what each row keeps

-- the row of a super, which is an interface or none
abbrev IsRow : Bool → Option Row → Type 0
IsRow as_interface None = ⊥
IsRow as_interface (Some row) = is_interface (made row).flags ≡ as_interface

-- a super, if there is one, stands before a place
abbrev SuperKept : List Row → Bool → ℕ → Option (List ℕ) → Type 0
SuperKept all as_interface place None = Unit {0}
SuperKept all as_interface place (Some super) = IsRow as_interface (named super all) × (nat_lt (rows_before super all) place ≡ true)

abbrev SupersKept : List Row → ℕ → List Item → List ℕ → Type 0
SupersKept all place pool [] = Unit {0}
SupersKept all place pool (index ∷ indices) = SuperKept all true place (class_name pool index) × SupersKept all place pool indices

-- A row stands at the place of its name, its class calls itself by that name and is public, and its superclass and its superinterfaces are
-- kept so.
abbrev pub Kept : List Row → ℕ → Row → Type 0
Kept all place row =
    (rows_before row.head.name all ≡ place)
    × (own_name (made row) ≡ Some row.head.name)
    × (has_flag flag.PUBLIC (made row).flags ≡ true)
    × SuperKept all false place (class_name (made row).pool (made row).super_class)
    × SupersKept all place (made row).pool (made row).interfaces

-- each of the rows that stand from a place on
abbrev pub AllKept : List Row → ℕ → List Row → Type 0
AllKept all place [] = Unit {0}
AllKept all place (row ∷ rows) = Kept all place row × AllKept all (place + 1) rows

-- ---- the row at a place, and of a name

kept_at : (all : List Row) (from place : ℕ) (rows : List Row) (row : Row) → AllKept all from rows → slice_get rows place ≡ Some row → Kept all (from + place) row
kept_at all from place [] row k e = absurd cc
kept_at all from zero (one ∷ rows) row k e =
    let same : one ≡ row = cc in
    let here : from ≡ from + zero = omega arith in
    subst (λ (n : ℕ). Kept all n row) here (subst (λ (r : Row). Kept all from r) same k.0)
kept_at all from (suc place) (one ∷ rows) row k e =
    let next : (from + 1) + place ≡ from + suc place = omega arith in
    subst (λ (n : ℕ). Kept all n row) next (kept_at all (from + 1) place rows row k.1 e)

-- the class of a name is that at its place
named_is : (name : List ℕ) (rows : List Row) → named name rows ≡ slice_get rows (rows_before name rows)
named_is name [] = refl
named_is name (row ∷ rows) = by (bytes_eq name row.head.name) (named_is name rows)
  where
    by : (b : Bool) → named name rows ≡ slice_get rows (rows_before name rows) → cond b (Some row) (named name rows) ≡ slice_get (row ∷ rows) (cond b zero (suc (rows_before name rows)))
    by true later = refl
    by false later = later

-- it has this name
pub named_name : (name : List ℕ) (rows : List Row) (row : Row) → named name rows ≡ Some row → row.head.name ≡ name
named_name name [] row e = absurd cc
named_name name (one ∷ rows) row e = by (bytes_eq name one.head.name) refl e (named_name name rows row)
  where
    by : (b : Bool) → bytes_eq name one.head.name ≡ b → cond b (Some one) (named name rows) ≡ Some row → (named name rows ≡ Some row → row.head.name ≡ name) → row.head.name ≡ name
    by true t e later =
        let same : one ≡ row = cc in
        ap (λ (r : Row). r.head.name) (sym same) ∙ sym ((bytes_eq-Decides name one.head.name).0 t)
    by false t e later = later e

record Found (name : List ℕ) (rows : List Row) (file : Parts) : Type 0 where
  row : Row
  is_row : named name rows ≡ Some row
  is_file : made row ≡ file
  is_name : row.head.name ≡ name
  kept : Kept rows (rows_before name rows) row

found_in : (name : List ℕ) (rows : List Row) (file : Parts) → AllKept rows 0 rows → option_map made (named name rows) ≡ Some file → Found name rows file
found_in name rows file k e = by (named name rows) refl e
  where
    by : (found : Option Row) → named name rows ≡ found → option_map made found ≡ Some file → Found name rows file
    by None is e = absurd cc
    by (Some row) is e =
        let at : slice_get rows (rows_before name rows) ≡ Some row = sym (named_is name rows) ∙ is in
        let zero_more : 0 + rows_before name rows ≡ rows_before name rows = omega arith in
        record {
          row = row;
          is_row = is;
          is_file = cc;
          is_name = named_name name rows row is;
          kept = subst (λ (n : ℕ). Kept rows n row) zero_more (kept_at rows 0 (rows_before name rows) rows row k at);
        }

-- ---- what it says of the built-in classes

no_row : Row
no_row = record { head = record { sort = Class; name = []; desc = [] }; lines = [] }

pub count_so : (place : ℕ) → length rows ≡ CLASSES → IsSome (builtin_at place) ↔ (place < CLASSES)
unfolding builtin_at
count_so place counted = (λ some. below (slice_get rows place) refl some, λ h. at h)
  where
    below : (found : Option Row) → slice_get rows place ≡ found → IsSome (option_map made found) → place < CLASSES
    below None is some = absurd cc
    below (Some row) is some = let within : place < length rows = slice_get_within rows place row is in omega (arith, counted)

    at : place < CLASSES → IsSome (option_map made (slice_get rows place))
    at h = let within : place < length rows = omega (arith, counted) in let is : slice_get rows place ≡ Some (get_or rows place no_row) = slice_get-get_or rows place no_row within in subst (λ (found : Option Row). IsSome (option_map made found)) (sym is) refl

pub placed : (name : List ℕ) → builtin name ≡ builtin_at (place_of name)
unfolding builtin builtin_at place_of
placed name = ap (option_map made) (named_is name rows)

pub named_so : (name : List ℕ) (file : Parts) → AllKept rows 0 rows → builtin name ≡ Some file → own_name file ≡ Some name
unfolding builtin
named_so name file k e =
    let f : Found name rows file = found_in name rows file k e in
    ap (λ (p : Parts). own_name p) (sym f.is_file) ∙ f.kept.1 ∙ ap (λ (n : List ℕ). Some n) f.is_name

pub public_so : (name : List ℕ) (file : Parts) → AllKept rows 0 rows → builtin name ≡ Some file → has_flag flag.PUBLIC file.flags ≡ true
unfolding builtin
public_so name file k e =
    let f : Found name rows file = found_in name rows file k e in
    ap (λ (p : Parts). has_flag flag.PUBLIC p.flags) (sym f.is_file) ∙ f.kept.2

pub record Placed (place : ℕ) (file : Parts) : Type 0 where
  pub name : List ℕ
  pub is_name : own_name file ≡ Some name
  pub is_place : place_of name ≡ place

pub placed_so : (place : ℕ) (file : Parts) → AllKept rows 0 rows → builtin_at place ≡ Some file → Placed place file
unfolding builtin_at place_of
placed_so place file k e = by (slice_get rows place) refl e
  where
    by : (found : Option Row) → slice_get rows place ≡ found → option_map made found ≡ Some file → Placed place file
    by None is e = absurd cc
    by (Some row) is e =
        let kept : Kept rows (0 + place) row = kept_at rows 0 place rows row k is in
        let same : made row ≡ file = cc in
        let zero_more : 0 + place ≡ place = omega arith in
        record {
          name = row.head.name;
          is_name = ap (λ (p : Parts). own_name p) (sym same) ∙ kept.1;
          is_place = kept.0 ∙ zero_more;
        }

super_so : (as_interface : Bool) (super name : List ℕ) → SuperKept rows as_interface (rows_before name rows) (Some super) → StandsBefore as_interface super name
unfolding builtin place_of
super_so as_interface super name k = by (named super rows) refl k.0
  where
    by : (found : Option Row) → named super rows ≡ found → IsRow as_interface found → StandsBefore as_interface super name
    by None is i = absurd i
    by (Some row) is i = record { file = made row; is_builtin = ap (option_map made) is; kind = i; before = ltb-true _ _ k.1 }

pub superclass_so : (name super : List ℕ) (file : Parts) → AllKept rows 0 rows → builtin name ≡ Some file → class_name file.pool file.super_class ≡ Some super → StandsBefore false super name
unfolding builtin
superclass_so name super file k e s =
    let f : Found name rows file = found_in name rows file k e in
    let is : class_name (made f.row).pool (made f.row).super_class ≡ Some super = ap (λ (p : Parts). class_name p.pool p.super_class) f.is_file ∙ s in
    super_so false super name (subst (SuperKept rows false (rows_before name rows)) is f.kept.3)

each_so : (name : List ℕ) (pool : List Item) (indices : List ℕ) → SupersKept rows (rows_before name rows) pool indices → All (λ index. (super : List ℕ) → class_name pool index ≡ Some super → StandsBefore true super name) indices
each_so name pool [] k = All-nil (λ index. (super : List ℕ) → class_name pool index ≡ Some super → StandsBefore true super name)
each_so name pool (index ∷ indices) k =
    All-cons (λ index. (super : List ℕ) → class_name pool index ≡ Some super → StandsBefore true super name) index indices
    (λ super s. super_so true super name (subst (SuperKept rows true (rows_before name rows)) s k.0))
    (each_so name pool indices k.1)

pub superinterfaces_so : (name : List ℕ) (file : Parts) → AllKept rows 0 rows → builtin name ≡ Some file → All (λ index. (super : List ℕ) → class_name file.pool index ≡ Some super → StandsBefore true super name) file.interfaces
unfolding builtin
superinterfaces_so name file k e =
    let f : Found name rows file = found_in name rows file k e in
    subst (λ (p : Parts). All (λ index. (super : List ℕ) → class_name p.pool index ≡ Some super → StandsBefore true super name) p.interfaces) f.is_file (each_so name (made f.row).pool (made f.row).interfaces f.kept.4)
