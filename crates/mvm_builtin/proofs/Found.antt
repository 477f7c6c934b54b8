-- What is known of each row is known of the one that is found.
use Rattle.std.proofs.Common.{ℕ, suc, zero, Bool, true, false, cond, List, [], ◌∷◌, Some}
use Rattle.std.specs.Prelude.{IfSome, slice_get}
use Rattle.std.specs.Str.{bytes_eq}
use Rattle.mvm_builtin.specs.Table.{Row, named}

-- something holds of each row, one after the other
abbrev pub EachRow : (Row → Type 0) → List Row → Type 0
EachRow P [] = Unit {0}
EachRow P (row ∷ rows) = P row × EachRow P rows

-- by name
pub found_named : (P : Row → Type 0) (name : List ℕ) (rows : List Row) → EachRow P rows → IfSome (named name rows) P
found_named P name [] all = tt
found_named P name (row ∷ rows) all = by (bytes_eq name row.head.name) (found_named P name rows all.1)
  where
    by : (b : Bool) → IfSome (named name rows) P → IfSome (cond b (Some row) (named name rows)) P
    by true later = all.0
    by false later = later

-- by its place
pub found_at : (P : Row → Type 0) (place : ℕ) (rows : List Row) → EachRow P rows → IfSome (slice_get rows place) P
found_at P place [] all = tt
found_at P zero (row ∷ rows) all = all.0
found_at P (suc place) (row ∷ rows) all = found_at P place rows all.1
