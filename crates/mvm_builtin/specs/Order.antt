-- The order of the built-in classes: each stands behind its supers, so that loading them ends (JVM Specification 5.3.5).
use Rattle.std.specs.Prelude.{◌≡◌, ℕ, zero, suc, ◌<◌, List, [], ◌∷◌, Bool, if◌then◌else◌, Option, Some}
use Rattle.std.specs.Str.{bytes_eq}
use Rattle.mvm_layout.specs.Flags.{is_interface}
use Rattle.mvm_layout.specs.Pool.{class_name}
use Rattle.mvm_layout.specs.declared.parts.Parts.{Parts}
use Rattle.mvm_builtin.specs.Table.{Row, rows}
use Rattle.mvm_builtin.specs.Classes.{builtin}

-- how many rows stand before that of a name
abbrev pub rows_before : List ℕ → List Row → ℕ
rows_before name [] = zero
rows_before name (row ∷ rows) = if bytes_eq name row.head.name then zero else suc (rows_before name rows)

-- the place of a built-in class in the table, from 0 on
unfoldable pub place_of : List ℕ → ℕ
place_of name = rows_before name rows

-- the name by which a class file calls itself (4.1)
abbrev pub own_name : Parts → Option (List ℕ)
own_name file = class_name file.pool file.this_class

-- One name is that of a built-in class, an interface or none, that stands before the one of another name.
pub record StandsBefore (as_interface : Bool) (super : List ℕ) (name : List ℕ) : Type 0 where
  pub file : Parts
  pub is_builtin : builtin super ≡ Some file
  pub kind : is_interface file.flags ≡ as_interface
  pub before : place_of super < place_of name
