-- The built-in classes by their names.
use Rattle.std.specs.Prelude.{◌≡◌, ℕ, List, true, IsSome, Option, option_and_then}
use Rattle.mvm_builtin.specs.Classes.{builtin, builtin_at}
use Rattle.mvm_set.specs.Names.{own_name}
use Rattle.mvm_table.specs.Contents.{Contents, is_shelved}
use Rattle.mvm_table.specs.Load.{is_in}

-- the name of the built-in class at a place
abbrev pub name_at : ℕ → Option (List ℕ)
name_at place = option_and_then own_name (builtin_at place)

-- the names of all built-in classes are among these
abbrev pub HasNames : List (List ℕ) → Type 0
HasNames names = (name : List ℕ) → IsSome (builtin name) → is_in names name ≡ true

-- the classes of these names stand on the shelf of a set
abbrev pub AreShelvedAs : Contents → ℕ → List (List ℕ) → Type 0
AreShelvedAs table set names = (name : List ℕ) → is_in names name ≡ true → is_shelved table set name ≡ true

-- the built-in classes stand on the shelf of a set
abbrev pub HasBuiltins : Contents → ℕ → Type 0
HasBuiltins table set = (name : List ℕ) → IsSome (builtin name) → is_shelved table set name ≡ true
