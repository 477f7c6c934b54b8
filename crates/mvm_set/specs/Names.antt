-- What a class file says of itself by name, and the packages of names (JVM Specification 4.1, 4.2.1, 5.3).
use Rattle.std.specs.Prelude.{ℕ, List, [], ◌∷◌, Bool, false, ◌==◌, if◌then◌else◌, Option, Some, None}
use Rattle.std.specs.List.{list_any}
use Rattle.std.specs.Str.{bytes_eq}
use Rattle.mvm_layout.specs.Flags as flags
use Rattle.mvm_layout.specs.Pool.{class_name, is_text}
use Rattle.mvm_layout.specs.declared.parts.Item.{Item}
use Rattle.mvm_layout.specs.declared.parts.Parts.{Parts}
use Rattle.mvm_shape.specs.Members.{same_text}
use Rattle.mvm_set.specs.declared.names.TheConstants.{SLASH}

-- ---- files

-- the name of the class that a file defines
abbrev pub own_name : Parts → Option (List ℕ)
own_name file = class_name file.pool file.this_class

-- a file defines the class of this name
abbrev pub is_called : List ℕ → Parts → Bool
is_called name file = is_text name (own_name file)

-- two files define classes of one name
abbrev pub is_same : Parts → Parts → Bool
is_same one other = same_text (own_name one) (own_name other)

-- a file defines an interface
abbrev pub is_interface : Parts → Bool
is_interface file = flags.is_interface file.flags

abbrev pub with_name : Option (List ℕ) → List (List ℕ) → List (List ℕ)
with_name (Some name) names = name ∷ names
with_name None names = names

-- the names of the classes of these indices
abbrev pub names_at : List Item → List ℕ → List (List ℕ)
names_at pool [] = []
names_at pool (index ∷ indices) = with_name (class_name pool index) (names_at pool indices)

-- the name of the superclass, if there is one
abbrev pub superclass : Parts → List (List ℕ)
superclass file = names_at file.pool (file.super_class ∷ [])

-- the names of the direct superinterfaces, in their order
abbrev pub superinterfaces : Parts → List (List ℕ)
superinterfaces file = names_at file.pool file.interfaces

-- ---- packages

abbrev pub has_slash : List ℕ → Bool
has_slash name = list_any (λ unit. unit == SLASH) name

-- The package of a class is its name up to its last slash: the units that have a slash behind them.
unfoldable pub package_of : List ℕ → List ℕ
package_of [] = []
package_of (unit ∷ units) = if has_slash units then unit ∷ package_of units else []

-- two classes of these names stand in one package
abbrev pub is_same_package : List ℕ → List ℕ → Bool
is_same_package one other = bytes_eq (package_of one) (package_of other)

-- a class that may have no name stands in the package of the class of a name
abbrev pub is_near : List ℕ → Option (List ℕ) → Bool
is_near name (Some other) = is_same_package name other
is_near name None = false
