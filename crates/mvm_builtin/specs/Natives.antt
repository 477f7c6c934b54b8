-- The native methods of the built-in classes, and their numbers.
use Rattle.std.specs.Prelude.{◌≡◌, ℕ, List, [], ◌∷◌, Bool, true, false, ◌&&◌, ◌==◌, if◌then◌else◌, Option, Some, None, slice_get}
use Rattle.std.specs.Option.{option_map}
use Rattle.std.specs.Str.{bytes_eq}
use Rattle.mvm_layout.specs.Flags.{has_flag, is_static}
use Rattle.mvm_layout.specs.Pool.{text}
use Rattle.mvm_layout.specs.declared.flags.TheConstants as flag
use Rattle.mvm_layout.specs.declared.parts.Item.{Item}
use Rattle.mvm_layout.specs.declared.parts.Member.{Member}
use Rattle.mvm_builtin.specs.Table.{Line, Row, named, table, rows}
use Rattle.mvm_builtin.specs.Classes.{flags_of}
use Rattle.mvm_builtin.specs.declared.natives.Native.{Native}
use Rattle.mvm_builtin.specs.declared.natives.TheConstants.{NATIVES}
use Rattle.mvm_builtin.specs.declared.table.Sort.{Sort}
use Rattle.mvm_builtin.specs.declared.table.Sort.TheVariants as sort
use Rattle.mvm_builtin.specs.contracts.natives.Native.{the_type}
use denote.Enum.Declared.{tag_of}

-- the number of a native method: how many stand before it in the list of `Native`
unfoldable pub number : Native → ℕ
number native = tag_of the_type native

-- the native method of a number
unfoldable pub native_at : ℕ → Option Native
native_at number = slice_get NATIVES number

-- the native method that a line of this sort tells
abbrev pub native_of : Sort → Option Native
native_of (sort.Native native) = Some native
native_of (sort.Static native) = Some native
native_of _ = None

-- the native method of a name and a descriptor among lines
abbrev pub native_in : List ℕ → List ℕ → List Line → Option Native
native_in name desc [] = None
native_in name desc (line ∷ lines) = if bytes_eq name line.name && bytes_eq desc line.desc then native_of line.sort else native_in name desc lines

abbrev pub native_in_row : List ℕ → List ℕ → Option Row → Option Native
native_in_row name desc (Some row) = native_in name desc row.lines
native_in_row name desc None = None

-- the native method that a built-in class has under a name and a descriptor
unfoldable pub native_method : List ℕ → List ℕ → List ℕ → Option Native
native_method class name desc = native_in_row name desc (named class rows)

-- its number
abbrev pub native_number : List ℕ → List ℕ → List ℕ → Option ℕ
native_number class name desc = option_map number (native_method class name desc)

-- ---- what a native method is called, whatever the class

-- a name, a descriptor, and whether there is no receiver
pub record Signature : Type 0 where
  pub name : List ℕ
  pub desc : List ℕ
  pub static : Bool

abbrev pub is_same : Native → Option Native → Bool
is_same native None = false
is_same native (Some other) = number native == number other

-- the first line that tells a native method
abbrev pub first_line : Native → List Line → Option Line
first_line native [] = None
first_line native (line ∷ lines) = if is_same native (native_of line.sort) then Some line else first_line native lines

abbrev pub signature_of : Line → Signature
signature_of line = record { name = line.name; desc = line.desc; static = is_static (flags_of line.sort) }

-- how a native method is called in the table
unfoldable pub signature : Native → Option Signature
signature native = option_map signature_of (first_line native table)

-- It is no native method, and so are the flags; or it is one, is called as this native method is, and the flags are those of one.
abbrev pub IsCalled : Option Native → List ℕ → List ℕ → ℕ → Type 0
IsCalled None name desc flags = has_flag flag.NATIVE flags ≡ false
IsCalled (Some native) name desc flags =
    (has_flag flag.NATIVE flags ≡ true) × (signature native ≡ Some (record { name = name; desc = desc; static = is_static flags }))

-- what is known of a method of a built-in class of this name and pool
abbrev pub IsMethodOf : List ℕ → List Item → Member → Type 0
IsMethodOf class pool method =
    (name desc : List ℕ) → text pool method.name ≡ Some name → text pool method.desc ≡ Some desc → IsCalled (native_method class name desc) name desc method.flags
