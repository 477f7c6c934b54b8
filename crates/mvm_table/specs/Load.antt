-- Loading (JVM Specification 5.3): the class of a name with all that it inherits from, or the first fault.
use Rattle.std.specs.Prelude.{ℕ, zero, suc, ◌+◌, List, [], ◌∷◌, ◌++◌, map, length, Bool, true, false, not, if◌then◌else◌, Option, Some, None, Result, Ok, Err}
use Rattle.std.specs.List.{list_any}
use Rattle.std.specs.Str.{bytes_eq}
use Rattle.mvm_base.specs.Answers.{◌>>=◌}
use Rattle.mvm_base.specs.Descriptor.{is_next}
use Rattle.mvm_base.specs.Rules.{expect}
use Rattle.mvm_layout.specs.declared.fault.ClassFault.{ClassFault}
use Rattle.mvm_layout.specs.declared.parts.Parts.{Parts}
use Rattle.mvm_classfile.specs.Reading.{reading}
use Rattle.mvm_builtin.specs.Classes.{builtin}
use Rattle.mvm_builtin.specs.Table.{Row, rows}
use Rattle.mvm_set.specs.Access.{is_reachable}
use Rattle.mvm_set.specs.Names.{is_called, is_interface, superclass, superinterfaces}
use Rattle.mvm_set.specs.Family.{Family, family, Families, none, more, file}
use Rattle.mvm_set.specs.declared.fault.LinkFault.TheVariants.{Access}
use Rattle.mvm_table.specs.Files.{File, bytes_of}
use Rattle.mvm_table.specs.declared.fault.LoadFault.{LoadFault}
use Rattle.mvm_table.specs.declared.fault.LoadFault.TheVariants.{NoClass, Format, Circular, WrongName, Super, Link}

-- Each rule takes what it looks up as a parameter, so that what shares a value that it looked up keeps the rule: here the file of a
-- name, and the reading of bytes.
abbrev pub Find : Type 0
Find = List ℕ → Result Parts LoadFault

abbrev pub Read : Type 0
Read = List ℕ → Result Parts ClassFault

-- ---- the file of a name (5.3.1, 5.3.3, 5.3.5)

-- the name of an array class begins with a bracket (4.4.1)
abbrev pub is_array_name : List ℕ → Bool
is_array_name name = is_next 91 name

-- what was read is the class of this name
abbrev pub called : List ℕ → Result Parts ClassFault → Result Parts LoadFault
called name (Ok file) = if is_called name file then Ok file else Err WrongName
called name (Err fault) = Err (Format fault)

-- what bytes are the class of this name
abbrev pub defined : Read → List ℕ → Option (List ℕ) → Result Parts LoadFault
defined read name (Some bytes) = called name (read bytes)
defined read name None = Err NoClass

abbrev pub or_defined : Read → Option Parts → List ℕ → List File → Result Parts LoadFault
or_defined read (Some file) name files = Ok file
or_defined read None name files = defined read name (bytes_of name files)

-- a built-in class, or the class of the set's file; an array is neither
unfoldable pub found_with : Read → List File → Find
found_with read files name = if is_array_name name then Err NoClass else or_defined read (builtin name) name files

abbrev pub found : List File → Find
found files = found_with reading files

-- ---- its supers (5.3.5, steps 3 and 4)

-- a superclass is a class, a superinterface is an interface
abbrev pub is_sort : Bool → Parts → Bool
is_sort true file = is_interface file
is_sort false file = not (is_interface file)

-- a class of this file may stand above the class of this name
abbrev pub may_stand : Bool → List ℕ → Parts → Result (Unit {0}) LoadFault
may_stand as_interface name file =
    if is_sort as_interface file then (if is_reachable name file then Ok tt else Err (Link Access)) else Err Super

-- one super of the class of a name: its own load fault, then Super, then Access
abbrev pub super_loaded : (List ℕ → Result Family LoadFault) → Bool → List ℕ → List ℕ → Result Family LoadFault
super_loaded load as_interface name super = load super >>= λ one. may_stand as_interface name (file one) >>= λ stands. Ok one

-- these supers of the class of a name, in their order
abbrev pub all_loaded : (List ℕ → Result Family LoadFault) → Bool → List ℕ → List (List ℕ) → Result Families LoadFault
all_loaded load as_interface name [] = Ok none
all_loaded load as_interface name (super ∷ supers) =
    super_loaded load as_interface name super >>= λ one. all_loaded load as_interface name supers >>= λ others. Ok (more one others)

-- ---- the class (5.3.5)

-- a name is among these
abbrev pub is_in : List (List ℕ) → List ℕ → Bool
is_in names name = list_any (λ other. bytes_eq other name) names

-- the class of a file of this name: its superclass, then its superinterfaces in order
unfoldable pub over : (List ℕ → Result Family LoadFault) → List ℕ → Parts → Result Family LoadFault
over load name file =
    all_loaded load false name (superclass file) >>= λ above.
    all_loaded load true name (superinterfaces file) >>= λ across. Ok (family file above across)

-- the class of a name, which is not already being loaded on this path, where its supers are loaded so
unfoldable pub loaded_by : (List ℕ → Result Family LoadFault) → Find → List (List ℕ) → List ℕ → Result Family LoadFault
loaded_by load find path name = find name >>= λ file. expect (not (is_in path name)) Circular >>= λ new. over load name file

-- The class of a name, loaded on a path of names. No path is longer than there are names: left is how many more there can be.
unfoldable pub load_on : ℕ → Find → List (List ℕ) → List ℕ → Result Family LoadFault
load_on zero find path name = Err Circular
load_on (suc left) find path name = loaded_by (load_on left find (path ++ name ∷ [])) find path name

abbrev pub row_name : Row → List ℕ
row_name row = row.head.name

abbrev pub file_name : File → List ℕ
file_name file = file.name

-- the names that there are: those of the built-in classes, and those of the files
unfoldable pub known : List File → List (List ℕ)
known files = map row_name rows ++ map file_name files

-- the class of a name among these files and the built-in classes
unfoldable pub load_with : Read → List File → List ℕ → Result Family LoadFault
load_with read files name = load_on (length (known files) + 1) (found_with read files) [] name

abbrev pub load : List File → List ℕ → Result Family LoadFault
load files = load_with reading files
