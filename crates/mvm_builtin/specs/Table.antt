-- The table of built-in classes (../src/table.rt) as it is read: its lines, and which of them are a class's own.
use Rattle.std.specs.Prelude.{ℕ, List, [], ◌∷◌, map, Bool, true, false, if◌then◌else◌, Option, Some, None}
use Rattle.std.specs.Borrow.{Bor}
use Rattle.std.specs.List.{filter}
use Rattle.std.specs.Str.{bytes_eq}
use Rattle.mvm_builtin.specs.declared.parts.Part.{Part}
use Rattle.mvm_builtin.specs.declared.parts.Part.TheVariants.{Head, Superclass, Superinterface, Bytecode, Field, Method}
use Rattle.mvm_builtin.specs.declared.table.Sort.{Sort}
use Rattle.mvm_builtin.specs.declared.table.Sort.TheVariants.{Class, Interface, Extends, Implements, Private, Constant, Abstract, Code, Native, Static}
use Rattle.mvm_builtin.specs.declared.table.TheConstants.{TABLE}

-- a line: what it tells, a name, and for a field or a method its descriptor
pub record Line : Type 0 where
  pub sort : Sort
  pub name : List ℕ
  pub desc : List ℕ

-- a class: its own line, and those behind it up to the next class
pub record Row : Type 0 where
  pub head : Line
  pub lines : List Line

-- which part of a class a line of this sort tells; the line of a method with a body tells of two
abbrev pub is_part : Part → Sort → Bool
is_part Head Class = true
is_part Head Interface = true
is_part Superclass Extends = true
is_part Superinterface Implements = true
is_part Bytecode Code = true
is_part Field Private = true
is_part Field Constant = true
is_part Method Abstract = true
is_part Method Code = true
is_part Method (Native native) = true
is_part Method (Static native) = true
is_part _ _ = false

-- the lines of one part
abbrev pub of_part : Part → List Line → List Line
of_part part lines = filter (λ line. is_part part line.sort) lines

-- the lines up to the next class
abbrev pub until_class : List Line → List Line
until_class [] = []
until_class (line ∷ lines) = if is_part Head line.sort then [] else line ∷ until_class lines

-- the classes among lines, in their order
abbrev pub rows_of : List Line → List Row
rows_of [] = []
rows_of (line ∷ lines) = if is_part Head line.sort then record { head = line; lines = until_class lines } ∷ rows_of lines else rows_of lines

-- the class whose line is the first of these
abbrev pub row_from : List Line → Option Row
row_from [] = None
row_from (line ∷ lines) = Some (record { head = line; lines = until_class lines })

-- the class of a name
abbrev pub named : List ℕ → List Row → Option Row
named name [] = None
named name (row ∷ rows) = if bytes_eq name row.head.name then Some row else named name rows

-- a line as the code has it
abbrev pub line_of : Sort × Bor (List ℕ) × Bor (List ℕ) → Line
line_of line = record { sort = line.0; name = line.1.now; desc = line.2.now }

abbrev pub lines_of : List (Sort × Bor (List ℕ) × Bor (List ℕ)) → List Line
lines_of lines = map line_of lines

-- the lines of the table
abbrev pub table : List Line
table = map (λ line. record { sort = line.0; name = line.1.now; desc = line.2.now }) TABLE

-- the built-in classes
unfoldable pub rows : List Row
rows = rows_of table
