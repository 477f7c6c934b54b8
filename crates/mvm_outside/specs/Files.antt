-- Files by name, of a store that may tell which it holds.
use Rattle.std.specs.Prelude.{◌≡◌, ℕ, ◌<◌, List, [], ◌∷◌, length, Option, Some, None, ⊤, if◌then◌else◌}
use Rattle.std.specs.Str.{bytes_eq}
use Rattle.mvm_outside.specs.declared.file_row.FileRow.{FileRow}

-- the bytes of the file of each name
abbrev pub Files : Type 0
Files = List ℕ → Option (List ℕ)

-- the file of the name has these bytes
abbrev pub HasFile : Option Files → List ℕ → List ℕ → Type 0
HasFile None name bytes = ⊤
HasFile (Some files) name bytes = files name ≡ Some bytes

-- there is no file of the name
abbrev pub HasNoFile : Option Files → List ℕ → Type 0
HasNoFile None name = ⊤
HasNoFile (Some files) name = files name ≡ None

-- the file of the name has more than so many bytes
abbrev pub HasLongFile : Option Files → List ℕ → ℕ → Type 0
HasLongFile None name most = ⊤
HasLongFile (Some files) name most = (bytes : List ℕ) × (files name ≡ Some bytes) × (most < length bytes)

-- the bytes of the first row of the name
abbrev pub file_of : List FileRow → Files
file_of [] name = None
file_of (row ∷ rows) name = if bytes_eq row.name name then Some row.bytes else file_of rows name

-- what a store says of its files that does not tell which it holds
abbrev pub untold : Option Files
untold = None
