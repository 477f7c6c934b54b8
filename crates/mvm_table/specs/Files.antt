-- The user classes of a set: names, with the bytes of their files.
use Rattle.std.specs.Prelude.{ℕ, List, [], ◌∷◌, map, slice_get, Option, Some, None, if◌then◌else◌}
use Rattle.std.specs.Str.{bytes_eq}
use Rattle.mvm_set.specs.Set.{source_of}
use Rattle.mvm_set.specs.declared.set.SetRow.{SetRow}
use Rattle.mvm_table.specs.declared.source.SourceRow.{SourceRow}

-- a class of a set: its name, and what its file holds
pub record File : Type 0 where
  pub name : List ℕ
  pub bytes : List ℕ

-- the bytes of the file of a name, if there is one
abbrev pub bytes_of : List ℕ → List File → Option (List ℕ)
bytes_of name [] = None
bytes_of name (file ∷ files) = if bytes_eq file.name name then Some file.bytes else bytes_of name files

-- ---- what sources and sets stand for

abbrev pub bytes_in : Option SourceRow → List ℕ
bytes_in (Some source) = source.bytes
bytes_in None = []

-- the bytes of a source, by its place
abbrev pub bytes_at : List SourceRow → ℕ → List ℕ
bytes_at sources place = bytes_in (slice_get sources place)

abbrev pub file_of : List SourceRow → SetRow → File
file_of sources row = record { name = row.name; bytes = bytes_at sources row.source }

-- the files of a set, by its rows
abbrev pub files_of : List SourceRow → List SetRow → List File
files_of sources rows = map (file_of sources) rows

-- the files of all sets
abbrev pub all_files : List SourceRow → List (List SetRow) → List (List File)
all_files sources sets = map (files_of sources) sets

abbrev pub or_no_files : Option (List File) → List File
or_no_files (Some files) = files
or_no_files None = []

-- the files of a set, by its number
abbrev pub files_in : ℕ → List (List File) → List File
files_in set table = or_no_files (slice_get table set)

-- ---- the same by numbers, as the table keeps them

abbrev pub bytes_from : List SourceRow → Option ℕ → Option (List ℕ)
bytes_from sources (Some place) = Some (bytes_at sources place)
bytes_from sources None = None

-- the bytes of the class of a name among the rows of a set, if there is such a set
abbrev pub bytes_by_place : List SourceRow → List ℕ → Option (List SetRow) → Option (List ℕ)
bytes_by_place sources name (Some rows) = bytes_from sources (source_of name rows)
bytes_by_place sources name None = None
