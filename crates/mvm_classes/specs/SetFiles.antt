-- The classes of a set, as sources and rows.
use Rattle.std.specs.Prelude.{◌<◌, List, length}
use Rattle.mvm_set.specs.declared.set.SetRow.{SetRow}
use Rattle.mvm_table.specs.declared.source.SourceRow.{SourceRow}

-- the source of a row is one of these
abbrev pub IsPlace : List SourceRow → SetRow → Type 0
IsPlace sources row = row.source < length sources
