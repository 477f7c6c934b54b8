-- A row of the table as the code has it.
use Rattle.mvm_builtin.specs.Table.{Row, line_of, lines_of}
use Rattle.mvm_builtin.specs.declared.rows.TableRow.{TableRow}

abbrev pub row_of : TableRow → Row
row_of row = record { head = line_of row.head; lines = lines_of row.lines.now }
