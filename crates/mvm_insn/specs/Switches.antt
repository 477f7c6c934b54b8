-- The rows of either kind of switch.
use Rattle.std.specs.Prelude.{List}
use Rattle.mvm_insn.specs.declared.switch_rows.SwitchRow.{SwitchRow}
use Rattle.mvm_insn.specs.declared.switch.Rows.{Rows}
use Rattle.mvm_insn.specs.declared.switch.Rows.TheVariants.{Table, Lookup}

abbrev pub rows_of : Rows → List SwitchRow
rows_of (Table rows) = rows
rows_of (Lookup rows) = rows
