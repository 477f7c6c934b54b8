use Rattle.std.proofs.Common.{◌≡◌, drop}
use Rattle.std.specs.Prelude.{slice_get}
use Rattle.mvm_builtin.specs.Table.{lines_of, rows_of}
use Rattle.mvm_builtin.proofs.rows.row_at.Given as goal

abbrev pub invariant-loop-i : goal.invariant-loop-i
invariant-loop-i l = slice_get (rows_of (lines_of (drop l.i l.lines))) l.left ≡ slice_get (rows_of (lines_of l.lines)) l.place
