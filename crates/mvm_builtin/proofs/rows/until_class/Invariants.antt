use Rattle.std.proofs.Common.{◌≡◌, ◌++◌, take, drop}
use Rattle.mvm_builtin.specs.Table.{lines_of, until_class}
use Rattle.mvm_builtin.proofs.rows.until_class.Given as goal

abbrev pub invariant-loop-i : goal.invariant-loop-i
invariant-loop-i l = until_class (lines_of l.lines) ≡ lines_of (take l.i l.lines) ++ until_class (lines_of (drop l.i l.lines))
