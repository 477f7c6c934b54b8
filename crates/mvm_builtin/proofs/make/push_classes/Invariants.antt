use Rattle.std.proofs.Common.{◌≡◌, ◌++◌, length, drop}
use Rattle.mvm_builtin.specs.Table.{lines_of, of_part}
use Rattle.mvm_builtin.specs.Classes.{with_classes, classes_behind}
use Rattle.mvm_builtin.proofs.make.push_classes.Given as goal

abbrev pub invariant-loop-i : goal.invariant-loop-i
invariant-loop-i l = record {
  pool : with_classes l.pool (of_part l.part (lines_of (drop l.i l.lines))) ≡ with_classes l.initial.pool (of_part l.part (lines_of l.lines));
  indices : l.indices ++ classes_behind (length l.pool) (of_part l.part (lines_of (drop l.i l.lines))) ≡ classes_behind (length l.initial.pool) (of_part l.part (lines_of l.lines));
}
