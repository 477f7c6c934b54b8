use Rattle.std.proofs.Common.{◌≡◌, ◌++◌, length, drop}
use Rattle.mvm_builtin.specs.Table.{lines_of, of_part}
use Rattle.mvm_builtin.specs.Classes.{with_members, members_behind}
use Rattle.mvm_builtin.proofs.make.push_members.Given as goal

abbrev pub invariant-loop-i : goal.invariant-loop-i
invariant-loop-i l = record {
  pool : with_members l.pool (of_part l.part (lines_of (drop l.i l.lines))) ≡ with_members l.initial.pool (of_part l.part (lines_of l.lines));
  members : l.members ++ members_behind (length l.pool) (of_part l.part (lines_of (drop l.i l.lines))) ≡ members_behind (length l.initial.pool) (of_part l.part (lines_of l.lines));
}
