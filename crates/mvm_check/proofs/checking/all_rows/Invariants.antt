use Rattle.std.proofs.Common.{◌≡◌, drop}
use Rattle.mvm_base.specs.Rules.{each_from}
use Rattle.mvm_check.specs.Check.{row_rule}
use Rattle.mvm_check.proofs.checking.all_rows.Given as goal

abbrev pub invariant-loop-i : goal.invariant-loop-i
invariant-loop-i l = each_from l.i (row_rule l.pool l.method l.code) (drop l.i l.rows) ≡ each_from 0 (row_rule l.pool l.method l.code) l.rows
