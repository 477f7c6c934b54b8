use Rattle.std.proofs.Common.{◌≡◌, drop}
use Rattle.std.specs.List.{list_all}
use Rattle.mvm_interp.specs.Names.{is_over}
use Rattle.mvm_interp.proofs.rows.all_over.Given as goal

abbrev pub invariant-loop-row : goal.invariant-loop-row
invariant-loop-row l = list_all (λ row. is_over row.state) (drop l.row-index l.rows) ≡ list_all (λ row. is_over row.state) l.rows
