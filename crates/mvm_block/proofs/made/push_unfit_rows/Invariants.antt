use Rattle.std.proofs.Common.{◌≡◌, ◌++◌, take}
use Rattle.std.specs.List.{flat_map}
use Rattle.mvm_listing.specs.Blocks.{row_unfit}
use Rattle.mvm_block.proofs.made.push_unfit_rows.Given as goal

abbrev pub invariant-loop-row : goal.invariant-loop-row
invariant-loop-row l = l.out ≡ l.initial.out ++ flat_map (row_unfit l.labels) (take l.row-index l.rows)
