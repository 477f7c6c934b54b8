use Rattle.std.proofs.Common.{◌≡◌, map, take}
use Rattle.mvm_listing.specs.Blocks.{row_made}
use Rattle.mvm_block.proofs.made.rows_made.Given as goal

abbrev pub invariant-loop-row : goal.invariant-loop-row
invariant-loop-row l = l.table ≡ map (row_made l.labels) (take l.row-index l.rows)
