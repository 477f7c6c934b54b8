use Rattle.std.proofs.Common.{◌≡◌, ◌++◌, drop}
use Rattle.std.specs.Prelude.{flat_map}
use Rattle.mvm_listing.specs.Disassembly.{row_targets}
use Rattle.mvm_disassembler.proofs.places.push_row_targets.Given as goal

-- with the places that are left they are all
abbrev pub invariant-loop-row : goal.invariant-loop-row
invariant-loop-row l = l.out ++ flat_map row_targets (drop l.row-index l.rows) ≡ l.initial.out ++ flat_map row_targets l.rows
