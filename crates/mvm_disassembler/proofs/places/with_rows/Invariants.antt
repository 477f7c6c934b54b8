use Rattle.std.proofs.Common.{◌≡◌, ◌++◌, map, drop}
use Rattle.mvm_listing.specs.Disassembly.{with_row}
use Rattle.mvm_disassembler.specs.Steps.{shown_by}
use Rattle.mvm_disassembler.proofs.places.with_rows.Given as goal

-- with the rows that are left they are all
abbrev pub invariant-loop-row : goal.invariant-loop-row
invariant-loop-row l = l.keys ++ map (with_row (shown_by l.begins)) (drop l.row-index l.rows) ≡ map (with_row (shown_by l.begins)) l.rows
