use Rattle.std.proofs.Common.{◌≡◌, ◌++◌, map, drop}
use Rattle.mvm_listing.specs.Disassembly.{key_row}
use Rattle.mvm_disassembler.proofs.line_of.key_rows.Given as goal

-- with the rows that are left they are all
abbrev pub invariant-loop-i : goal.invariant-loop-i
invariant-loop-i l = l.keys ++ map key_row (drop l.i l.rows.rows) ≡ map key_row l.rows.rows
