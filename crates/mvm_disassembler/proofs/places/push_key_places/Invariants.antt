use Rattle.std.proofs.Common.{◌≡◌, ◌++◌, map, drop}
use Rattle.mvm_statement.specs.declared.operand.KeyRow.{KeyRow}
use Rattle.mvm_listing.specs.Disassembly.{own_place}
use Rattle.mvm_disassembler.proofs.places.push_key_places.Given as goal

-- with the places that are left they are all
abbrev pub invariant-loop-row : goal.invariant-loop-row
invariant-loop-row l = l.out ++ map own_place (map (λ (row : KeyRow). row.target) (drop l.row-index l.rows)) ≡ l.initial.out ++ map own_place (map (λ (row : KeyRow). row.target) l.rows)
