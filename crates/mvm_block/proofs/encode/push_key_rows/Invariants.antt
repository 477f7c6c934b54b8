use Rattle.std.proofs.Common.{◌≡◌, ◌++◌, take}
use Rattle.std.specs.List.{flat_map}
use Rattle.mvm_statement.specs.declared.operand.KeyRow.{KeyRow}
use Rattle.mvm_listing.specs.Encoding.{i4}
use Rattle.mvm_block.specs.Ready.{offset_to}
use Rattle.mvm_block.proofs.encode.push_key_rows.Given as goal

abbrev pub invariant-loop-row : goal.invariant-loop-row
invariant-loop-row l = l.out.items ≡ l.initial.out.items ++ flat_map (λ (row : KeyRow). i4 row.key ++ i4 (offset_to l.labels l.at row.target)) (take l.row-index l.rows)
