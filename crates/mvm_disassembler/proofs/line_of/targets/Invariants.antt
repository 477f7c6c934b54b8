use Rattle.std.proofs.Common.{◌≡◌, ◌++◌, map, drop}
use Rattle.mvm_insn.specs.declared.switch_rows.SwitchRow.{SwitchRow}
use Rattle.mvm_statement.specs.declared.operand.Place.TheVariants.{At}
use Rattle.mvm_disassembler.proofs.line_of.targets.Given as goal

-- with the targets that are left they are all
abbrev pub invariant-loop-i : goal.invariant-loop-i
invariant-loop-i l = l.places ++ map (λ (row : SwitchRow). At row.target) (drop l.i l.rows.rows) ≡ map (λ (row : SwitchRow). At row.target) l.rows.rows
