use Rattle.std.proofs.Common.{rules, ◌≡◌, ◌++◌, ◌∷◌, []}
use Rattle.mvm_statement.specs.declared.operand.Place.TheVariants.{At}
use Rattle.mvm_insn.specs.declared.switch_rows.SwitchRow.{SwitchRow}
use Rattle.mvm_disassembler.proofs.SwitchLines.{row_added}
use Rattle.mvm_disassembler.proofs.line_of.targets.Goals as goal

pub loop-i-preserved : goal.loop-i-preserved
loop-i-preserved c =
    let pushed : c.push.new.self ≡ c.loop-i.places ++ (λ (row : SwitchRow). At row.target) c.row.result ∷ [] = search rules in
    row_added (λ (row : SwitchRow). At row.target) c.args.rows.now.rows c.loop-i.i c.row.result c.loop-i.places c.push.new.self c.row.ensures c.loop-i.invariant pushed
