use Rattle.std.proofs.Common.{rules, ◌≡◌, ◌++◌, ◌∷◌, []}
use Rattle.mvm_listing.specs.Disassembly.{key_row}
use Rattle.mvm_disassembler.proofs.SwitchLines.{row_added}
use Rattle.mvm_disassembler.proofs.line_of.key_rows.Goals as goal

pub loop-i-preserved : goal.loop-i-preserved
loop-i-preserved c =
    let pushed : c.push.new.self ≡ c.loop-i.keys ++ key_row c.row-row.result ∷ [] = search rules in
    row_added key_row c.args.rows.now.rows c.loop-i.i c.row-row.result c.loop-i.keys c.push.new.self c.row-row.ensures c.loop-i.invariant pushed
