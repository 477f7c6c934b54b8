use Rattle.std.proofs.Common.{rules, ◌≡◌, ◌++◌, ◌∷◌, [], arith}
use Rattle.mvm_listing.specs.Disassembly.{with_row}
use Rattle.mvm_disassembler.specs.Steps.{shown_by}
use Rattle.mvm_disassembler.proofs.Ahead.{item_added}
use Rattle.mvm_disassembler.proofs.places.with_rows.Goals as goal

pub loop-row-preserved : goal.loop-row-preserved
loop-row-preserved c =
    let f = with_row (shown_by c.args.begins.now) in
    let x = c.row-item.result in
    let pushed : c.push.new.self ≡ c.loop-row.keys ++ f x ∷ [] = search rules in
    item_added f c.args.rows.now c.loop-row.row-index x c.loop-row.keys c.push.new.self (omega arith) c.row-item.is c.loop-row.invariant pushed
