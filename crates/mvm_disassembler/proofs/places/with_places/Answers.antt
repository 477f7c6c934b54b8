use Rattle.std.proofs.Common.{rules, ◌≡◌, ◌++◌, ◌∷◌, [], arith}
use Rattle.mvm_listing.specs.Disassembly.{with_label}
use Rattle.mvm_disassembler.specs.Steps.{shown_by}
use Rattle.mvm_disassembler.proofs.Ahead.{item_added}
use Rattle.mvm_disassembler.proofs.places.with_places.Goals as goal

pub loop-target-preserved : goal.loop-target-preserved
loop-target-preserved c =
    let f = with_label (shown_by c.args.begins.now) in
    let x = c.target-item.result in
    let pushed : c.push.new.self ≡ c.loop-target.places ++ f x ∷ [] = search rules in
    item_added f c.args.targets.now c.loop-target.target-index x c.loop-target.places c.push.new.self (omega arith) c.target-item.is c.loop-target.invariant pushed
