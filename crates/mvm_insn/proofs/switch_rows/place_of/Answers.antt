use Rattle.std.proofs.Common.{◌+◌, ◌-◌, ◌*◌, ◌/◌, w32, to_z, of_z, arith}
use Rattle.std.specs.Prelude.{◌<ℤ◌}
use Rattle.std.proofs.lemmas.Int.{ints}
use Rattle.mvm_insn.specs.Rows.{word}
use Rattle.mvm_insn.proofs.RowLaws.{between-up, between-down}
use Rattle.mvm_insn.proofs.switch_rows.place_of.Goals as goal

pub loop-low-preserved-then-here-key-2 : goal.loop-low-preserved-then-here-key-2
loop-low-preserved-then-here-key-2 c =
    let m = c.loop-low.low + (c.loop-low.high - c.loop-low.low) / 2 in
    let sought = to_z w32 (of_z w32 c.args.key) in
    let here : word c.args.text.now (2 * m) <ℤ sought = grind (arith, ints) in
    between-up (λ i. word c.args.text.now (2 * i)) c.args.count sought c.loop-low.low c.loop-low.high m c.requires.rising c.loop-low.invariant (omega arith) here

pub loop-low-preserved : goal.loop-low-preserved
loop-low-preserved c =
    let m = c.loop-low.low + (c.loop-low.high - c.loop-low.low) / 2 in
    let sought = to_z w32 (of_z w32 c.args.key) in
    let here : sought <ℤ word c.args.text.now (2 * m) = grind (arith, ints) in
    between-down (λ i. word c.args.text.now (2 * i)) c.args.count sought c.loop-low.low c.loop-low.high m c.requires.rising c.loop-low.invariant (omega arith) (omega arith) here
