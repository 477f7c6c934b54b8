use Rattle.std.proofs.Common.{◌+◌, ◌*◌, sym, arith}
use Rattle.std.specs.Prelude.{◌≤ℤ◌}
use Rattle.std.proofs.lemmas.Int.{ints}
use Rattle.mvm_insn.specs.Rows.{word}
use Rattle.mvm_insn.proofs.RowLaws.{rising-stops}
use Rattle.mvm_insn.proofs.switch_rows.rises.Goals as goal

pub returns-then-word : goal.returns-then-word
returns-then-word c =
    let here : word c.args.text.now (2 * (c.loop-i.i + 1)) ≤ℤ word c.args.text.now (2 * c.loop-i.i) = grind (arith, ints) in
    sym (rising-stops (λ i. word c.args.text.now (2 * i)) c.loop-i.i c.args.last (omega arith) here)
