use Rattle.std.proofs.Common.{◌*◌, ◌-◌}
use Rattle.mvm_insn.specs.Rows.{word}
use Rattle.mvm_insn.proofs.RowLaws.{Between}
use Rattle.mvm_insn.proofs.switch_rows.place_of.Given as goal

abbrev pub invariant-loop-low : goal.invariant-loop-low
invariant-loop-low l = Between (λ i. word l.fn.text (2 * i)) l.fn.count l.fn.key l.low l.high

abbrev pub decreases-loop-low : goal.decreases-loop-low
decreases-loop-low l = l.high - l.low
