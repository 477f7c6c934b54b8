use Rattle.std.proofs.Common.{◌≡◌, ◌*◌, true}
use Rattle.mvm_insn.specs.Rows.{word, rising}
use Rattle.mvm_insn.proofs.switch_rows.rises.Given as goal

abbrev pub invariant-loop-i : goal.invariant-loop-i
invariant-loop-i l = rising l.i (λ i. word l.text (2 * i)) ≡ true
