-- What was written, with the lines of the rest, is the lines of all.
use Rattle.std.proofs.Common.{◌≡◌, ◌++◌, drop}
use Rattle.mvm.specs.Report.{block_texts}
use Rattle.mvm.proofs.report.push_blocks.Given as goal

abbrev pub invariant-loop-i : goal.invariant-loop-i
invariant-loop-i l = l.text ++ block_texts l.i (drop l.i l.blocks) ≡ l.initial.text ++ block_texts 0 l.blocks
