use Rattle.std.proofs.Common.{◌≡◌, ◌≤◌, drop, take, reverse, length}
use Rattle.mvm_current.specs.Arguments.{widths, words_in}
use Rattle.mvm_current.proofs.Reading.{joined}
use Rattle.mvm_current.proofs.words.words_in.Given as goal

abbrev pub invariant-loop-i : goal.invariant-loop-i
invariant-loop-i l = record {
  within : l.left ≤ length l.stack.operands.slots;
  widths : widths (drop l.i l.kinds) ≡ l.left;
  words : joined l.words (words_in (drop l.i l.kinds) (reverse (take l.left l.stack.operands.slots))) ≡ words_in l.kinds (reverse (take l.slots l.stack.operands.slots));
}
