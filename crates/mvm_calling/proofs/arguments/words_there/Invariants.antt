use Rattle.std.proofs.Common.{◌≡◌, ◌≤◌, drop, take, reverse, length}
use Rattle.mvm_current.specs.Arguments.{widths, words_in}
use Rattle.mvm_current.specs.Values.{done_of}
use Rattle.mvm_calling.proofs.arguments.words_there.Given as goal

abbrev pub invariant-loop-i : goal.invariant-loop-i
invariant-loop-i l = record {
  within : l.left ≤ length l.stack.operands.slots;
  widths : widths (drop l.i l.kinds) ≡ l.left;
  words : done_of (words_in (drop l.i l.kinds) (reverse (take l.left l.stack.operands.slots))) ≡ done_of (words_in l.kinds (reverse (take l.slots l.stack.operands.slots)));
}
