use Rattle.std.proofs.Common.{◌≡◌, length}
use Rattle.mvm_shape.specs.TextNumbers.{look}
use Rattle.mvm_shape.proofs.TextNumbers.{Numbering}
use Rattle.mvm_shape.proofs.text_numbers.numbers.Given as goal

abbrev pub invariant-loop-i : goal.invariant-loop-i
invariant-loop-i l = record {
  long : length l.numbers.items ≡ l.i;
  so_far : Numbering l.pool l.numbers.items (look l.seen);
}
