use Rattle.std.proofs.Common.{◌≡◌, ℕ, ◌<◌, ◌≤◌, length}
use Rattle.mvm_heap.specs.Packed.{word_at}
use Rattle.mvm_heap.proofs.block.clear.Given as goal

abbrev pub invariant-loop-at : goal.invariant-loop-at
invariant-loop-at l = record {
  carved : l.region.carved ≡ l.initial.region.carved;
  length : length l.region.words ≡ length l.initial.region.words;
  before : (k : ℕ) → k < l.from → word_at l.region.words k ≡ word_at l.initial.region.words k;
  zero : (k : ℕ) → l.from ≤ k → k < l.at → word_at l.region.words k ≡ 0;
}
