use Rattle.std.proofs.Common.{take}
use Rattle.std.specs.Prelude.{All}
use Rattle.mvm_set.specs.Index.{AreNumbers, HasNumbers, KeepNumbers}
use Rattle.mvm_set.specs.Set.{look}
use Rattle.mvm_set.proofs.index.add_texts.Given as goal

abbrev pub invariant-loop-i : goal.invariant-loop-i
invariant-loop-i l = record {
  numbers : AreNumbers l.pool (look l.initial.texts (λ key. key.items)) → AreNumbers l.pool (look l.texts (λ key. key.items));
  kept : KeepNumbers (look l.initial.texts (λ key. key.items)) (look l.texts (λ key. key.items));
  have : All (HasNumbers l.pool (look l.texts (λ key. key.items))) (take l.i l.members);
}
