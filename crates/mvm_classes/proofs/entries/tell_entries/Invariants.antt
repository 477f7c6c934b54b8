-- Where no fault was told, each entry so far stands for something.
use Rattle.std.specs.Prelude.{◌≡◌, ◌<◌, ℕ, true}
use Rattle.mvm_classes.specs.Finding.{Resolves}
use Rattle.mvm_classes.proofs.entries.tell_entries.Given as goal

abbrev pub invariant-loop-index : goal.invariant-loop-index
invariant-loop-index g l = l.faultless ≡ true → (index : ℕ) → 0 < index → index < l.index → Resolves l.table.files l.class index
