-- An entry more.
use Rattle.std.proofs.Common.{◌≡◌, ◌<◌, ◌≤◌, ◌+◌, ℕ, List, ◌⊎◌, inl, inr, subst, sym, arith}
use Rattle.std.proofs.Math.Nat.{eq-or-lt_of_le}
use Rattle.mvm_set.specs.declared.class.Lineage.{Lineage}
use Rattle.mvm_table.specs.Files.{File}
use Rattle.mvm_classes.specs.Finding.{Resolves}

pub entry_more : (table : List (List File)) (class : Lineage) (next : ℕ) → ((index : ℕ) → 0 < index → index < next → Resolves table class index) → Resolves table class next
    → (index : ℕ) → 0 < index → index < next + 1 → Resolves table class index
entry_more table class next before last index low high = let most : index ≤ next = omega (arith, high) in by (eq-or-lt_of_le most)
  where
    by : (index ≡ next) ⊎ (index < next) → Resolves table class index
    by (inl e) = subst (Resolves table class) (sym e) last
    by (inr w) = before index low w
