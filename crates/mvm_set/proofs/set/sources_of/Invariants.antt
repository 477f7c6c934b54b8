use Rattle.std.proofs.Common.{◌≡◌, ℕ, List, drop}
use Rattle.mvm_set.specs.Set.{source_of, look}
use Rattle.mvm_set.proofs.set.sources_of.Given as goal

abbrev pub invariant-loop-i : goal.invariant-loop-i
invariant-loop-i l = (name : List ℕ) → look l.sources (λ key. key.items) name ≡ source_of name (drop l.i l.rows)
