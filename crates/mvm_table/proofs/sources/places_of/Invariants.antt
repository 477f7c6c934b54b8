use Rattle.std.proofs.Common.{◌≡◌, ℕ, List, drop}
use Rattle.mvm_set.specs.Set.{look}
use Rattle.mvm_table.specs.Sources.{place_from}
use Rattle.mvm_table.proofs.sources.places_of.Given as goal

abbrev pub invariant-loop-i : goal.invariant-loop-i
invariant-loop-i l = (bytes : List ℕ) → look l.places (λ key. key.now) bytes ≡ place_from l.i bytes (drop l.i l.sources)
