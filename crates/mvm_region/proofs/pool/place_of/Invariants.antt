use Rattle.std.proofs.Common.{◌≡◌, ℕ, ◌<◌, get_or}
use Rattle.mvm_region.specs.Words.{lengths_of}
use Rattle.mvm_region.proofs.pool.place_of.Given as goal

abbrev pub invariant-loop-place : goal.invariant-loop-place
invariant-loop-place l = (k : ℕ) → k < l.place → get_or (lengths_of l.kept) k 0 ≡ l.words → ⊥
