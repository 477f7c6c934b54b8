use Rattle.std.proofs.Common.{◌≡◌, ℕ, take, false, get_or}
use Rattle.mvm_check.specs.Starts.{is_start}
use Rattle.mvm_check.proofs.starts.marks.Given as goal

abbrev pub invariant-loop-place : goal.invariant-loop-place
invariant-loop-place l = (k : ℕ) → get_or l.marks.items k false ≡ is_start (take l.place-index l.places) k
