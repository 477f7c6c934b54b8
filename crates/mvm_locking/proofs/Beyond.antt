-- A monitor is put nowhere where there is no such object.
use Rattle.std.proofs.Common.{◌≡◌, ℕ, zero, suc, ◌≤◌, List, [], ◌∷◌, length, refl, ap, arith}
use Rattle.std.specs.Prelude.{slice_set}
use Rattle.mvm_region.specs.declared.monitor.Monitor.{Monitor}
use Rattle.mvm_isolate.specs.Isolate.{Isolate}
use Rattle.mvm_isolate.specs.Monitors.{with_monitor}

set_past : {X : Type 0} (xs : List X) (i : ℕ) (x : X) → length xs ≤ i → slice_set xs i x ≡ xs
set_past [] i x le = refl
set_past (y ∷ xs) zero x le = absurd (omega arith)
set_past (y ∷ xs) (suc i) x le = ap (λ ys. y ∷ ys) (set_past xs i x (omega arith))

pub set_beyond : (s : Isolate) (object : ℕ) (monitor : Monitor) → length s.heap.monitors ≤ object → with_monitor object monitor s ≡ s
set_beyond s object monitor le = ap (λ monitors. record s { heap = record s.heap { monitors = monitors } }) (set_past s.heap.monitors object monitor le)
