-- What every monitor keeps.
use Rattle.std.proofs.Common.{◌≡◌, ◌<◌, ◌≤◌, ◌^◌, ℕ, List, [], ◌∷◌, length, Some, refl, sym, subst, arith}
use Rattle.std.specs.Prelude.{slice_get, slice_set, All, IfSome}
use Rattle.std.proofs.lemmas.List.Elements.{All-set}
use Rattle.std.proofs.lemmas.Option.{get_or_from_slice_get, slice_get_within}
use Rattle.mvm_heap.specs.Objects.{Held, State}
use Rattle.mvm_mirror.specs.Kept.{classes_of}
use Rattle.mvm_native.specs.Unclassed.{heads_of}
use Rattle.mvm_region.specs.declared.monitor.Monitor.{Monitor}
use Rattle.mvm_isolate.specs.Numbered.{Numbered}
use Rattle.mvm_isolate.specs.Sound.{HasType, IsMonitor, IsSound}
use Rattle.mvm_isolate.specs.declared.known.Known.{Known}
use Rattle.mvm_isolate.proofs.Allocating.{with_heap}
use Rattle.mvm_isolate.proofs.Keeping.{sound_env}

pub monitor_kept : (ms : List Monitor) (object : ℕ) (m : Monitor) → All IsMonitor ms → slice_get ms object ≡ Some m → IsMonitor m
monitor_kept ms object m a e = subst IsMonitor (get_or_from_slice_get ms object m m e) (a object m (slice_get_within ms object m e))

pub sound_owned : (n : Numbered) (held : Held) (object : ℕ) (monitor : Monitor) (own : Known) → held.state ≡ record n.env.heap.state { monitors = slice_set n.env.heap.state.monitors object monitor }
    → IsSound n own → IsMonitor monitor → IsSound (with_heap held n) own
sound_owned n held object monitor own e s m =
    sound_env n own (record n.env { heap = held }) s refl (subst (λ (t : State). All (HasType (length (classes_of n.mirrors)) (length n.arrays)) (heads_of t.objects)) (sym e) s.objects)
    (subst (λ (t : State). All IsMonitor t.monitors) (sym e) (All-set IsMonitor n.env.heap.state.monitors object monitor m s.monitors))
