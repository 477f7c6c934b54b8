-- What an isolate begins with.
use Rattle.std.proofs.Common.{◌∷◌, arith, ◌≡◌, ◌<◌, ℕ, List, [], length, refl, sym, ap, subst, ◌∙◌}
use Rattle.std.specs.Prelude.{All}
use Rattle.std.proofs.lemmas.List.Elements.{All-nil}
use Rattle.mvm_heap.specs.Objects.{Object, State}
use Rattle.mvm_mirror.specs.Arrays.{objects_of}
use Rattle.mvm_mirror.specs.Kept.{classes_of, objects, seen_of, states, statics}
use Rattle.mvm_mirror.specs.Seen.{Seen}
use Rattle.mvm_mirror.specs.declared.mirror.Mirror.{Mirror}
use Rattle.mvm_mirror.specs.declared.mirrors.Mirrors.{Mirrors}
use Rattle.mvm_native.specs.Unclassed.{Head, heads_of, unclassed_objects, unclassed_state}
use Rattle.mvm_native.specs.declared.env.Env.{Env}
use Rattle.mvm_table.specs.Files.{File}
use Rattle.mvm_region.specs.declared.monitor.Monitor.{Monitor}
use Rattle.mvm_isolate.specs.Beginning.{bare, unseen}
use Rattle.mvm_isolate.specs.Isolate.{Isolate}
use Rattle.mvm_isolate.specs.Numbered.{Numbered, named, types_in}
use Rattle.mvm_isolate.specs.Sound.{Loads, AreKnownIn, HasType, IsSound, IsMonitor}
use Rattle.mvm_isolate.specs.Types.{ReferenceType}
use Rattle.mvm_isolate.specs.declared.known.Known.{Known}

nothing_seen : seen_of [] ≡ unseen
unfolding states statics objects
nothing_seen = refl

no_class_numbers : (s : State) → s.objects ≡ [] → unclassed_state s ≡ s
unfolding unclassed_objects
no_class_numbers s e =
    let same : unclassed_objects s.objects ≡ s.objects = ap unclassed_objects e ∙ sym e in
    ap (λ (os : List Object). record s { objects = os }) same

no_heads : (os : List Object) → os ≡ [] → heads_of os ≡ []
unfolding heads_of
no_heads os e = ap heads_of e

-- each object has a monitor, so there are no monitors where there are no objects
pub no_monitors : (os : List Object) (ms : List Monitor) (count : ℕ) → count ≡ length os → count ≡ length ms → os ≡ [] → ms ≡ []
no_monitors os [] count a b e = refl
no_monitors os (m ∷ ms) count a b e = absurd (let l = ap length e in omega (arith, a, b, l))

-- an isolate of these parts, of which no array class was met
abbrev pub begun_with : Env → Mirrors → List (List File) → Numbered
begun_with env mirrors files = record { env = env; mirrors = mirrors; arrays = []; files = files }

module _ (env : Env) (mirrors : Mirrors) (files : List (List File)) (e : env.heap.state.objects ≡ []) (l : Loads files env.launch.set [] mirrors) where
  pub begins : named (begun_with env mirrors files) ≡ bare env
  unfolding named bare types_in objects_of
  begins =
      let start : Isolate = named (begun_with env mirrors files) in
      let types : types_in (classes_of mirrors) [] (heads_of env.heap.state.objects) ≡ [] = ap (types_in (classes_of mirrors) []) (no_heads env.heap.state.objects e) in
      ap (λ (ts : List ReferenceType). record start { types = ts }) types
      ∙ ap (λ (s : State). record start { types = []; heap = s }) (no_class_numbers env.heap.state e)
      ∙ ap (λ (seen : Seen). record start { types = []; heap = env.heap.state; classes = seen }) (l.seen ∙ nothing_seen)

  pub begins_sound : (own : Known) → env.launch.set < length files → AreKnownIn (classes_of mirrors) own → env.heap.state.monitors ≡ [] → IsSound (begun_with env mirrors files) own
  begins_sound own w k m =
      let P : Head → Type 0 = HasType (length (classes_of mirrors)) 0 in
      record { objects = subst (λ (hs : List Head). All P hs) (sym (no_heads env.heap.state.objects e)) (All-nil P); monitors = subst (λ (ms : List Monitor). All IsMonitor ms) (sym m) (All-nil IsMonitor); classes = l.loaded; set = w; known = k }
