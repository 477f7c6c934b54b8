-- What is left where a number of an object was written: by names the same isolate but for that number.
use Rattle.std.proofs.Common.{◌≡◌, ℕ, List, length, map, refl, sym, ap, subst, ◌∙◌}
use Rattle.std.specs.Prelude.{All}
use Rattle.mvm_heap.specs.Heap.{written}
use Rattle.mvm_heap.specs.Objects.{Held, Object, State}
use Rattle.mvm_mirror.specs.Arrays.{shapes_of}
use Rattle.mvm_mirror.specs.Kept.{classes_of}
use Rattle.mvm_native.specs.Unclassed.{Head, heads_of, unclassed_objects, unclassed_state}
use Rattle.mvm_native.proofs.Kept.{heads_written}
use Rattle.mvm_native.proofs.Unclassed.{unclassed_written}
use Rattle.mvm_isolate.specs.Isolate.{Isolate, with_number}
use Rattle.mvm_isolate.specs.Numbered.{Numbered, named, type_of_head, types_in}
use Rattle.mvm_isolate.specs.Sound.{HasType, IsMonitor, IsSound}
use Rattle.mvm_isolate.specs.Types.{ReferenceType}
use Rattle.mvm_isolate.specs.declared.known.Known.{Known}
use Rattle.mvm_isolate.proofs.Allocating.{with_heap}
use Rattle.mvm_isolate.proofs.Keeping.{sound_env}

module _ (n : Numbered) (held : Held) (object place number : ℕ) (e : held.state ≡ record n.env.heap.state { objects = written n.env.heap.state.objects object place number }) where
  heads : heads_of held.state.objects ≡ heads_of n.env.heap.state.objects
  heads = ap (λ (s : State). heads_of s.objects) e ∙ heads_written n.env.heap.state.objects object place number

  pub named_written : named (with_heap held n) ≡ with_number object place number (named n)
  unfolding named types_in
  named_written =
      let new : Isolate = named (with_heap held n) in
      let types : types_in (classes_of n.mirrors) (shapes_of n.arrays) (heads_of held.state.objects) ≡ types_in (classes_of n.mirrors) (shapes_of n.arrays) (heads_of n.env.heap.state.objects) =
      ap (λ (hs : List Head). types_in (classes_of n.mirrors) (shapes_of n.arrays) hs) heads in
      let objects : unclassed_objects held.state.objects ≡ written (unclassed_objects n.env.heap.state.objects) object place number =
      ap (λ (s : State). unclassed_objects s.objects) e ∙ sym (unclassed_written n.env.heap.state.objects object place number) in
      ap (λ (ts : List ReferenceType). record new { types = ts }) types
      ∙ ap (λ (s : State). record new { types = types_in (classes_of n.mirrors) (shapes_of n.arrays) (heads_of n.env.heap.state.objects); heap = unclassed_state s }) e
      ∙ ap (λ (os : List Object). record (named n) { heap = record (named n).heap { objects = os } }) (sym (unclassed_written n.env.heap.state.objects object place number))

  pub sound_written : (own : Known) → IsSound n own → IsSound (with_heap held n) own
  sound_written own s =
      sound_env n own (record n.env { heap = held }) s refl (subst (λ (hs : List Head). All (HasType (length (classes_of n.mirrors)) (length n.arrays)) hs) (sym heads) s.objects)
      (subst (λ (t : State). All IsMonitor t.monitors) (sym e) s.monitors)
