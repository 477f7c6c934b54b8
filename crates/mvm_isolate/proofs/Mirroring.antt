-- What is left where something that is kept of a class changed, and the classes did not.
use Rattle.std.proofs.Common.{◌≡◌, ℕ, List, length, Some, refl, sym, ap, subst, ◌∙◌}
use Rattle.std.specs.Prelude.{slice_get, All}
use Rattle.mvm_mirror.specs.Arrays.{shapes_of}
use Rattle.mvm_mirror.specs.Kept.{classes_of, seen_of}
use Rattle.mvm_mirror.specs.Seen.{Seen}
use Rattle.mvm_mirror.specs.declared.mirrors.Mirrors.{Mirrors}
use Rattle.mvm_native.specs.Unclassed.{heads_of}
use Rattle.mvm_set.specs.declared.class.Lineage.{Lineage}
use Rattle.mvm_isolate.specs.Isolate.{Isolate}
use Rattle.mvm_isolate.specs.Numbered.{Numbered, named, types_in}
use Rattle.mvm_isolate.specs.Sound.{Grows, AreKnownIn, AreOfSet, HasType, IsSound}
use Rattle.mvm_isolate.specs.Types.{ReferenceType}
use Rattle.mvm_isolate.specs.declared.known.Known.{Known}

module _ (n : Numbered) (mirrors : Mirrors) (e : classes_of mirrors ≡ classes_of n.mirrors) where
  pub named_seen : (seen : Seen) → seen_of mirrors ≡ seen → named (record n { mirrors = mirrors }) ≡ record (named n) { classes = seen }
  unfolding named
  named_seen seen s =
      let new : Isolate = named (record n { mirrors = mirrors }) in
      let types : types_in (classes_of mirrors) (shapes_of n.arrays) (heads_of n.env.heap.state.objects) ≡ types_in (classes_of n.mirrors) (shapes_of n.arrays) (heads_of n.env.heap.state.objects) =
      ap (λ (cs : List Lineage). types_in cs (shapes_of n.arrays) (heads_of n.env.heap.state.objects)) e in
      ap (λ (ts : List ReferenceType). record new { types = ts }) types
      ∙ ap (λ (t : Seen). record new { types = types_in (classes_of n.mirrors) (shapes_of n.arrays) (heads_of n.env.heap.state.objects); classes = t }) s

  pub sound_seen : (own : Known) → IsSound n own → IsSound (record n { mirrors = mirrors }) own
  sound_seen own s = record {
    objects = subst (λ (cs : List Lineage). All (HasType (length cs) (length n.arrays)) (heads_of n.env.heap.state.objects)) (sym e) s.objects;
    classes = subst (AreOfSet n.files n.env.launch.set) (sym e) s.classes;
    set = s.set;
    monitors = s.monitors;
    known = subst (λ (cs : List Lineage). AreKnownIn cs own) (sym e) s.known;
  }

  pub grows_seen : Grows n (record n { mirrors = mirrors })
  grows_seen = record { classes = λ mirror class h. subst (λ (cs : List Lineage). slice_get cs mirror ≡ Some class) (sym e) h; arrays = λ row shape h. h; files = refl; launch = refl }
