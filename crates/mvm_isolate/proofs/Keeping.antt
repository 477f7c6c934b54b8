-- What every isolate keeps where one part of it changes, and what stays.
use Rattle.std.proofs.Common.{◌≡◌, ◌<◌, ℕ, Bool, List, length, map, refl, sym, ap, subst, ◌∙◌}
use Rattle.std.specs.Prelude.{slice_set, All}
use Rattle.std.proofs.lemmas.List.{map-set}
use Rattle.mvm_history.specs.declared.launch.Launch.{Launch}
use Rattle.mvm_mirror.specs.Kept.{classes_of}
use Rattle.mvm_native.specs.Unclassed.{heads_of}
use Rattle.mvm_native.specs.declared.env.Env.{Env}
use Rattle.mvm_native.specs.declared.env.LinkUse.{LinkUse}
use Rattle.mvm_isolate.specs.Isolate.{Isolate}
use Rattle.mvm_isolate.specs.Numbered.{Numbered, named}
use Rattle.mvm_isolate.specs.Sound.{Grows, AreOfSet, HasType, IsMonitor, IsSound}
use Rattle.mvm_isolate.specs.declared.known.Known.{Known}

pub grows_same : (n : Numbered) → Grows n n
grows_same n = record { classes = λ mirror class e. e; arrays = λ row shape e. e; files = refl; launch = refl }

pub grows_then : (old mid new : Numbered) → Grows old mid → Grows mid new → Grows old new
grows_then old mid new g h = record {
  classes = λ mirror class e. h.classes mirror class (g.classes mirror class e);
  arrays = λ row shape e. h.arrays row shape (g.arrays row shape e);
  files = h.files ∙ g.files;
  launch = h.launch ∙ g.launch;
}

pub grows_env : (n : Numbered) (env : Env) → env.launch ≡ n.env.launch → Grows n (record n { env = env })
grows_env n env e = record { classes = λ mirror class h. h; arrays = λ row shape h. h; files = refl; launch = e }

pub sound_env : (n : Numbered) (own : Known) (env : Env) → IsSound n own → env.launch ≡ n.env.launch → All (HasType (length (classes_of n.mirrors)) (length n.arrays)) (heads_of env.heap.state.objects) → All IsMonitor env.heap.state.monitors
    → IsSound (record n { env = env }) own
sound_env n own env s e a m = record {
  objects = a;
  monitors = m;
  classes = subst (λ (launch : Launch). AreOfSet n.files launch.set (classes_of n.mirrors)) (sym e) s.classes;
  set = subst (λ (launch : Launch). launch.set < length n.files) (sym e) s.set;
  known = s.known;
}

-- ---- links

pub linked_same : (n : Numbered) (links : List LinkUse) → named (record n { env = record n.env { links = links } }) ≡ named n
unfolding named
linked_same n links = refl
