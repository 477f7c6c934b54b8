-- What a native method leaves of an isolate, by names.
use Rattle.std.proofs.Common.{◌≡◌, ◌≢◌, ℕ, Bool, true, false, cond, List, Option, Some, Result, Ok, Err, refl, sym, ap, subst, ◌∙◌}
use Rattle.std.specs.Prelude.{OnErr, []}
use Rattle.std.proofs.lemmas.List.{append-nil}
use Rattle.std.proofs.lemmas.List.Elements.{All-nil}
use Rattle.mvm_base.specs.Answers.{GivesUnless}
use Rattle.mvm_base.specs.declared.memory.OutOfMemory.{OutOfMemory}
use Rattle.mvm_base.specs.declared.value.Word.{Word}
use Rattle.mvm_builtin.specs.declared.natives.Native.{Native}
use Rattle.mvm_mirror.specs.Arrays.{objects_of, shapes_of}
use Rattle.mvm_mirror.specs.Kept.{classes_of, seen_of}
use Rattle.mvm_native.specs.Calls.{called}
use Rattle.mvm_native.specs.Machine.{machine_of, Called, Machine}
use Rattle.mvm_native.specs.Needs.{fits}
use Rattle.mvm_native.specs.Unclassed.{heads_of, unclassed, unclassed_state, IsMade, Keeps}
use Rattle.mvm_native.specs.declared.env.Env.{Env}
use Rattle.mvm_native.specs.declared.env.LinkUse.{LinkUse}
use Rattle.mvm_native.specs.declared.out.Out.{Out}
use Rattle.mvm_native.specs.declared.out.Thrown.TheVariants.{VerifyError}
use Rattle.mvm_native.proofs.FitsSame.{fits_same}
use Rattle.mvm_native.proofs.Kept.{called_keeps}
use Rattle.mvm_native.proofs.Same.{called_same}
use Rattle.mvm_isolate.specs.Isolate.{after_native, machine_in, Isolate}
use Rattle.mvm_isolate.specs.Natives.{native_called, out_or}
use Rattle.mvm_isolate.specs.Numbered.{Numbered, named, types_in}
use Rattle.mvm_isolate.specs.Sound.{Grows, IsSound}
use Rattle.mvm_isolate.specs.declared.known.Known.{Known}
use Rattle.mvm_isolate.specs.declared.stop.Stop.{Stop}
use Rattle.mvm_isolate.specs.declared.stop.Stop.TheVariants.{Throw, OutOfMemory as Memory}
use Rattle.mvm_isolate.proofs.Adding.{named_adds, sound_adds, Adds}
use Rattle.mvm_isolate.proofs.Interned.{same_adds}
use Rattle.mvm_isolate.proofs.Keeping.{grows_env}

-- the isolate with another environment
abbrev pub with_env : Env → Numbered → Numbered
with_env env n = record n { env = env }

-- the isolate by what a native method works on
abbrev by_machine : Numbered → Machine → Isolate
by_machine n m = record {
  heap = unclassed_state m.heap;
  types = types_in (classes_of n.mirrors) (shapes_of n.arrays) (heads_of m.heap.objects);
  classes = seen_of n.mirrors;
  arrays = objects_of n.arrays;
  output = m.output;
  waits = m.waits;
}

module _ (n : Numbered) (native : Native) (args : List Word) where
  machine_is : machine_in n.env.launch n.env.thread n.env.links (named n) ≡ unclassed (machine_of n.env)
  unfolding named
  machine_is = refl

  pub unfit : fits native args (machine_of n.env) ≡ false → native_called n.env.launch n.env.thread n.env.links native args (named n) ≡ Err (Throw VerifyError)
  unfolding native_called
  unfit h = rw (machine_is, fits_same native args (machine_of n.env), h) refl

  module _ (fit : fits native args (machine_of n.env) ≡ true) (env : Env) (r : Result Out OutOfMemory) (c : Called r (called native args (machine_of n.env)) (machine_of n.env) (machine_of env)) where
    adds : (out : Out) → called native args (machine_of n.env) ≡ (out, machine_of env) → Keeps (machine_of n.env) (machine_of env)
    adds out e = subst (λ (x : Out × Machine). Keeps (machine_of n.env) x.1) e (called_keeps native args (machine_of n.env))

    all_adds : Adds n.env.heap.state env.heap.state
    all_adds = by r c
      where
        by : (q : Result Out OutOfMemory) → Called q (called native args (machine_of n.env)) (machine_of n.env) (machine_of env) → Adds n.env.heap.state env.heap.state
        by (Ok out) e = let k = adds out e in record { more = k.heap.more; heads = k.heap.heads; made = k.heap.made; monitors = k.heap.monitors }
        by (Err refused) e = same_adds n.env.heap.state env.heap.state (ap (λ (m : Machine). m.heap) e)

    kept_launch : env.launch ≡ n.env.launch
    kept_launch = by r c
      where
        by : (q : Result Out OutOfMemory) → Called q (called native args (machine_of n.env)) (machine_of n.env) (machine_of env) → env.launch ≡ n.env.launch
        by (Ok out) e = (adds out e).launch
        by (Err refused) e = ap (λ (m : Machine). m.launch) e

    pub kept_links : env.links ≡ n.env.links
    kept_links = by r c
      where
        by : (q : Result Out OutOfMemory) → Called q (called native args (machine_of n.env)) (machine_of n.env) (machine_of env) → env.links ≡ n.env.links
        by (Ok out) e = (adds out e).links
        by (Err refused) e = ap (λ (m : Machine). m.links) e

    pub called_gives : GivesUnless Memory (out_or r) (native_called n.env.launch n.env.thread n.env.links native args (named n)) (named (with_env env n))
    unfolding native_called named
    called_gives = rw (machine_is, fits_same native args (machine_of n.env), fit, called_same native args (machine_of n.env)) (by r c)
      where
        by : (q : Result Out OutOfMemory) → Called q (called native args (machine_of n.env)) (machine_of n.env) (machine_of env)
            → GivesUnless Memory (out_or q) (Ok ((called native args (machine_of n.env)).0, after_native (unclassed (called native args (machine_of n.env)).1) (named n))) (named (with_env env n))
        by (Ok out) e =
            ap (λ (x : Out × Machine). Ok (x.0, after_native (unclassed x.1) (named n))) e
            ∙ ap (λ (s : Isolate). Ok (out, s)) (sym (named_adds n env all_adds))
        by (Err refused) e = λ w. absurd (w refl)

    pub called_err : OnErr (out_or r) (named (with_env env n) ≡ named n)
    unfolding named
    called_err = by r c
      where
        by : (q : Result Out OutOfMemory) → Called q (called native args (machine_of n.env)) (machine_of n.env) (machine_of env) → OnErr (out_or q) (named (with_env env n) ≡ named n)
        by (Ok out) e = tt
        by (Err refused) e = ap (by_machine n) e

    pub called_sound : (own : Known) → IsSound n own → IsSound (with_env env n) own
    called_sound own s = sound_adds n env all_adds own s kept_launch

    pub called_grows : Grows n (with_env env n)
    called_grows = grows_env n env kept_launch
