-- What is left where the heap made an object: by names one object more of its type, with all that an isolate keeps.
use Rattle.std.proofs.Common.{◌≡◌, ◌≢◌, ℕ, ◌+◌, ◌<◌, Bool, true, false, cond, List, [], ◌∷◌, ◌++◌, length, map, Result, Ok, Err, refl, sym, ap, subst, ◌∙◌, arith}
use Rattle.std.specs.Prelude.{nat_lt, All, IfOk, OnErr}
use Rattle.std.proofs.lemmas.List.{map_push}
use Rattle.std.proofs.lemmas.List.Elements.{All-push}
use Rattle.mvm_base.specs.Answers.{Gives}
use Rattle.mvm_heap.specs.Heap.{free, placed, words, words_of, Allocates}
use Rattle.mvm_heap.specs.Objects.{Held, Object, State}
use Rattle.mvm_heap.specs.declared.kind.AllocFault.{AllocFault}
use Rattle.mvm_heap.specs.declared.kind.AllocFault.TheVariants as fault
use Rattle.mvm_mirror.specs.Arrays.{shapes_of}
use Rattle.mvm_mirror.specs.Kept.{classes_of}
use Rattle.mvm_native.specs.Unclassed.{Head, head_of, heads_of, unclassed_state, without_class}
use Rattle.mvm_native.proofs.Unclassed.{unclassed_length, unclassed_placed, unclassed_result}
use Rattle.mvm_region.specs.declared.monitor.Monitor.{Monitor}
use Rattle.mvm_isolate.specs.Allocated.{made_or}
use Rattle.mvm_isolate.specs.Isolate.{Isolate, allocated}
use Rattle.mvm_isolate.specs.Numbered.{Numbered, named, type_of_head, types_in}
use Rattle.mvm_isolate.specs.Sound.{Grows, HasType, IsMonitor, IsSound}
use Rattle.mvm_isolate.specs.Types.{ReferenceType}
use Rattle.mvm_isolate.specs.declared.known.Known.{Known}
use Rattle.mvm_isolate.specs.declared.stop.Stop.{Stop}
use Rattle.mvm_isolate.proofs.Keeping.{sound_env}

-- the isolate with another heap
abbrev pub with_heap : Held → Numbered → Numbered
with_heap held n = record n { env = record n.env { heap = held } }

-- by names the room that was reserved is not seen
pub named_heap : (held : Held) (n : Numbered) → held.state ≡ n.env.heap.state → named (with_heap held n) ≡ named n
unfolding named
named_heap held n e = ap (λ (s : State). named (with_heap (record held { state = s }) n)) e

-- the number of a new object is below the number of objects by names, too
pub alloc_there : (held : Held) (n : Numbered) (r : Result ℕ AllocFault) → IfOk r (λ k. k < length held.state.objects) → IfOk (made_or r) (λ k. k < length (named (with_heap held n)).heap.objects)
unfolding named
alloc_there held n (Ok k) h = subst (λ (count : ℕ). k < count) (sym (unclassed_length held.state.objects)) h
alloc_there held n (Err refused) h = tt

placed_more : (o : Object) (s t : State) (k : ℕ) → placed o s ≡ Ok (k, t) → t.objects ≡ s.objects ++ o ∷ []
unfolding placed
placed_more o s t k e = by (nat_lt s.size (words s.objects + words_of o)) e
  where
    by : (b : Bool) → cond {A = Result (ℕ × State) AllocFault} b (Err fault.Full) (Ok (length s.objects, record s { objects = s.objects ++ o ∷ []; monitors = s.monitors ++ free ∷ [] })) ≡ Ok (k, t) → t.objects ≡ s.objects ++ o ∷ []
    by true h = absurd cc
    by false h =
        let both : ◌≡◌ {A = ℕ × State} (length s.objects, record s { objects = s.objects ++ o ∷ []; monitors = s.monitors ++ free ∷ [] }) (k, t) = cc in
        sym (ap (λ (x : ℕ × State). x.1.objects) both)

placed_monitors : (o : Object) (s t : State) (k : ℕ) → placed o s ≡ Ok (k, t) → t.monitors ≡ s.monitors ++ free ∷ []
unfolding placed
placed_monitors o s t k e = by (nat_lt s.size (words s.objects + words_of o)) e
  where
    by : (b : Bool) → cond {A = Result (ℕ × State) AllocFault} b (Err fault.Full) (Ok (length s.objects, record s { objects = s.objects ++ o ∷ []; monitors = s.monitors ++ free ∷ [] })) ≡ Ok (k, t) → t.monitors ≡ s.monitors ++ free ∷ []
    by true h = absurd cc
    by false h =
        let both : ◌≡◌ {A = ℕ × State} (length s.objects, record s { objects = s.objects ++ o ∷ []; monitors = s.monitors ++ free ∷ [] }) (k, t) = cc in
        sym (ap (λ (x : ℕ × State). x.1.monitors) both)

-- nobody owns a free monitor
pub is_free : IsMonitor free
is_free = record { owner = tt; count = omega arith }

pub heads_push : (os : List Object) (o : Object) → heads_of (os ++ o ∷ []) ≡ heads_of os ++ head_of o ∷ []
unfolding heads_of
heads_push os o = map_push head_of os o

module _ (n : Numbered) (own : Known) (held : Held) (o : Object) (r : Result ℕ AllocFault) (a : Allocates r (placed o n.env.heap.state) n.env.heap.state held.state) where
  types_more : (k : ℕ) → placed o n.env.heap.state ≡ Ok (k, held.state)
      → types_in (classes_of n.mirrors) (shapes_of n.arrays) (heads_of held.state.objects)
      ≡ types_in (classes_of n.mirrors) (shapes_of n.arrays) (heads_of n.env.heap.state.objects) ++ type_of_head (classes_of n.mirrors) (shapes_of n.arrays) (head_of o) ∷ []
  unfolding types_in
  types_more k e =
      ap (λ (os : List Object). map (type_of_head (classes_of n.mirrors) (shapes_of n.arrays)) (heads_of os)) (placed_more o n.env.heap.state held.state k e)
      ∙ ap (map (type_of_head (classes_of n.mirrors) (shapes_of n.arrays))) (heads_push n.env.heap.state.objects o)
      ∙ map_push (type_of_head (classes_of n.mirrors) (shapes_of n.arrays)) (heads_of n.env.heap.state.objects) (head_of o)

  pub alloc_gives : (type : ReferenceType) → type ≡ type_of_head (classes_of n.mirrors) (shapes_of n.arrays) (head_of o) → r ≢ Err fault.OutOfMemory
      → Gives (made_or r) (allocated type (named n) (placed (without_class o) (unclassed_state n.env.heap.state))) (named (with_heap held n))
  unfolding named
  alloc_gives type t w = by r refl a
    where
      by : (q : Result ℕ AllocFault) → r ≡ q → Allocates q (placed o n.env.heap.state) n.env.heap.state held.state
          → Gives (made_or q) (allocated type (named n) (placed (without_class o) (unclassed_state n.env.heap.state))) (named (with_heap held n))
      by (Ok k) q e =
          ap (allocated type (named n)) (unclassed_placed o n.env.heap.state ∙ ap (unclassed_result {A = ℕ}) e)
          ∙ ap (λ (ts : List ReferenceType). Ok (k, record (named n) { heap = unclassed_state held.state; types = ts }))
          (ap (λ (u : ReferenceType). types_in (classes_of n.mirrors) (shapes_of n.arrays) (heads_of n.env.heap.state.objects) ++ u ∷ []) t ∙ sym (types_more k e))
      by (Err fault.Full) q e = ap (allocated type (named n)) (unclassed_placed o n.env.heap.state ∙ ap (unclassed_result {A = ℕ}) e.0)
      by (Err fault.OutOfMemory) q e = absurd (w q)

  pub alloc_err : OnErr (made_or r) (named (with_heap held n) ≡ named n)
  alloc_err = by r a
    where
      by : (q : Result ℕ AllocFault) → Allocates q (placed o n.env.heap.state) n.env.heap.state held.state → OnErr (made_or q) (named (with_heap held n) ≡ named n)
      by (Ok k) e = tt
      by (Err fault.Full) e = named_heap held n e.1
      by (Err fault.OutOfMemory) e = named_heap held n e

  pub alloc_sound : IsSound n own → HasType (length (classes_of n.mirrors)) (length n.arrays) (head_of o) → IsSound (with_heap held n) own
  alloc_sound s h = sound_env n own (record n.env { heap = held }) s refl (by r a) (free_by r a)
    where
      free_by : (q : Result ℕ AllocFault) → Allocates q (placed o n.env.heap.state) n.env.heap.state held.state → All IsMonitor held.state.monitors
      free_by (Ok k) e =
          subst (λ (ms : List Monitor). All IsMonitor ms) (sym (placed_monitors o n.env.heap.state held.state k e)) (All-push IsMonitor n.env.heap.state.monitors free s.monitors is_free)
      free_by (Err fault.Full) e = subst (λ (t : State). All IsMonitor t.monitors) (sym e.1) s.monitors
      free_by (Err fault.OutOfMemory) e = subst (λ (t : State). All IsMonitor t.monitors) (sym e) s.monitors

      by : (q : Result ℕ AllocFault) → Allocates q (placed o n.env.heap.state) n.env.heap.state held.state → All (HasType (length (classes_of n.mirrors)) (length n.arrays)) (heads_of held.state.objects)
      by (Ok k) e =
          subst (λ (hs : List Head). All (HasType (length (classes_of n.mirrors)) (length n.arrays)) hs) (sym (ap heads_of (placed_more o n.env.heap.state held.state k e) ∙ heads_push n.env.heap.state.objects o))
          (All-push (HasType (length (classes_of n.mirrors)) (length n.arrays)) (heads_of n.env.heap.state.objects) (head_of o) s.objects h)
      by (Err fault.Full) e = subst (λ (t : State). All (HasType (length (classes_of n.mirrors)) (length n.arrays)) (heads_of t.objects)) (sym e.1) s.objects
      by (Err fault.OutOfMemory) e = subst (λ (t : State). All (HasType (length (classes_of n.mirrors)) (length n.arrays)) (heads_of t.objects)) (sym e) s.objects
