-- What is left where texts and arrays of chars came without a type: by names each has the type that its sort tells.
use Rattle.std.proofs.Common.{◌≡◌, ℕ, zero, suc, ◌+◌, List, [], ◌∷◌, ◌++◌, length, map, drop, replicate, refl, sym, ap, subst, ◌∙◌}
use Rattle.std.specs.Prelude.{All}
use Rattle.std.proofs.lemmas.List.{length-map, map-append}
use Rattle.std.proofs.lemmas.List.Elements.{All-append, All-head, All-replicate, All-tail}
use Rattle.mvm_base.specs.declared.descriptor.FieldShape.{FieldShape}
use Rattle.mvm_heap.specs.Heap.{free}
use Rattle.mvm_heap.specs.Objects.{Object, State}
use Rattle.mvm_heap.specs.declared.kind.ItemKind.TheVariants as item
use Rattle.mvm_heap.specs.declared.kind.ObjectKind.{ObjectKind}
use Rattle.mvm_heap.specs.declared.kind.ObjectKind.TheVariants as sort
use Rattle.mvm_mirror.specs.Arrays.{shapes_of}
use Rattle.mvm_mirror.specs.Kept.{classes_of}
use Rattle.mvm_native.specs.Unclassed.{Head, head_of, heads_of, unclassed_objects, unclassed_state, IsMade, IsTextOrChars}
use Rattle.mvm_native.specs.declared.env.Env.{Env}
use Rattle.mvm_region.specs.declared.monitor.Monitor.{Monitor}
use Rattle.mvm_set.specs.declared.class.Lineage.{Lineage}
use Rattle.mvm_isolate.specs.Isolate.{Isolate, plain_type_of, typed}
use Rattle.mvm_isolate.specs.Numbered.{Numbered, named, type_by, type_of_head, types_in}
use Rattle.mvm_isolate.specs.Sound.{HasType, IsMonitor, IsSound, IsTyped}
use Rattle.mvm_isolate.specs.Types.{ReferenceType, plain_type}
use Rattle.mvm_isolate.specs.declared.known.Known.{Known}
use Rattle.mvm_isolate.proofs.Allocating.{is_free}
use Rattle.mvm_isolate.proofs.Keeping.{sound_env}

-- the old objects are what they were, and behind them stand texts and arrays of chars
pub record Adds (old new : State) : Type 0 where
  pub more : List Head
  pub heads : heads_of new.objects ≡ heads_of old.objects ++ more
  pub made : All IsMade more
  pub monitors : new.monitors ≡ old.monitors ++ replicate (length more) free

abbrev plain_head : Head → ReferenceType
plain_head h = plain_type h.sort

all_plain : (os : List Object) → map plain_type_of (unclassed_objects os) ≡ map plain_head (heads_of os)
unfolding unclassed_objects heads_of
all_plain [] = refl
all_plain (o ∷ os) = ap (λ (ts : List ReferenceType). plain_type o.sort ∷ ts) (all_plain os)

rest_plain : (olds more : List Head) (os : List Object) → heads_of os ≡ olds ++ more → map plain_type_of (drop (length olds) (unclassed_objects os)) ≡ map plain_head more
unfolding unclassed_objects heads_of
rest_plain [] more os e = all_plain os ∙ ap (map plain_head) e
rest_plain (h ∷ hs) more [] e = absurd cc
rest_plain (h ∷ hs) more (o ∷ os) e = rest_plain hs more os cc

-- ---- what was made

module _ (classes : List Lineage) (shapes : List FieldShape) where
  plain_by : (s : ObjectKind) (class : ℕ) → IsTextOrChars s → plain_type s ≡ type_by classes shapes s class
  plain_by sort.Text class h = refl
  plain_by (sort.Array item.Char) class h = refl
  plain_by (sort.Array item.Boolean) class h = absurd h
  plain_by (sort.Array item.Byte) class h = absurd h
  plain_by (sort.Array item.Short) class h = absurd h
  plain_by (sort.Array item.Int) class h = absurd h
  plain_by (sort.Array item.Long) class h = absurd h
  plain_by (sort.Array item.Ref) class h = absurd h
  plain_by sort.Object class h = absurd h

  made_plain : (more : List Head) → All IsMade more → map plain_head more ≡ map (type_of_head classes shapes) more
  made_plain [] a = refl
  made_plain (h ∷ hs) a =
      ap (λ (t : ReferenceType). t ∷ map plain_head hs) (plain_by h.sort h.class (All-head IsMade h hs a).sort)
      ∙ ap (λ (ts : List ReferenceType). type_of_head classes shapes h ∷ ts) (made_plain hs (All-tail IsMade h hs a))

  pub typed_more : (olds : List Head) (os : List Object) (more : List Head) → heads_of os ≡ olds ++ more → All IsMade more
      → typed (unclassed_objects os) (types_in classes shapes olds) ≡ types_in classes shapes (heads_of os)
  unfolding types_in
  typed_more olds os more e a =
      ap (λ (k : ℕ). map (type_of_head classes shapes) olds ++ map plain_type_of (drop k (unclassed_objects os))) (length-map olds (type_of_head classes shapes))
      ∙ ap (λ (ts : List ReferenceType). map (type_of_head classes shapes) olds ++ ts) (rest_plain olds more os e ∙ made_plain more a)
      ∙ sym (map-append (type_of_head classes shapes) olds more)
      ∙ sym (ap (map (type_of_head classes shapes)) e)

typed_by : (classes arrays : ℕ) (s : ObjectKind) (class : ℕ) → IsTextOrChars s → IsTyped classes arrays s class
typed_by classes arrays sort.Text class h = tt
typed_by classes arrays (sort.Array item.Char) class h = tt
typed_by classes arrays (sort.Array item.Boolean) class h = absurd h
typed_by classes arrays (sort.Array item.Byte) class h = absurd h
typed_by classes arrays (sort.Array item.Short) class h = absurd h
typed_by classes arrays (sort.Array item.Int) class h = absurd h
typed_by classes arrays (sort.Array item.Long) class h = absurd h
typed_by classes arrays (sort.Array item.Ref) class h = absurd h
typed_by classes arrays sort.Object class h = absurd h

made_typed : (classes arrays : ℕ) (more : List Head) → All IsMade more → All (HasType classes arrays) more
made_typed classes arrays more a = λ k d l. typed_by classes arrays _ _ (a k d l).sort

-- ---- the isolate

module _ (n : Numbered) (env : Env) (a : Adds n.env.heap.state env.heap.state) where
  pub named_adds : named (record n { env = env })
      ≡ record (named n) { heap = unclassed_state env.heap.state; types = typed (unclassed_objects env.heap.state.objects) (named n).types; output = env.output; waits = env.waits }
  unfolding named
  named_adds =
      let new : Isolate = named (record n { env = env }) in
      ap (λ (ts : List ReferenceType). record new { types = ts })
      (sym (typed_more (classes_of n.mirrors) (shapes_of n.arrays) (heads_of n.env.heap.state.objects) env.heap.state.objects a.more a.heads a.made))

  pub sound_adds : (own : Known) → IsSound n own → env.launch ≡ n.env.launch → IsSound (record n { env = env }) own
  sound_adds own s e =
      sound_env n own env s e
      (subst (λ (hs : List Head). All (HasType (length (classes_of n.mirrors)) (length n.arrays)) hs) (sym a.heads)
      (All-append (HasType (length (classes_of n.mirrors)) (length n.arrays)) (heads_of n.env.heap.state.objects) a.more s.objects
      (made_typed (length (classes_of n.mirrors)) (length n.arrays) a.more a.made)))
      (subst (λ (ms : List Monitor). All IsMonitor ms) (sym a.monitors)
      (All-append IsMonitor n.env.heap.state.monitors (replicate (length a.more) free) s.monitors (All-replicate IsMonitor (length a.more) free is_free)))
