-- Interned texts, by names.
use package.native.Mathlib.Omega.{arith}
use Rattle.std.proofs.Common.{◌≡◌, ◌≢◌, ℕ, suc, ◌+◌, ◌-◌, ◌≤◌, ◌<◌, Bool, true, false, cond, List, [], ◌∷◌, ◌++◌, length, Option, Some, None, Result, Ok, Err, refl, sym, ap, subst, ◌∙◌}
use Rattle.std.specs.Prelude.{nat_lt, is_ok, All, IfOk, OnErr, OnOk, IsOk}
use Rattle.std.proofs.lemmas.Bool.{ltb-false}
use Rattle.std.proofs.lemmas.List.{append-nil}
use Rattle.std.proofs.lemmas.List.Elements.{All-cons, All-nil}
use Rattle.mvm_base.specs.Answers.{GivesUnless}
use Rattle.mvm_heap.specs.Heap.{free, intern, interned, known_or, noted, placed, text, words, words_of, Allocates, HasRoom, Takes}
use Rattle.mvm_heap.specs.Objects.{Held, Object, Spare, State}
use Rattle.mvm_heap.specs.Sorts.{words_needed}
use Rattle.mvm_heap.specs.declared.kind.AllocFault.{AllocFault}
use Rattle.mvm_heap.specs.declared.kind.AllocFault.TheVariants as fault
use Rattle.mvm_heap.specs.declared.kind.ObjectKind.TheVariants.{Text}
use Rattle.mvm_native.specs.Unclassed.{head_of, heads_of, unclassed_objects, unclassed_state, IsMade}
use Rattle.mvm_native.proofs.Unclassed.{unclassed_contents, unclassed_length, unclassed_placed, unclassed_result}
use Rattle.mvm_isolate.specs.Allocated.{made_or}
use Rattle.mvm_isolate.specs.Interning.{MayIntern}
use Rattle.mvm_isolate.specs.Isolate.{interned_in, interned_text}
use Rattle.mvm_isolate.specs.Numbered.{Numbered, named}
use Rattle.mvm_isolate.specs.Sound.{IsSound}
use Rattle.mvm_isolate.specs.declared.known.Known.{Known}
use Rattle.mvm_isolate.specs.declared.stop.Stop.{Stop}
use Rattle.mvm_isolate.specs.declared.stop.Stop.TheVariants as stop
use Rattle.mvm_isolate.proofs.Adding.{named_adds, sound_adds, Adds}
use Rattle.mvm_isolate.proofs.Allocating.{heads_push, named_heap, with_heap}

-- ---- without class numbers

pub unclassed_interned : (os : List Object) (ts us : List ℕ) → interned (unclassed_objects os) ts us ≡ interned os ts us
unfolding interned
unclassed_interned os [] us = refl
unclassed_interned os (t ∷ ts) us = rw (unclassed_interned os ts us, unclassed_contents os t) refl

noted_unclassed : (r : Result (ℕ × State) AllocFault) → noted (unclassed_result {A = ℕ} r) ≡ unclassed_result {A = ℕ} (noted r)
noted_unclassed (Ok x) = refl
noted_unclassed (Err fault) = refl

pub unclassed_intern : (us : List ℕ) (s : State) → intern us (unclassed_state s) ≡ unclassed_result {A = ℕ} (intern us s)
unfolding intern
unclassed_intern us s = ap (λ (o : Option ℕ). known_or o us (unclassed_state s)) (unclassed_interned s.objects s.texts us) ∙ by (interned s.objects s.texts us)
  where
    by : (o : Option ℕ) → known_or o us (unclassed_state s) ≡ unclassed_result {A = ℕ} (known_or o us s)
    by (Some k) = refl
    by None = ap noted (unclassed_placed (text us) s) ∙ noted_unclassed (placed (text us) s)

-- ---- what a new text adds

record Placed (us : List ℕ) (s t : State) : Type 0 where
  pub objects : t.objects ≡ s.objects ++ text us ∷ []
  pub size : t.size ≡ s.size
  pub monitors : t.monitors ≡ s.monitors ++ free ∷ []
  pub room : words s.objects + words_needed Text (length us) ≤ s.size

noted_new : (us : List ℕ) (s t : State) (k : ℕ) → noted (placed (text us) s) ≡ Ok (k, t) → Placed us s t
unfolding placed
noted_new us s t k e = by (nat_lt s.size (words s.objects + words_of (text us))) refl e
  where
    by : (b : Bool) → nat_lt s.size (words s.objects + words_of (text us)) ≡ b
        → noted (cond {A = Result (ℕ × State) AllocFault} b (Err fault.Full) (Ok (length s.objects, record s { objects = s.objects ++ text us ∷ []; monitors = s.monitors ++ free ∷ [] }))) ≡ Ok (k, t) → Placed us s t
    by true f h = absurd cc
    by false f h =
        let next : State = record s { objects = s.objects ++ text us ∷ []; monitors = s.monitors ++ free ∷ []; texts = s.texts ++ length s.objects ∷ [] } in
        let both : ◌≡◌ {A = ℕ × State} (length s.objects, next) (k, t) = cc in
        record {
          objects = sym (ap (λ (x : ℕ × State). x.1.objects) both);
          size = sym (ap (λ (x : ℕ × State). x.1.size) both);
          monitors = sym (ap (λ (x : ℕ × State). x.1.monitors) both);
          room = ltb-false s.size (words s.objects + words_of (text us)) f;
        }

words_push : (os : List Object) (o : Object) → words (os ++ o ∷ []) ≡ words os + words_of o
unfolding words
words_push [] o = omega arith
words_push (p ∷ os) o = let h = words_push os o in omega (arith, h)

text_adds : (us : List ℕ) (s t : State) → Placed us s t → Adds s t
text_adds us s t p = record {
  more = head_of (text us) ∷ [];
  heads = ap heads_of p.objects ∙ heads_push s.objects (text us);
  made = All-cons IsMade (head_of (text us)) [] (record { sort = tt; class = refl }) (All-nil IsMade);
  monitors = p.monitors;
}

pub same_adds : (s t : State) → t ≡ s → Adds s t
same_adds s t e = record {
  more = [];
  heads = ap (λ (u : State). heads_of u.objects) e ∙ sym (append-nil (heads_of s.objects));
  made = All-nil IsMade;
  monitors = ap (λ (u : State). u.monitors) e ∙ sym (append-nil s.monitors);
}

-- ---- a text that is not interned yet

module _ (n : Numbered) (own : Known) (held : Held) (us : List ℕ) (none : interned n.env.heap.state.objects n.env.heap.state.texts us ≡ None)
    (r : Result ℕ AllocFault) (a : Allocates r (intern us n.env.heap.state) n.env.heap.state held.state) where
  is_noted : intern us n.env.heap.state ≡ noted (placed (text us) n.env.heap.state)
  unfolding intern
  is_noted = ap (λ (o : Option ℕ). known_or o us n.env.heap.state) none

  new_adds : Adds n.env.heap.state held.state
  new_adds = by r a
    where
      by : (q : Result ℕ AllocFault) → Allocates q (intern us n.env.heap.state) n.env.heap.state held.state → Adds n.env.heap.state held.state
      by (Ok k) e = text_adds us n.env.heap.state held.state (noted_new us n.env.heap.state held.state k (sym is_noted ∙ e))
      by (Err fault.Full) e = same_adds n.env.heap.state held.state e.1
      by (Err fault.OutOfMemory) e = same_adds n.env.heap.state held.state e

  pub new_gives : GivesUnless stop.OutOfMemory (made_or r) (interned_text us (named n)) (named (with_heap held n))
  unfolding interned_text named
  new_gives = by r a
    where
      by : (q : Result ℕ AllocFault) → Allocates q (intern us n.env.heap.state) n.env.heap.state held.state
          → GivesUnless stop.OutOfMemory (made_or q) (interned_in (named n) (intern us (unclassed_state n.env.heap.state))) (named (with_heap held n))
      by (Ok k) e =
          ap (interned_in (named n)) (unclassed_intern us n.env.heap.state ∙ ap (unclassed_result {A = ℕ}) e)
          ∙ ap (λ s. Ok (k, s)) (sym (named_adds n (record n.env { heap = held }) new_adds))
      by (Err fault.Full) e = λ w. ap (interned_in (named n)) (unclassed_intern us n.env.heap.state ∙ ap (unclassed_result {A = ℕ}) e.0)
      by (Err fault.OutOfMemory) e = λ w. absurd (w refl)

  pub new_err : OnErr (made_or r) (named (with_heap held n) ≡ named n)
  new_err = by r a
    where
      by : (q : Result ℕ AllocFault) → Allocates q (intern us n.env.heap.state) n.env.heap.state held.state → OnErr (made_or q) (named (with_heap held n) ≡ named n)
      by (Ok k) e = tt
      by (Err fault.Full) e = named_heap held n e.1
      by (Err fault.OutOfMemory) e = named_heap held n e

  pub new_sound : IsSound n own → IsSound (with_heap held n) own
  new_sound s = sound_adds n (record n.env { heap = held }) new_adds own s refl

  -- ---- machine memory that was taken before

  pub new_room : OnOk r (Takes n.env.heap.spare held.spare 1 1 (words_needed Text (length us))) → (count : ℕ) → MayIntern n (suc count) → OnOk (made_or r) (MayIntern (with_heap held n) count)
  new_room t count m = by r a t
    where
      by : (q : Result ℕ AllocFault) → Allocates q (intern us n.env.heap.state) n.env.heap.state held.state → OnOk q (Takes n.env.heap.spare held.spare 1 1 (words_needed Text (length us)))
          → OnOk (made_or q) (MayIntern (with_heap held n) count)
      by (Ok k) e takes =
          let p = noted_new us n.env.heap.state held.state k (sym is_noted ∙ e) in
          let more : words held.state.objects ≡ words n.env.heap.state.objects + words_needed Text (length us) = ap words p.objects ∙ words_push n.env.heap.state.objects (text us) in
          let size = p.size in
          let old_objects = m.objects in let old_texts = m.texts in let old_words = m.words in
          let objects = takes.objects in let texts = takes.texts in let spare = takes.words in
          record { objects = omega (arith, old_objects, objects); texts = omega (arith, old_texts, texts); words = rw (size, more) (omega (arith, old_words, spare)) }
      by (Err fault.Full) e takes = tt
      by (Err fault.OutOfMemory) e takes = tt

  pub new_within : MayIntern n 1 → IsOk (interned_text us (named n)) → (HasRoom n.env.heap.spare 1 1 (words_needed Text (length us)) → r ≢ Err fault.OutOfMemory) → IsOk (made_or r)
  unfolding interned_text named
  new_within m ok never = by r refl a
    where
      good : IsOk (interned_in (named n) (unclassed_result {A = ℕ} (intern us n.env.heap.state)))
      good = subst (λ (x : Result (ℕ × State) AllocFault). IsOk (interned_in (named n) x)) (unclassed_intern us n.env.heap.state) ok

      fits : (q : Result (ℕ × State) AllocFault) → intern us n.env.heap.state ≡ q → IsOk (interned_in (named n) (unclassed_result {A = ℕ} q)) → words n.env.heap.state.objects + words_needed Text (length us) ≤ n.env.heap.state.size
      fits (Ok x) e g = (noted_new us n.env.heap.state x.1 x.0 (sym is_noted ∙ e)).room
      fits (Err f) e g = absurd (let k : false ≡ true = g in cc)

      room : HasRoom n.env.heap.spare 1 1 (words_needed Text (length us))
      room =
          let f = fits (intern us n.env.heap.state) refl good in
          let w = m.words in
          record { objects = m.objects; texts = m.texts; words = omega (arith, f, w) }

      by : (q : Result ℕ AllocFault) → r ≡ q → Allocates q (intern us n.env.heap.state) n.env.heap.state held.state → IsOk (made_or q)
      by (Ok k) e h = refl
      by (Err fault.Full) e h = absurd (let k : false ≡ true = subst (λ (x : Result (ℕ × State) AllocFault). IsOk (interned_in (named n) (unclassed_result {A = ℕ} x))) h.0 good in cc)
      by (Err fault.OutOfMemory) e h = absurd (never room e)

-- ---- a text that is interned

module _ (n : Numbered) (us : List ℕ) (k : ℕ) (e : interned n.env.heap.state.objects n.env.heap.state.texts us ≡ Some k) where
  pub known_gives : interned_text us (named n) ≡ Ok (k, named n)
  unfolding interned_text named intern
  known_gives =
      ap (interned_in (named n)) (unclassed_intern us n.env.heap.state ∙ ap (λ (o : Option ℕ). unclassed_result {A = ℕ} (known_or o us n.env.heap.state)) e)
      ∙ ap (λ s. Ok (k, s)) (sym (named_adds n n.env (same_adds n.env.heap.state n.env.heap.state refl)))

pub known_there : (n : Numbered) (k : ℕ) → k < length n.env.heap.state.objects → k < length (named n).heap.objects
unfolding named
known_there n k h = subst (λ (count : ℕ). k < count) (sym (unclassed_length n.env.heap.state.objects)) h

-- one text less
pub may_fewer : (n : Numbered) (count : ℕ) → MayIntern n (suc count) → MayIntern n count
may_fewer n count m = let o = m.objects in let t = m.texts in record { objects = omega (arith, o); texts = omega (arith, t); words = m.words }
