-- What an allocation answers.
use Rattle.std.proofs.Common.{◌≡◌, ℕ, ◌+◌, ◌<◌, ◌≤◌, List, [], ◌∷◌, ◌++◌, length, Ok, Err, Some, None, refl, ap, arith}
use Rattle.std.proofs.lemmas.Bool.{lt-ltb, le-ltb}
use Rattle.std.proofs.lemmas.List.{length-replicate}
use Rattle.mvm_heap.specs.declared.kind.AllocFault.TheVariants.{Full}
use Rattle.mvm_heap.specs.declared.kind.ObjectKind.{ObjectKind}
use Rattle.mvm_heap.specs.declared.kind.ObjectKind.TheVariants.{Text}
use Rattle.mvm_heap.specs.Objects.{Object, State, Stored}
use Rattle.mvm_heap.specs.Sorts.{words_needed}
use Rattle.mvm_heap.specs.Heap.{words, words_of, placed, zeros, free, text, intern, interned, noted}

abbrev pub state_of : Stored → List ℕ → State
state_of s ts = record { objects = s.objects; monitors = s.monitors; texts = ts; size = s.size }

placed_fits : (o : Object) (s : State) → words s.objects + words_of o ≤ s.size → placed o s ≡ Ok (length s.objects, record s { objects = s.objects ++ o ∷ []; monitors = s.monitors ++ free ∷ [] })
unfolding placed
placed_fits o s h = rw (le-ltb s.size (words s.objects + words_of o) h) refl

placed_full : (o : Object) (s : State) → s.size < words s.objects + words_of o → placed o s ≡ Err Full
unfolding placed
placed_full o s h = rw (lt-ltb s.size (words s.objects + words_of o) h) refl

zeros_words : (s : ObjectKind) (class n : ℕ) → words_of (zeros s class n) ≡ words_needed s n
zeros_words s class n = ap (words_needed s) (length-replicate {A = ℕ} n 0)

pub allocated : (old new : Stored) (ts : List ℕ) (s : ObjectKind) (class len n : ℕ) → words old.objects + words_needed s len ≤ old.size → n ≡ length old.objects
    → new ≡ record { objects = old.objects ++ zeros s class len ∷ []; monitors = old.monitors ++ free ∷ []; size = old.size } → placed (zeros s class len) (state_of old ts) ≡ Ok (n, state_of new ts)
allocated old new ts s class len n w e a = rw (e, a) (placed_fits (zeros s class len) (state_of old ts) (omega (arith, w, zeros_words s class len)))

pub refused : (old new : Stored) (ts : List ℕ) (s : ObjectKind) (class len : ℕ) → old.size < words old.objects + words_needed s len → new ≡ old
    → (placed (zeros s class len) (state_of old ts) ≡ Err Full) × (state_of new ts ≡ state_of old ts)
refused old new ts s class len w e = (placed_full (zeros s class len) (state_of old ts) (omega (arith, w, zeros_words s class len)), ap (λ (x : Stored). state_of x ts) e)

-- ---- the same for a text, whose words are those of as many zeros

pub texts_allocated : (old new : Stored) (ts : List ℕ) (us : List ℕ) (n : ℕ) → words old.objects + words_needed Text (length us) ≤ old.size → n ≡ length old.objects
    → new ≡ record { objects = old.objects ++ text us ∷ []; monitors = old.monitors ++ free ∷ []; size = old.size } → placed (text us) (state_of old ts) ≡ Ok (n, state_of new ts)
texts_allocated old new ts us n w e a = rw (e, a) (placed_fits (text us) (state_of old ts) (omega (arith, w)))

pub texts_refused : (old new : Stored) (ts : List ℕ) (us : List ℕ) → old.size < words old.objects + words_needed Text (length us) → new ≡ old
    → (placed (text us) (state_of old ts) ≡ Err Full) × (state_of new ts ≡ state_of old ts)
texts_refused old new ts us w e = (placed_full (text us) (state_of old ts) (omega (arith, w)), ap (λ (x : Stored). state_of x ts) e)

pub intern_some : (us : List ℕ) (s : State) (n : ℕ) → Some n ≡ interned s.objects s.texts us → intern us s ≡ Ok (n, s)
unfolding intern
intern_some us s n e = rw (← e) refl

pub intern_none : (us : List ℕ) (s : State) → None ≡ interned s.objects s.texts us → intern us s ≡ noted (placed (text us) s)
unfolding intern
intern_none us s e = rw (← e) refl
