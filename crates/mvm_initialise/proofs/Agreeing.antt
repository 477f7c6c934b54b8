-- The constants of a class can be set exactly where the words of their texts are there.
use Rattle.std.proofs.Common.{◌≡◌, ◌≢◌, ◌<◌, ◌≤◌, ℕ, zero, suc, ◌+◌, ◌-◌, ◌^◌, min, Bool, true, false, cond, not, ◌||◌, List, [], ◌∷◌, ◌++◌, length, get_or, is_some, IfSome, IfOk, IfErr, OnOk, Option, Some, None, Result, Ok, Err, IsOk, ◌⊎◌, inl, inr, refl, sym, ap, ◌∙◌, subst, arith, All, lt-ltb, le-ltb, ltb-true, ltb-false}
use Rattle.std.specs.Prelude.{nat_lt, if◌then◌else◌}
use Rattle.std.specs.Str.{bytes_eq}
use Rattle.std.proofs.lemmas.Bool.{cases_lt}
use Rattle.std.proofs.lemmas.List.{get_or_append_left, get_or_at, get_or_past, length_push}
use Rattle.std.proofs.lemmas.List.Elements.{All-head, All-tail}
use Rattle.mvm_base.specs.Answers.{◌>>=◌}
use Rattle.mvm_heap.specs.Heap.{words, words_of, placed, interned, intern, noted, nothing, object_at, free}
use Rattle.mvm_heap.specs.Heap as heap
use Rattle.mvm_heap.specs.Objects.{Object, State}
use Rattle.mvm_heap.specs.declared.kind.AllocFault.{AllocFault}
use Rattle.mvm_heap.specs.declared.kind.AllocFault.TheVariants.{Full}
use Rattle.mvm_layout.specs.Flags.{is_static}
use Rattle.mvm_layout.specs.Pool.{entry, text}
use Rattle.mvm_layout.specs.declared.parts.Item.{Item}
use Rattle.mvm_layout.specs.declared.parts.Item.TheVariants as item
use Rattle.mvm_layout.specs.declared.parts.Member.{Member}
use Rattle.mvm_layout.specs.declared.parts.Parts.{Parts}
use Rattle.mvm_base.specs.declared.value.Word.{Word}
use Rattle.mvm_base.specs.declared.value.Word.TheVariants as word
use Rattle.mvm_native.specs.declared.out.Thrown.TheVariants.{OutOfMemoryError}
use Rattle.mvm_isolate.specs.Initialise.{as_reference, text_constant, constant, constant_set, constant_given, constants_set, static_set}
use Rattle.mvm_isolate.specs.Isolate.{Isolate, stopped, interned_text, interned_in}
use Rattle.mvm_isolate.specs.declared.stop.Stop.{Stop}
use Rattle.mvm_isolate.specs.declared.stop.Stop.TheVariants.{Throw, OutOfMemory}
use Rattle.mvm_initialise.specs.Constants.{constant_text, constant_texts, field_set, in_front, is_interned, text_at, text_by, words_wanted, IsThere, IsThrownAt, MayBeSet}
use Rattle.mvm_initialise.specs.Words.{has_words}
use Rattle.mvm_initialise.proofs.Wanted.{same_wanted}

-- ---- one interned text more

abbrev or_last : Bool → ℕ → Option ℕ → Option ℕ
or_last b n other = if b then Some n else other

-- the number, unless there is one already
abbrev first : Option ℕ → Option ℕ → Option ℕ
first (Some n) other = Some n
first None other = other

cons_by : (os : List Object) (t : ℕ) (ts units : List ℕ) (r : Option ℕ) → interned os ts units ≡ r → interned os (t ∷ ts) units ≡ first r (or_last (bytes_eq (object_at os t).contents units) t None)
unfolding interned
cons_by os t ts units (Some n) e = rw e refl
cons_by os t ts units None e = rw e refl

interned_cons : (os : List Object) (t : ℕ) (ts units : List ℕ) → interned os (t ∷ ts) units ≡ first (interned os ts units) (or_last (bytes_eq (object_at os t).contents units) t None)
interned_cons os t ts units = cons_by os t ts units _ refl

interned_nil : (os : List Object) (units : List ℕ) → interned os [] units ≡ None
unfolding interned
interned_nil os units = refl

-- the text of a number that is there stays, and at the next one stands the new one
tail_there : (os : List Object) (r h : Option ℕ) → IfSome (first r h) (λ n. n < length os) → IfSome r (λ n. n < length os)
tail_there os (Some n) h there = there
tail_there os None h there = tt

test_same : (os : List Object) (units other : List ℕ) (t : ℕ) (b : Bool) → bytes_eq units other ≡ false → bytes_eq (object_at os t).contents other ≡ b → IfSome (or_last b t None) (λ n. n < length os)
    → bytes_eq (object_at (os ++ heap.text units ∷ []) t).contents other ≡ b
test_same os units other t true apart e there =
    let is : object_at (os ++ heap.text units ∷ []) t ≡ object_at os t = get_or_append_left os (heap.text units ∷ []) nothing t there in
    rw is e
test_same os units other t false apart e there = by (cases_lt t (length os))
  where
    behind : (ts : List Object) (k : ℕ) (x : Object) → length ts ≤ k → (get_or (ts ++ x ∷ []) k nothing ≡ x) ⊎ (get_or (ts ++ x ∷ []) k nothing ≡ nothing)
    behind [] zero x h = inl refl
    behind [] (suc k) x h = inr refl
    behind (t ∷ ts) zero x h = absurd (omega (arith, h))
    behind (t ∷ ts) (suc k) x h = behind ts k x (omega (arith, h))

    by_object : (length os ≤ t) → (object_at (os ++ heap.text units ∷ []) t ≡ heap.text units) ⊎ (object_at (os ++ heap.text units ∷ []) t ≡ nothing) → bytes_eq (object_at (os ++ heap.text units ∷ []) t).contents other ≡ false
    by_object past (inl is) = rw is apart
    by_object past (inr is) =
        let was : object_at os t ≡ nothing = get_or_past os t nothing past in
        rw is (ap (λ (o : Object). bytes_eq o.contents other) (sym was) ∙ e)

    by : (t < length os) ⊎ (length os ≤ t) → bytes_eq (object_at (os ++ heap.text units ∷ []) t).contents other ≡ false
    by (inl h) =
        let is : object_at (os ++ heap.text units ∷ []) t ≡ object_at os t = get_or_append_left os (heap.text units ∷ []) nothing t h in
        rw is e
    by (inr h) = by_object h (behind os t (heap.text units) h)

same_head : (os : List Object) (units other : List ℕ) (t : ℕ) (r q : Option ℕ) → r ≡ q → bytes_eq units other ≡ false
    → IfSome (first r (or_last (bytes_eq (object_at os t).contents other) t None)) (λ n. n < length os)
    → first q (or_last (bytes_eq (object_at (os ++ heap.text units ∷ []) t).contents other) t None) ≡ first r (or_last (bytes_eq (object_at os t).contents other) t None)
same_head os units other t (Some n) q e apart there = rw (← e) refl
same_head os units other t None q e apart there =
    let test : bytes_eq (object_at (os ++ heap.text units ∷ []) t).contents other ≡ bytes_eq (object_at os t).contents other = test_same os units other t (bytes_eq (object_at os t).contents other) apart refl there in
    rw (← e, test) refl

-- other units are found where they were
same_found : (os : List Object) (ts : List ℕ) (units other : List ℕ) → bytes_eq units other ≡ false → IfSome (interned os ts other) (λ n. n < length os)
    → interned (os ++ heap.text units ∷ []) ts other ≡ interned os ts other
same_found os [] units other apart there = interned_nil (os ++ heap.text units ∷ []) other ∙ sym (interned_nil os other)
same_found os (t ∷ ts) units other apart there =
    let whole : IfSome (first (interned os ts other) (or_last (bytes_eq (object_at os t).contents other) t None)) (λ n. n < length os) =
    subst (λ (r : Option ℕ). IfSome r (λ n. n < length os)) (interned_cons os t ts other) there in
    let rest : interned (os ++ heap.text units ∷ []) ts other ≡ interned os ts other = same_found os ts units other apart (tail_there os (interned os ts other) _ whole) in
    interned_cons (os ++ heap.text units ∷ []) t ts other
    ∙ (same_head os units other t (interned os ts other) (interned (os ++ heap.text units ∷ []) ts other) (sym rest) apart whole
    ∙ sym (interned_cons os t ts other))

last_over : (b : Bool) (n : ℕ) (r h : Option ℕ) → first (or_last b n r) h ≡ or_last b n (first r h)
last_over true n r h = refl
last_over false n r h = refl

-- the text that was interned last is looked at first
last_first : (os : List Object) (ts : List ℕ) (n : ℕ) (other : List ℕ) → interned os (ts ++ n ∷ []) other ≡ or_last (bytes_eq (object_at os n).contents other) n (interned os ts other)
last_first os [] n other =
    interned_cons os n [] other
    ∙ (ap (λ (r : Option ℕ). first r (or_last (bytes_eq (object_at os n).contents other) n None)) (interned_nil os other)
    ∙ sym (ap (or_last (bytes_eq (object_at os n).contents other) n) (interned_nil os other)))
last_first os (t ∷ ts) n other =
    let b : Bool = bytes_eq (object_at os n).contents other in
    let head : Option ℕ = or_last (bytes_eq (object_at os t).contents other) t None in
    let rest : Option ℕ = interned os ts other in
    interned_cons os t (ts ++ n ∷ []) other
    ∙ (ap (λ (r : Option ℕ). first r head) (last_first os ts n other)
    ∙ (last_over b n rest head
    ∙ sym (ap (or_last b n) (interned_cons os t ts other))))

-- the objects and the texts with one interned text more
abbrev with_text : List ℕ → State → State
with_text units h = record h { objects = h.objects ++ heap.text units ∷ []; monitors = h.monitors ++ free ∷ []; texts = h.texts ++ length h.objects ∷ [] }

found_by : (h : State) (units other : List ℕ) (b : Bool) → bytes_eq units other ≡ b → IsThere h other
    → or_last b (length h.objects) (interned (h.objects ++ heap.text units ∷ []) h.texts other) ≡ or_last b (length h.objects) (interned h.objects h.texts other)
found_by h units other true e there = refl
found_by h units other false e there = same_found h.objects h.texts units other e there

found_next : (h : State) (units other : List ℕ) → IsThere h other
    → interned (h.objects ++ heap.text units ∷ []) (h.texts ++ length h.objects ∷ []) other ≡ or_last (bytes_eq units other) (length h.objects) (interned h.objects h.texts other)
found_next h units other there =
    let new : object_at (h.objects ++ heap.text units ∷ []) (length h.objects) ≡ heap.text units = get_or_at h.objects (heap.text units) [] nothing (length h.objects) refl in
    last_first (h.objects ++ heap.text units ∷ []) h.texts (length h.objects) other
    ∙ (ap (λ (o : Object). or_last (bytes_eq o.contents other) (length h.objects) (interned (h.objects ++ heap.text units ∷ []) h.texts other)) new
    ∙ found_by h units other (bytes_eq units other) refl there)

some_last : (b : Bool) (n : ℕ) (r : Option ℕ) → is_some (or_last b n r) ≡ (b || is_some r)
some_last true n r = refl
some_last false n r = refl

interned_next : (h : State) (units other : List ℕ) → IsThere h other → is_interned (with_text units h) other ≡ (bytes_eq units other || is_interned h other)
interned_next h units other there = ap is_some (found_next h units other there) ∙ some_last (bytes_eq units other) (length h.objects) (interned h.objects h.texts other)

last_there : (n : ℕ) (b : Bool) (r : Option ℕ) → IfSome r (λ k. k < n) → IfSome (or_last b n r) (λ k. k < n + 1)
last_there n true r there = omega arith
last_there n false (Some k) there = omega (arith, there)
last_there n false None there = tt

there_next : (h : State) (units other : List ℕ) → IsThere h other → IsThere (with_text units h) other
there_next h units other there =
    subst (λ (n : ℕ). IfSome (interned (h.objects ++ heap.text units ∷ []) (h.texts ++ length h.objects ∷ []) other) (λ k. k < n)) (sym (length_push h.objects (heap.text units)))
    (subst (λ (r : Option ℕ). IfSome r (λ k. k < length h.objects + 1)) (sym (found_next h units other there)) (last_there (length h.objects) (bytes_eq units other) (interned h.objects h.texts other) there))

-- ---- words

pub words_append : (os : List Object) (o : Object) → words (os ++ o ∷ []) ≡ words os + words_of o
unfolding words
words_append [] o = omega arith
words_append (x ∷ os) o = let e : words (os ++ o ∷ []) ≡ words os + words_of o = words_append os o in omega (arith, e)

-- so many words are there in a heap
abbrev pub fits : ℕ → State → Result (Unit {0}) Stop
fits wanted h = if nat_lt h.size (words h.objects + wanted) then stopped OutOfMemoryError else Ok tt

pub fits_is : (wanted : ℕ) (s : Isolate) → has_words wanted s ≡ fits wanted s.heap
unfolding has_words
fits_is wanted s = refl

-- what is asked of the words agrees with what the definition gives
abbrev pub Agrees : {A : Type 0} → Result (Unit {0}) Stop → Result A Stop → Type 0
Agrees (Ok x) definition = IsOk definition
Agrees (Err fault) definition = definition ≡ Err fault

-- ---- one field

-- the heap that a text of these units leaves, if there is a text
abbrev ByIntern : Result (ℕ × State) AllocFault → Result Isolate Stop → Type 0
ByIntern (Ok x) (Ok t) = t.heap ≡ x.1
ByIntern (Ok x) (Err e) = ⊥
ByIntern (Err fault) (Ok t) = ⊥
ByIntern (Err fault) (Err e) = e ≡ Throw OutOfMemoryError

abbrev HeapGoes : State → Option (List ℕ) → Result Isolate Stop → Type 0
HeapGoes h None (Ok t) = t.heap ≡ h
HeapGoes h None (Err e) = ⊥
HeapGoes h (Some units) r = ByIntern (intern units h) r

heap_kept : (class : List ℕ) (name desc : Option (List ℕ)) (value : Word) (s : Isolate) → (constant_set class name desc (value, s)).heap ≡ s.heap
unfolding static_set
heap_kept class (Some name) (Some desc) value s = refl
heap_kept class (Some name) None value s = refl
heap_kept class None (Some desc) value s = refl
heap_kept class None None value s = refl

abbrev set_in : List ℕ → Option (List ℕ) → Option (List ℕ) → Result (Word × Isolate) Stop → Result Isolate Stop
set_in class name desc r = r >>= λ x. Ok (constant_set class name desc x)

goes_interned : (class : List ℕ) (name desc : Option (List ℕ)) (s : Isolate) (r : Result (ℕ × State) AllocFault) → ByIntern r (set_in class name desc (as_reference (interned_in s r)))
goes_interned class name desc s (Ok x) = heap_kept class name desc (word.Ref x.0) _
goes_interned class name desc s (Err fault) = refl

goes_text : (class : List ℕ) (name desc : Option (List ℕ)) (s : Isolate) (units : Option (List ℕ)) → HeapGoes s.heap units (set_in class name desc (text_constant units s))
unfolding interned_text
goes_text class name desc s (Some units) = goes_interned class name desc s (intern units s.heap)
goes_text class name desc s None = heap_kept class name desc word.Null s

goes_item : (pool : List Item) (class : List ℕ) (name desc : Option (List ℕ)) (s : Isolate) (e : Option Item) → HeapGoes s.heap (text_at pool e) (set_in class name desc (constant pool e s))
goes_item pool class name desc s (Some (item.Str units)) = goes_text class name desc s (text pool units)
goes_item pool class name desc s (Some (item.Integer n)) = heap_kept class name desc (word.Int n) s
goes_item pool class name desc s (Some (item.Long n)) = heap_kept class name desc (word.Long n) s
goes_item pool class name desc s _ = heap_kept class name desc word.Null s

goes_by : (class : List ℕ) (file : Parts) (field : Member) (s : Isolate) (b : Bool) (index : Option ℕ)
    → HeapGoes s.heap (if b then text_by file.pool index else None) (if b then constant_given class file field index s else Ok s)
goes_by class file field s false index = refl
goes_by class file field s true None = refl
goes_by class file field s true (Some index) = goes_item file.pool class (text file.pool field.name) (text file.pool field.desc) s (entry file.pool index)

goes : (class : List ℕ) (file : Parts) (field : Member) (s : Isolate) → HeapGoes s.heap (constant_text file.pool field) (field_set class file field s)
goes class file field s = goes_by class file field s (is_static field.flags) field.constant

-- ---- all of them

module _ (class : List ℕ) (file : Parts) where
  abbrev Suffices : List Member → List (List ℕ) → Type 0
  Suffices fields texts = (h : State) (t : Isolate) → t.heap ≡ h → All (IsThere h) texts → words h.objects ≤ h.size → Agrees (fits (words_wanted (is_interned h) texts) h) (constants_set class file fields t)

  abbrev Next : List Member → ℕ → State → Result Isolate Stop → Type 0
  Next fields wanted h r = Agrees (fits wanted h) (r >>= constants_set class file fields)

  -- a text that is interned takes no words
  next_known : (fields : List Member) (units : List ℕ) (others : List (List ℕ)) (h : State) (n : ℕ) (r : Result Isolate Stop) → Suffices fields others
      → interned h.objects h.texts units ≡ Some n → ByIntern (Ok (n, h)) r → All (IsThere h) others → words h.objects ≤ h.size → Next fields (words_wanted (is_interned h) (units ∷ others)) h r
  unfolding words_wanted
  next_known fields units others h n (Ok t) all e goes there within =
      let known : is_interned h units ≡ true = ap is_some e in
      rw known (all h t goes there within)
  next_known fields units others h n (Err f) all e goes there within = absurd goes

  -- a new one takes its own
  next_lacks : (fields : List Member) (units : List ℕ) (others : List (List ℕ)) (h : State) (r : Result Isolate Stop)
      → interned h.objects h.texts units ≡ None → nat_lt h.size (words h.objects + words_of (heap.text units)) ≡ true → ByIntern (Err Full) r → Next fields (words_wanted (is_interned h) (units ∷ others)) h r
  unfolding words_wanted
  next_lacks fields units others h (Ok t) e lacks goes = absurd goes
  next_lacks fields units others h (Err f) e lacks goes =
      let known : is_interned h units ≡ false = ap is_some e in
      let more : h.size < words h.objects + words_of (heap.text units) = ltb-true _ _ lacks in
      let test : nat_lt h.size (words h.objects + (words_of (heap.text units) + words_wanted (λ other. bytes_eq units other || is_interned h other) others)) ≡ true = lt-ltb _ _ (omega (arith, more)) in
      rw (known, test) (ap (λ (x : Stop). Err x) goes)

  next_made : (fields : List Member) (units : List ℕ) (others : List (List ℕ)) (h : State) (r : Result Isolate Stop) → Suffices fields others
      → interned h.objects h.texts units ≡ None → nat_lt h.size (words h.objects + words_of (heap.text units)) ≡ false → ByIntern (Ok (length h.objects, with_text units h)) r → All (IsThere h) others
      → Next fields (words_wanted (is_interned h) (units ∷ others)) h r
  unfolding words_wanted
  next_made fields units others h (Err f) all e fit goes there = absurd goes
  next_made fields units others h (Ok t) all e fit goes there =
      let known : is_interned h units ≡ false = ap is_some e in
      let within : words h.objects + words_of (heap.text units) ≤ h.size = ltb-false _ _ fit in
      let more : words (h.objects ++ heap.text units ∷ []) ≡ words h.objects + words_of (heap.text units) = words_append h.objects (heap.text units) in
      let same : words_wanted (is_interned (with_text units h)) others ≡ words_wanted (λ other. bytes_eq units other || is_interned h other) others =
      same_wanted others (is_interned (with_text units h)) (λ other. bytes_eq units other || is_interned h other) (λ k d l. interned_next h units (get_or others k d) (there k d l)) in
      let sum : words (h.objects ++ heap.text units ∷ []) + words_wanted (is_interned (with_text units h)) others ≡ words h.objects + (words_of (heap.text units) + words_wanted (λ other. bytes_eq units other || is_interned h other) others) = omega (arith, more, same) in
      let rest : Agrees (fits (words_wanted (is_interned (with_text units h)) others) (with_text units h)) (constants_set class file fields t) =
      all (with_text units h) t goes (λ k d l. there_next h units (get_or others k d) (there k d l)) (omega (arith, more, within)) in
      rw known (subst (λ (n : ℕ). Agrees (if nat_lt h.size n then stopped OutOfMemoryError else Ok tt) (constants_set class file fields t)) sum rest)

  next_new : (fields : List Member) (units : List ℕ) (others : List (List ℕ)) (h : State) (r : Result Isolate Stop) (lacks : Bool) → Suffices fields others
      → interned h.objects h.texts units ≡ None → nat_lt h.size (words h.objects + words_of (heap.text units)) ≡ lacks → ByIntern (noted (placed (heap.text units) h)) r → All (IsThere h) others
      → Next fields (words_wanted (is_interned h) (units ∷ others)) h r
  unfolding placed
  next_new fields units others h r true all e lacks goes there = next_lacks fields units others h r e lacks (rw lacks at goes)
  next_new fields units others h r false all e lacks goes there = next_made fields units others h r all e lacks (rw lacks at goes) there

  next_by : (fields : List Member) (units : List ℕ) (others : List (List ℕ)) (h : State) (r : Result Isolate Stop) (known : Option ℕ) → Suffices fields others
      → interned h.objects h.texts units ≡ known → ByIntern (heap.known_or known units h) r → All (IsThere h) others → words h.objects ≤ h.size → Next fields (words_wanted (is_interned h) (units ∷ others)) h r
  next_by fields units others h r (Some n) all e goes there within = next_known fields units others h n r all e goes there within
  next_by fields units others h r None all e goes there within = next_new fields units others h r _ all e refl goes there

  next : (fields : List Member) (found : Option (List ℕ)) (others : List (List ℕ)) (h : State) (r : Result Isolate Stop) → Suffices fields others
      → HeapGoes h found r → All (IsThere h) (in_front found others) → words h.objects ≤ h.size → Next fields (words_wanted (is_interned h) (in_front found others)) h r
  unfolding intern
  next fields None others h (Ok t) all goes there within = all h t goes there within
  next fields None others h (Err f) all goes there within = absurd goes
  next fields (Some units) others h r all goes there within =
      next_by fields units others h r (interned h.objects h.texts units) all refl goes (All-tail (IsThere h) units others there) within

  none_more : (h : State) (t : Isolate) → words h.objects ≤ h.size → Agrees (fits (words_wanted (is_interned h) []) h) (constants_set class file [] t)
  unfolding words_wanted constants_set
  none_more h t within =
      let test : nat_lt h.size (words h.objects + 0) ≡ false = le-ltb _ _ (omega (arith, within)) in
      rw test refl

  suffices : (fields : List Member) → Suffices fields (constant_texts file.pool fields)
  unfolding constants_set constant_texts
  suffices [] h t e there within = none_more h t within
  suffices (field ∷ fields) h t e there within =
      next fields (constant_text file.pool field) (constant_texts file.pool fields) h (field_set class file field t) (suffices fields)
      (subst (λ (x : State). HeapGoes x (constant_text file.pool field) (field_set class file field t)) e (goes class file field t)) there within

-- ---- by what was asked

module _ (file : Parts) (s : Isolate) where
  pub may_be_set : (r : Result (Unit {0}) Stop) → r ≡ has_words (words_wanted (is_interned s.heap) (constant_texts file.pool file.fields)) s → All (IsThere s.heap) (constant_texts file.pool file.fields)
      → words s.heap.objects ≤ s.heap.size → OnOk r (MayBeSet file s.heap)
  may_be_set (Ok x) e there within = λ class t same.
      subst (λ (r : Result (Unit {0}) Stop). Agrees r (constants_set class file file.fields t)) (sym (e ∙ fits_is _ s)) (suffices class file file.fields s.heap t same there within)
  may_be_set (Err fault) e there within = tt

  pub is_thrown : (r : Result (Unit {0}) Stop) → r ≡ has_words (words_wanted (is_interned s.heap) (constant_texts file.pool file.fields)) s → All (IsThere s.heap) (constant_texts file.pool file.fields)
      → words s.heap.objects ≤ s.heap.size → IfErr r (λ fault. fault ≢ OutOfMemory → IsThrownAt file s.heap fault)
  is_thrown (Ok x) e there within = tt
  is_thrown (Err fault) e there within = λ other class t same.
      subst (λ (r : Result (Unit {0}) Stop). Agrees r (constants_set class file file.fields t)) (sym (e ∙ fits_is _ s)) (suffices class file file.fields s.heap t same there within)

pub on_ok : {P : Type 0} (r : Result (Unit {0}) Stop) → P → OnOk r P
on_ok (Ok x) p = p
on_ok (Err fault) p = tt
