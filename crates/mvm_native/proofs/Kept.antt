-- What a native method leaves of the heap.
use Rattle.std.proofs.Common.{◌≡◌, ℕ, ◌+◌, ◌*◌, List, [], ◌∷◌, ◌++◌, length, set, Bool, true, false, cond, Option, Some, None, Result, Ok, Err, refl, sym, ◌∙◌, append-nil}
use Rattle.std.specs.Prelude.{nat_le, nat_lt, max, ℤ}
use Rattle.std.proofs.lemmas.List.{map-append}
use Rattle.std.proofs.lemmas.List.Elements.{All-cons, All-nil}
use Rattle.std.proofs.Math.Seq.{map-set_same}
use Rattle.mvm_base.specs.declared.value.Word.{Word}
use Rattle.mvm_base.specs.declared.value.Word.TheVariants.{Ref}
use Rattle.mvm_builtin.specs.declared.natives.Native.{Native}
use Rattle.mvm_builtin.specs.declared.natives.Native.TheVariants as native
use Rattle.mvm_heap.specs.Heap.{free, nothing, object_at, placed, put, text, words, words_of, written, zeros}
use Rattle.mvm_heap.specs.Objects.{Object, State}
use Rattle.mvm_heap.specs.Sorts.{bits_of}
use Rattle.mvm_heap.specs.declared.kind.AllocFault.{AllocFault}
use Rattle.mvm_heap.specs.declared.kind.AllocFault.TheVariants.{Full}
use Rattle.mvm_heap.specs.declared.kind.ItemKind.TheVariants.{Char}
use Rattle.mvm_heap.specs.declared.kind.ObjectKind.TheVariants.{Array}
use Rattle.mvm_history.specs.declared.end.LimitKind.TheVariants.{Output}
use Rattle.mvm_monitor.specs.Waits.{Waits}
use Rattle.mvm_native.specs.declared.out.Out.{Out}
use Rattle.mvm_native.specs.declared.out.Out.TheVariants.{Value, Throw, Limit, Wait}
use Rattle.mvm_native.specs.declared.out.Thrown.TheVariants.{IllegalMonitorStateException}
use Rattle.mvm_native.specs.Builders.{append, array_for, array_of, as_word, begun, begun_in, builder_to_string, built, chars_in, holding, init_builder, new_array, rebuilt}
use Rattle.mvm_native.specs.Calls.{called}
use Rattle.mvm_native.specs.Machine.{Machine, made}
use Rattle.mvm_native.specs.Objects.{owns, wait, waiting}
use Rattle.mvm_native.specs.Prints.{printed}
use Rattle.mvm_native.specs.Strings.{part_or_throw, span_in, substring, value_of}
use Rattle.mvm_native.specs.Texts.{units_at}
use Rattle.mvm_native.specs.Threads.{init_thread}
use Rattle.mvm_native.specs.Throwables.{init_throwable}
use Rattle.mvm_native.specs.Unclassed.{head_of, heads_of, Adds, IsMade, Keeps}

-- ---- what objects are

pub heads_set : (os : List Object) (n : ℕ) (o : Object) → head_of o ≡ head_of (object_at os n) → heads_of (set os n o) ≡ heads_of os
unfolding heads_of
heads_set os n o e = map-set_same head_of os n o nothing e

pub heads_push : (os : List Object) (o : Object) → heads_of (os ++ o ∷ []) ≡ heads_of os ++ head_of o ∷ []
unfolding heads_of
heads_push os o = map-append head_of os (o ∷ [])

pub heads_written : (os : List Object) (n place v : ℕ) → heads_of (written os n place v) ≡ heads_of os
unfolding written
heads_written os n place v = heads_set os n (put (object_at os n) place v) refl

pub heads_begun : (os : List Object) (w : Word) (us : List ℕ) → heads_of (begun_in os w us) ≡ heads_of os
unfolding begun
heads_begun os (Ref a) us = heads_set os a _ refl
heads_begun os _ us = refl

heads_two : (os : List Object) (n a b v w : ℕ) → heads_of (written (written os n a v) n b w) ≡ heads_of os
heads_two os n a b v w = heads_written (written os n a v) n b w ∙ heads_written os n a v

heads_holding : (os : List Object) (n count : ℕ) (w : Word) (us : List ℕ) → heads_of (holding n w count (begun_in os w us)) ≡ heads_of os
heads_holding os n count w us = heads_two (begun_in os w us) n 0 1 (bits_of w) count ∙ heads_begun os w us

-- ---- what is added

pub adds_nothing : (s : State) → Adds s s
adds_nothing s = record {
  more = [];
  heads = sym (append-nil (heads_of s.objects));
  made = All-nil IsMade;
  monitors = sym (append-nil s.monitors);
  texts = refl;
  size = refl;
}

adds_object : (o : Object) (s : State) → IsMade (head_of o) → Adds s (record s { objects = s.objects ++ o ∷ []; monitors = s.monitors ++ free ∷ [] })
adds_object o s h = record {
  more = head_of o ∷ [];
  heads = heads_push s.objects o;
  made = All-cons IsMade (head_of o) [] h (All-nil IsMade);
  monitors = refl;
  texts = refl;
  size = refl;
}

-- what is written then changes nothing of it
adds_written : (s t : State) (os : List Object) → Adds s t → heads_of os ≡ heads_of t.objects → Adds s (record t { objects = os })
adds_written s t os a e = record {
  more = a.more;
  heads = e ∙ a.heads;
  made = a.made;
  monitors = a.monitors;
  texts = a.texts;
  size = a.size;
}

abbrev AddsIn : {A : Type 0} → State → Result (A × State) AllocFault → Type 0
AddsIn s (Ok x) = Adds s x.1
AddsIn s (Err fault) = Unit {0}

adds_placed : (o : Object) (s : State) → IsMade (head_of o) → AddsIn s (placed o s)
unfolding placed
adds_placed o s h =
    let next : State = record s { objects = s.objects ++ o ∷ []; monitors = s.monitors ++ free ∷ [] } in
    let P : Bool → Type 0 = λ b. AddsIn s (cond {A = Result (ℕ × State) AllocFault} b (Err Full) (Ok (length s.objects, next))) in
    elim (nat_lt s.size (words s.objects + words_of o)) as P [ true ↦ tt | false ↦ adds_object o s h ]

adds_array : (n : ℕ) (s : State) → AddsIn s (new_array n s)
adds_array n s = as_words s (placed (zeros (Array Char) 0 n) s) (adds_placed (zeros (Array Char) 0 n) s (record { sort = tt; class = refl }))
  where
    as_words : (s : State) (r : Result (ℕ × State) AllocFault) → AddsIn s r → AddsIn s (as_word r)
    as_words s (Ok x) a = a
    as_words s (Err fault) a = tt

adds_array_for : (w : Word) (n : ℕ) (s : State) → AddsIn s (array_for w n s)
unfolding array_for
adds_array_for w n s =
    let k : ℕ = length (chars_in s.objects w) in
    let P : Bool → Type 0 = λ b. AddsIn s (cond {A = Result (Word × State) AllocFault} b (Ok (w, s)) (new_array (max (2 * k + 2) n) s)) in
    elim (nat_le n k) as P [ true ↦ adds_nothing s | false ↦ adds_array (max (2 * k + 2) n) s ]

-- ---- machines

keeps_heap : (m : Machine) (s : State) → Adds m.heap s → Keeps m (record m { heap = s })
keeps_heap m s a = record { heap = a; launch = refl; thread = refl; links = refl }

keeps_all : (m : Machine) (output : List ℕ) (waits : Waits) → Keeps m (record m { output = output; waits = waits })
keeps_all m output waits = record { heap = adds_nothing m.heap; launch = refl; thread = refl; links = refl }

keeps_made : (r : Result (ℕ × State) AllocFault) (m : Machine) → AddsIn m.heap r → Keeps m (made r m).1
keeps_made (Ok x) m a = keeps_heap m x.1 a
keeps_made (Err fault) m a = keeps_all m m.output m.waits

keeps_text : (us : List ℕ) (m : Machine) → Keeps m (made (placed (text us) m.heap) m).1
keeps_text us m = keeps_made (placed (text us) m.heap) m (adds_placed (text us) m.heap (record { sort = tt; class = refl }))

keeps_value : (us : List ℕ) (m : Machine) → Keeps m (value_of us m).1
unfolding value_of
keeps_value us m = keeps_text us m

keeps_part : (s : Option (ℕ × ℕ)) (us : List ℕ) (m : Machine) → Keeps m (part_or_throw s us m).1
keeps_part (Some s) us m = keeps_text _ m
keeps_part None us m = keeps_all m m.output m.waits

keeps_to_string : (n : ℕ) (m : Machine) → Keeps m (builder_to_string n m).1
unfolding builder_to_string
keeps_to_string n m = keeps_text (built m.heap.objects n) m

keeps_rebuilt : (n : ℕ) (us : List ℕ) (v : Option Word) (r : Result (Word × State) AllocFault) (m : Machine) → AddsIn m.heap r → Keeps m (rebuilt n us v r m).1
keeps_rebuilt n us v (Ok x) m a = keeps_heap m _ (adds_written m.heap x.1 _ a (heads_holding x.1.objects n (length us) x.0 us))
keeps_rebuilt n us v (Err fault) m a = keeps_all m m.output m.waits

keeps_begun : (n : ℕ) (m : Machine) → Keeps m (init_builder n m).1
unfolding init_builder
keeps_begun n m = keeps_rebuilt n [] None (new_array 16 m.heap) m (adds_array 16 m.heap)

keeps_append : (n : ℕ) (us : List ℕ) (m : Machine) → Keeps m (append n us m).1
unfolding append
keeps_append n us m =
    let whole : List ℕ = built m.heap.objects n ++ us in
    keeps_rebuilt n whole (Some (Ref n)) (array_for (array_of m.heap.objects n) (length whole) m.heap) m (adds_array_for (array_of m.heap.objects n) (length whole) m.heap)

keeps_substring : (n : ℕ) (a b : ℤ) (m : Machine) → Keeps m (substring n a b m).1
unfolding substring
keeps_substring n a b m = keeps_part (span_in a b (length (units_at m.heap.objects n))) (units_at m.heap.objects n) m

keeps_printed : (bytes : List ℕ) (m : Machine) → Keeps m (printed bytes m).1
unfolding printed
keeps_printed bytes m =
    let next : Machine = record m { output = m.output ++ bytes } in
    let P : Bool → Type 0 = λ b. Keeps m (cond {A = Out × Machine} b (Limit Output, m) (Value None, next)).1 in
    elim (nat_lt m.launch.limits.output (length m.output + length bytes)) as P [ true ↦ keeps_all m m.output m.waits | false ↦ keeps_all m (m.output ++ bytes) m.waits ]

keeps_wait : (object : ℕ) (m : Machine) → Keeps m (wait object m).1
unfolding wait
keeps_wait object m =
    let P : Bool → Type 0 = λ b. Keeps m (cond {A = Out × Machine} b (Wait object, waiting object m) (Throw IllegalMonitorStateException, m)).1 in
    elim (owns m object) as P [ true ↦ keeps_all m m.output (waiting object m).waits | false ↦ keeps_all m m.output m.waits ]

keeps_thread : (n : ℕ) (w : Word) (m : Machine) → Keeps m (init_thread n w m).1
unfolding init_thread
keeps_thread n w m = keeps_heap m _ (adds_written m.heap m.heap _ (adds_nothing m.heap) (heads_written m.heap.objects n 0 (bits_of w)))

keeps_throwable : (n : ℕ) (a b : Word) (m : Machine) → Keeps m (init_throwable n a b m).1
unfolding init_throwable
keeps_throwable n a b m = keeps_heap m _ (adds_written m.heap m.heap _ (adds_nothing m.heap) (heads_two m.heap.objects n 0 1 (bits_of a) (bits_of b)))

-- ---- the native methods

pub called_keeps : (native : Native) (args : List Word) (m : Machine) → Keeps m (called native args m).1
unfolding called
called_keeps native.Wait args m = keeps_wait _ m
called_keeps native.Substring args m = keeps_substring _ _ _ m
called_keeps native.ValueOfInt args m = keeps_value _ m
called_keeps native.ValueOfLong args m = keeps_value _ m
called_keeps native.ValueOfChar args m = keeps_value _ m
called_keeps native.ValueOfBoolean args m = keeps_value _ m
called_keeps native.InitBuilder args m = keeps_begun _ m
called_keeps native.AppendInt args m = keeps_append _ _ m
called_keeps native.AppendLong args m = keeps_append _ _ m
called_keeps native.AppendChar args m = keeps_append _ _ m
called_keeps native.AppendBoolean args m = keeps_append _ _ m
called_keeps native.AppendText args m = keeps_append _ _ m
called_keeps native.BuilderToString args m = keeps_to_string _ m
called_keeps native.PrintInt args m = keeps_printed _ m
called_keeps native.PrintLong args m = keeps_printed _ m
called_keeps native.PrintChar args m = keeps_printed _ m
called_keeps native.PrintBoolean args m = keeps_printed _ m
called_keeps native.PrintText args m = keeps_printed _ m
called_keeps native.PrintlnInt args m = keeps_printed _ m
called_keeps native.PrintlnLong args m = keeps_printed _ m
called_keeps native.PrintlnChar args m = keeps_printed _ m
called_keeps native.PrintlnBoolean args m = keeps_printed _ m
called_keeps native.PrintlnText args m = keeps_printed _ m
called_keeps native.Println args m = keeps_printed _ m
called_keeps native.InitThread args m = keeps_thread _ _ m
called_keeps native.InitTarget args m = keeps_thread _ _ m
called_keeps native.SysPrintln args m = keeps_printed _ m
called_keeps native.InitThrowable args m = keeps_throwable _ _ _ m
called_keeps native.InitMessage args m = keeps_throwable _ _ _ m
called_keeps native.InitCause args m = keeps_throwable _ _ _ m
-- those that leave all as it was
called_keeps _ args m = keeps_all m m.output m.waits
