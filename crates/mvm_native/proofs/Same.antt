-- A native method answers and does the same where objects have no class numbers.
use Rattle.std.proofs.Common.{◌≡◌, ℕ, ◌+◌, ◌*◌, ℤ, List, [], ◌++◌, length, Bool, true, false, cond, Option, Some, None, Result, Ok, Err, refl, ap, ◌∙◌}
use Rattle.std.specs.Prelude.{nat_le, nat_lt, max, codes}
use Rattle.mvm_base.specs.declared.value.Word.{Word}
use Rattle.mvm_base.specs.declared.value.Word.TheVariants.{Ref, Null}
use Rattle.mvm_builtin.specs.declared.natives.Native.{Native}
use Rattle.mvm_builtin.specs.declared.natives.Native.TheVariants as native
use Rattle.mvm_heap.specs.Heap.{placed, text, zeros}
use Rattle.mvm_heap.specs.Objects.{Object, State}
use Rattle.mvm_heap.specs.Sorts.{bits_of}
use Rattle.mvm_heap.specs.declared.kind.AllocFault.{AllocFault}
use Rattle.mvm_heap.specs.declared.kind.ItemKind.TheVariants.{Char}
use Rattle.mvm_heap.specs.declared.kind.ObjectKind.TheVariants.{Array}
use Rattle.mvm_history.specs.declared.end.LimitKind.TheVariants.{Output}
use Rattle.mvm_native.specs.declared.link.End.TheVariants as end
use Rattle.mvm_native.specs.declared.link.Sendable.{Sendable}
use Rattle.mvm_native.specs.declared.link.Sendable.TheVariants.{Ints, Longs, Bytes, Units}
use Rattle.mvm_native.specs.declared.out.Out.{Out}
use Rattle.mvm_native.specs.declared.out.Out.TheVariants.{Value, Throw, Limit, Wait}
use Rattle.mvm_native.specs.declared.out.Thrown.TheVariants.{IllegalMonitorStateException}
use Rattle.mvm_native.specs.declared.texts.ValueKind.TheVariants as kind
use Rattle.mvm_native.specs.Arguments.{int_arg, ref_arg, word_arg}
use Rattle.mvm_native.specs.Builders.{append, array_for, array_of, as_word, begun_in, builder_length, builder_to_string, built, chars_in, holding, init_builder, new_array, rebuilt}
use Rattle.mvm_native.specs.Calls.{called, text_arg}
use Rattle.mvm_native.specs.Integers.{int_or_throw, parse_int, parsed, parsed_word}
use Rattle.mvm_native.specs.Isolates.{halt_isolate, isolate_number, start_isolate}
use Rattle.mvm_native.specs.Links.{close, link_at, offered, receive, received_over, send, sent_over, use_of}
use Rattle.mvm_native.specs.Machine.{Machine, made}
use Rattle.mvm_native.specs.Objects.{notify, object_equals, owns, wait, waiting}
use Rattle.mvm_native.specs.Prints.{print, printed, println}
use Rattle.mvm_native.specs.Strings.{char_at, hash_code, has_units, part_or_throw, span_in, string_equals, string_length, substring, value_of}
use Rattle.mvm_native.specs.Texts.{text_of, text_or_null, units_at}
use Rattle.mvm_native.specs.Threads.{init_thread, join, start}
use Rattle.mvm_native.specs.Throwables.{init_throwable, reference_in}
use Rattle.mvm_native.specs.Unclassed.{unclassed, unclassed_objects, unclassed_state}
use Rattle.mvm_native.proofs.Unclassed.{unclassed_at, unclassed_begun_in, unclassed_chars, unclassed_contents, unclassed_number, unclassed_placed, unclassed_result, unclassed_two, unclassed_units, unclassed_written}

abbrev unclassed_answer : Out × Machine → Out × Machine
unclassed_answer x = (x.0, unclassed x.1)

-- ---- methods that only look

looked : (f : Machine → Out) (m : Machine) → f (unclassed m) ≡ f m → ◌≡◌ {A = Out × Machine} (f (unclassed m), unclassed m) (f m, unclassed m)
looked f m e = ap (λ (out : Out). (out, unclassed m)) e

length_same : (n : ℕ) (m : Machine) → string_length n (unclassed m) ≡ string_length n m
unfolding string_length
length_same n m = rw (unclassed_contents m.heap.objects n) refl

char_same : (n : ℕ) (i : ℤ) (m : Machine) → char_at n i (unclassed m) ≡ char_at n i m
unfolding char_at
char_same n i m = rw (unclassed_contents m.heap.objects n) refl

hash_same : (n : ℕ) (m : Machine) → hash_code n (unclassed m) ≡ hash_code n m
unfolding hash_code
hash_same n m = rw (unclassed_contents m.heap.objects n) refl

units_same : (os : List Object) (us : List ℕ) (w : Word) → has_units (unclassed_objects os) us w ≡ has_units os us w
units_same os us (Ref n) = rw (unclassed_at os n) refl
units_same os us _ = refl

equals_same : (n : ℕ) (w : Word) (m : Machine) → string_equals n w (unclassed m) ≡ string_equals n w m
unfolding string_equals
equals_same n w m = rw (unclassed_contents m.heap.objects n, units_same m.heap.objects (units_at m.heap.objects n) w) refl

count_same : (n : ℕ) (m : Machine) → builder_length n (unclassed m) ≡ builder_length n m
unfolding builder_length
count_same n m = rw (unclassed_number m.heap.objects n 1) refl

parsed_same : (os : List Object) (w : Word) → parsed_word (unclassed_objects os) w ≡ parsed_word os w
parsed_same os (Ref n) = ap parsed (unclassed_units os n)
parsed_same os _ = refl

parse_same : (w : Word) (m : Machine) → parse_int w (unclassed m) ≡ parse_int w m
unfolding parse_int
parse_same w m = ap int_or_throw (parsed_same m.heap.objects w)

start_same : (n : ℕ) (m : Machine) → start n (unclassed m) ≡ start n m
unfolding start
start_same n m = rw (unclassed_number m.heap.objects n 1) refl

join_same : (n : ℕ) (m : Machine) → join n (unclassed m) ≡ join n m
unfolding join
join_same n m = rw (unclassed_number m.heap.objects n 1) refl

reference_same : (n slot : ℕ) (m : Machine) → reference_in n slot (unclassed m) ≡ reference_in n slot m
reference_same n slot m = rw (unclassed_number m.heap.objects n slot) refl

sent_same : (what : Sendable) (link : Option ℕ) (w : Word) (m : Machine) → sent_over what link w (unclassed m) ≡ sent_over what link w m
sent_same what None w m = refl
sent_same what (Some link) (Ref n) m = ap (λ (items : List ℕ). offered what link items (use_of m.links link) m.thread) (unclassed_contents m.heap.objects n)
sent_same what (Some link) _ m = refl

send_same : (what : Sendable) (link : ℤ) (w : Word) (m : Machine) → send what link w (unclassed m) ≡ send what link w m
unfolding send
send_same what link w m = sent_same what (link_at end.Sending link m.launch) w m

received_same : (link : Option ℕ) (m : Machine) → received_over link (unclassed m) ≡ received_over link m
received_same None m = refl
received_same (Some link) m = refl

receive_same : (link : ℤ) (m : Machine) → receive link (unclassed m) ≡ receive link m
unfolding receive
receive_same link m = received_same (link_at end.Receiving link m.launch) m

-- ---- printing and waiting

printed_same : (bytes : List ℕ) (m : Machine) → printed bytes (unclassed m) ≡ unclassed_answer (printed bytes m)
unfolding printed
printed_same bytes m =
    let next : Machine = record m { output = m.output ++ bytes } in
    let P : Bool → Type 0 = λ b. cond {A = Out × Machine} b (Limit Output, unclassed m) (Value None, unclassed next) ≡ unclassed_answer (cond b (Limit Output, m) (Value None, next)) in
    elim (nat_lt m.launch.limits.output (length m.output + length bytes)) as P [ true ↦ refl | false ↦ refl ]

text_same : (os : List Object) (w : Word) → text_or_null (unclassed_objects os) w ≡ text_or_null os w
text_same os (Ref n) = unclassed_units os n
text_same os _ = refl

print_text : (w : Word) (m : Machine) → print (text_of (unclassed_objects m.heap.objects) kind.Text w) (unclassed m) ≡ unclassed_answer (print (text_of m.heap.objects kind.Text w) m)
print_text w m = ap (λ (us : List ℕ). print us (unclassed m)) (text_same m.heap.objects w) ∙ printed_same _ m

println_text : (w : Word) (m : Machine) → println (text_of (unclassed_objects m.heap.objects) kind.Text w) (unclassed m) ≡ unclassed_answer (println (text_of m.heap.objects kind.Text w) m)
println_text w m = ap (λ (us : List ℕ). println us (unclassed m)) (text_same m.heap.objects w) ∙ printed_same _ m

wait_same : (object : ℕ) (m : Machine) → wait object (unclassed m) ≡ unclassed_answer (wait object m)
unfolding wait
wait_same object m =
    let P : Bool → Type 0 = λ b. cond {A = Out × Machine} b (Wait object, unclassed (waiting object m)) (Throw IllegalMonitorStateException, unclassed m)
    ≡ unclassed_answer (cond b (Wait object, waiting object m) (Throw IllegalMonitorStateException, m)) in
    elim (owns m object) as P [ true ↦ refl | false ↦ refl ]

-- ---- new texts

made_in : (r : Result (ℕ × State) AllocFault) (m : Machine) → made (unclassed_result r) (unclassed m) ≡ unclassed_answer (made r m)
made_in (Ok x) m = refl
made_in (Err fault) m = refl

made_same : (us : List ℕ) (m : Machine) → made (placed (text us) (unclassed_state m.heap)) (unclassed m) ≡ unclassed_answer (made (placed (text us) m.heap) m)
made_same us m = ap (λ (r : Result (ℕ × State) AllocFault). made r (unclassed m)) (unclassed_placed (text us) m.heap) ∙ made_in (placed (text us) m.heap) m

value_same : (us : List ℕ) (m : Machine) → value_of us (unclassed m) ≡ unclassed_answer (value_of us m)
unfolding value_of
value_same us m = made_same us m

part_same : (s : Option (ℕ × ℕ)) (us : List ℕ) (m : Machine) → part_or_throw s us (unclassed m) ≡ unclassed_answer (part_or_throw s us m)
part_same (Some s) us m = made_same _ m
part_same None us m = refl

substring_same : (n : ℕ) (a b : ℤ) (m : Machine) → substring n a b (unclassed m) ≡ unclassed_answer (substring n a b m)
unfolding substring
substring_same n a b m =
    let us : List ℕ = units_at m.heap.objects n in
    ap (λ (xs : List ℕ). part_or_throw (span_in a b (length xs)) xs (unclassed m)) (unclassed_units m.heap.objects n) ∙ part_same (span_in a b (length us)) us m

-- ---- builders

built_same : (os : List Object) (n : ℕ) → built (unclassed_objects os) n ≡ built os n
built_same os n = rw (unclassed_number os n 0, unclassed_number os n 1, unclassed_chars os (array_of os n)) refl

to_string_same : (n : ℕ) (m : Machine) → builder_to_string n (unclassed m) ≡ unclassed_answer (builder_to_string n m)
unfolding builder_to_string
to_string_same n m = ap (λ (us : List ℕ). made (placed (text us) (unclassed_state m.heap)) (unclassed m)) (built_same m.heap.objects n) ∙ made_same (built m.heap.objects n) m

as_word_same : (r : Result (ℕ × State) AllocFault) → as_word (unclassed_result r) ≡ unclassed_result (as_word r)
as_word_same (Ok x) = refl
as_word_same (Err fault) = refl

new_array_same : (n : ℕ) (s : State) → new_array n (unclassed_state s) ≡ unclassed_result (new_array n s)
new_array_same n s = ap as_word (unclassed_placed (zeros (Array Char) 0 n) s) ∙ as_word_same (placed (zeros (Array Char) 0 n) s)

array_for_same : (w : Word) (n : ℕ) (s : State) → array_for w n (unclassed_state s) ≡ unclassed_result (array_for w n s)
unfolding array_for
array_for_same w n s =
    let k : ℕ = length (chars_in s.objects w) in
    let P : Bool → Type 0 = λ b. cond {A = Result (Word × State) AllocFault} b (Ok (w, unclassed_state s)) (new_array (max (2 * k + 2) n) (unclassed_state s))
    ≡ unclassed_result (cond {A = Result (Word × State) AllocFault} b (Ok (w, s)) (new_array (max (2 * k + 2) n) s)) in
    rw (unclassed_chars s.objects w) (elim (nat_le n k) as P [ true ↦ refl | false ↦ new_array_same (max (2 * k + 2) n) s ])

holding_same : (n count : ℕ) (w : Word) (us : List ℕ) (os : List Object) → holding n w count (begun_in (unclassed_objects os) w us) ≡ unclassed_objects (holding n w count (begun_in os w us))
holding_same n count w us os = ap (holding n w count) (unclassed_begun_in os w us) ∙ unclassed_two (begun_in os w us) n 0 1 (bits_of w) count

rebuilt_in : (n : ℕ) (us : List ℕ) (v : Option Word) (r : Result (Word × State) AllocFault) (m : Machine) → rebuilt n us v (unclassed_result r) (unclassed m) ≡ unclassed_answer (rebuilt n us v r m)
rebuilt_in n us v (Ok x) m = ap (λ (os : List Object). (Value v, record m { heap = record x.1 { objects = os } })) (holding_same n (length us) x.0 us x.1.objects)
rebuilt_in n us v (Err fault) m = refl

begun_same : (n : ℕ) (m : Machine) → init_builder n (unclassed m) ≡ unclassed_answer (init_builder n m)
unfolding init_builder
begun_same n m = ap (λ (r : Result (Word × State) AllocFault). rebuilt n [] None r (unclassed m)) (new_array_same 16 m.heap) ∙ rebuilt_in n [] None (new_array 16 m.heap) m

append_same : (n : ℕ) (us : List ℕ) (m : Machine) → append n us (unclassed m) ≡ unclassed_answer (append n us m)
unfolding append
append_same n us m =
    let whole : List ℕ = built m.heap.objects n ++ us in
    rw (built_same m.heap.objects n, unclassed_number m.heap.objects n 0)
    (ap (λ (r : Result (Word × State) AllocFault). rebuilt n whole (Some (Ref n)) r (unclassed m)) (array_for_same (array_of m.heap.objects n) (length whole) m.heap)
    ∙ rebuilt_in n whole (Some (Ref n)) (array_for (array_of m.heap.objects n) (length whole) m.heap) m)

append_text : (n : ℕ) (w : Word) (m : Machine) → append n (text_of (unclassed_objects m.heap.objects) kind.Text w) (unclassed m) ≡ unclassed_answer (append n (text_of m.heap.objects kind.Text w) m)
append_text n w m = ap (λ (us : List ℕ). append n us (unclassed m)) (text_same m.heap.objects w) ∙ append_same n _ m

-- ---- two fields

thread_same : (n : ℕ) (w : Word) (m : Machine) → init_thread n w (unclassed m) ≡ unclassed_answer (init_thread n w m)
unfolding init_thread
thread_same n w m = ap (λ (os : List Object). (Value None, record m { heap = record m.heap { objects = os } })) (unclassed_written m.heap.objects n 0 (bits_of w))

throwable_same : (n : ℕ) (a b : Word) (m : Machine) → init_throwable n a b (unclassed m) ≡ unclassed_answer (init_throwable n a b m)
unfolding init_throwable
throwable_same n a b m = ap (λ (os : List Object). (Value None, record m { heap = record m.heap { objects = os } })) (unclassed_two m.heap.objects n 0 1 (bits_of a) (bits_of b))

-- ---- the native methods

pub called_same : (native : Native) (args : List Word) (m : Machine) → called native args (unclassed m) ≡ ((called native args m).0, unclassed (called native args m).1)
unfolding called notify isolate_number start_isolate halt_isolate close object_equals
called_same native.Wait args m = wait_same (ref_arg args 0) m
called_same native.StringLength args m = looked (string_length (ref_arg args 0)) m (length_same (ref_arg args 0) m)
called_same native.CharAt args m = looked (char_at (ref_arg args 0) (int_arg args 1)) m (char_same (ref_arg args 0) (int_arg args 1) m)
called_same native.Substring args m = substring_same (ref_arg args 0) (int_arg args 1) (int_arg args 2) m
called_same native.StringEquals args m = looked (string_equals (ref_arg args 0) (word_arg args 1)) m (equals_same (ref_arg args 0) (word_arg args 1) m)
called_same native.HashCode args m = looked (hash_code (ref_arg args 0)) m (hash_same (ref_arg args 0) m)
called_same native.ValueOfInt args m = value_same (text_arg args kind.Int 0 m) m
called_same native.ValueOfLong args m = value_same (text_arg args kind.Long 0 m) m
called_same native.ValueOfChar args m = value_same (text_arg args kind.Char 0 m) m
called_same native.ValueOfBoolean args m = value_same (text_arg args kind.Boolean 0 m) m
called_same native.InitBuilder args m = begun_same (ref_arg args 0) m
called_same native.AppendInt args m = append_same (ref_arg args 0) (text_arg args kind.Int 1 m) m
called_same native.AppendLong args m = append_same (ref_arg args 0) (text_arg args kind.Long 1 m) m
called_same native.AppendChar args m = append_same (ref_arg args 0) (text_arg args kind.Char 1 m) m
called_same native.AppendBoolean args m = append_same (ref_arg args 0) (text_arg args kind.Boolean 1 m) m
called_same native.AppendText args m = append_text (ref_arg args 0) (word_arg args 1) m
called_same native.BuilderLength args m = looked (builder_length (ref_arg args 0)) m (count_same (ref_arg args 0) m)
called_same native.BuilderToString args m = to_string_same (ref_arg args 0) m
called_same native.PrintInt args m = printed_same _ m
called_same native.PrintLong args m = printed_same _ m
called_same native.PrintChar args m = printed_same _ m
called_same native.PrintBoolean args m = printed_same _ m
called_same native.PrintText args m = print_text (word_arg args 1) m
called_same native.PrintlnInt args m = printed_same _ m
called_same native.PrintlnLong args m = printed_same _ m
called_same native.PrintlnChar args m = printed_same _ m
called_same native.PrintlnBoolean args m = printed_same _ m
called_same native.PrintlnText args m = println_text (word_arg args 1) m
called_same native.Println args m = printed_same (codes "\n") m
called_same native.ParseInt args m = looked (parse_int (word_arg args 0)) m (parse_same (word_arg args 0) m)
called_same native.InitThread args m = thread_same (ref_arg args 0) Null m
called_same native.InitTarget args m = thread_same (ref_arg args 0) (word_arg args 1) m
called_same native.StartThread args m = looked (start (ref_arg args 0)) m (start_same (ref_arg args 0) m)
called_same native.Join args m = looked (join (ref_arg args 0)) m (join_same (ref_arg args 0) m)
called_same native.SysPrintln args m = printed_same _ m
called_same native.SendInts args m = looked (send Ints (int_arg args 0) (word_arg args 1)) m (send_same Ints (int_arg args 0) (word_arg args 1) m)
called_same native.SendLongs args m = looked (send Longs (int_arg args 0) (word_arg args 1)) m (send_same Longs (int_arg args 0) (word_arg args 1) m)
called_same native.SendBytes args m = looked (send Bytes (int_arg args 0) (word_arg args 1)) m (send_same Bytes (int_arg args 0) (word_arg args 1) m)
called_same native.SendText args m = looked (send Units (int_arg args 0) (word_arg args 1)) m (send_same Units (int_arg args 0) (word_arg args 1) m)
called_same native.Receive args m = looked (receive (int_arg args 0)) m (receive_same (int_arg args 0) m)
called_same native.InitThrowable args m = throwable_same (ref_arg args 0) Null Null m
called_same native.InitMessage args m = throwable_same (ref_arg args 0) (word_arg args 1) Null m
called_same native.InitCause args m = throwable_same (ref_arg args 0) (word_arg args 1) (word_arg args 2) m
called_same native.GetMessage args m = looked (reference_in (ref_arg args 0) 0) m (reference_same (ref_arg args 0) 0 m)
called_same native.GetCause args m = looked (reference_in (ref_arg args 0) 1) m (reference_same (ref_arg args 0) 1 m)
-- those that look at no object
called_same _ args m = refl
