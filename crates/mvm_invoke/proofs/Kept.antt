-- A native method that throws, or asks for its thread's object, leaves its isolate as it was.
use Rattle.std.proofs.Common.{◌≡◌, ℕ, ◌*◌, ℤ, List, [], ◌++◌, length, Bool, true, false, Option, Some, None, Result, Ok, Err, refl, sym, ap, ◌∙◌}
use Rattle.std.specs.Prelude.{if◌then◌else◌, codes, max, nat_le, nat_lt}
use Rattle.mvm_base.specs.declared.value.Word.{Word}
use Rattle.mvm_base.specs.declared.value.Word.TheVariants.{Ref, Null}
use Rattle.mvm_builtin.specs.declared.natives.Native.{Native}
use Rattle.mvm_builtin.specs.declared.natives.Native.TheVariants as native
use Rattle.mvm_heap.specs.Heap.{placed, text}
use Rattle.mvm_heap.specs.Objects.{State}
use Rattle.mvm_heap.specs.declared.kind.AllocFault.{AllocFault}
use Rattle.mvm_native.specs.declared.link.Sendable.TheVariants.{Ints, Longs, Bytes, Units}
use Rattle.mvm_native.specs.declared.out.Out.{Out}
use Rattle.mvm_native.specs.declared.out.Out.TheVariants as out
use Rattle.mvm_native.specs.declared.out.Thrown.TheVariants.{IllegalMonitorStateException}
use Rattle.mvm_history.specs.declared.end.LimitKind.TheVariants.{Output}
use Rattle.mvm_native.specs.declared.texts.ValueKind.TheVariants as kind
use Rattle.mvm_native.specs.Arguments.{int_arg, ref_arg, word_arg}
use Rattle.mvm_native.specs.Builders.{append, array_for, array_of, builder_length, builder_to_string, built, init_builder, new_array, rebuilt}
use Rattle.mvm_native.specs.Calls.{called, text_arg}
use Rattle.mvm_native.specs.Integers.{parse_int}
use Rattle.mvm_native.specs.Isolates.{halt_isolate, isolate_number, start_isolate}
use Rattle.mvm_native.specs.Links.{close, receive, send}
use Rattle.mvm_native.specs.Machine.{Machine, gives, made}
use Rattle.mvm_native.specs.Objects.{notify, object_equals, owns, wait, waiting}
use Rattle.mvm_native.specs.Prints.{printed}
use Rattle.mvm_native.specs.Strings.{char_at, hash_code, part_or_throw, span_in, string_equals, string_length, substring, value_of}
use Rattle.mvm_native.specs.Texts.{shown, units_at}
use Rattle.mvm_native.specs.Threads.{init_thread, join, start}
use Rattle.mvm_native.specs.Throwables.{init_throwable, reference_in}

-- what is left after this answer is what was there
abbrev pub Kept : Out → Machine → Machine → Type 0
Kept (out.Throw thrown) new old = new ≡ old
Kept out.Current new old = new ≡ old
Kept _ new old = Unit {0}

abbrev pub Keeps : Out × Machine → Machine → Type 0
Keeps x m = Kept x.0 x.1 m

-- ---- one method

-- it only looks
looks : (o : Out) (m : Machine) → Keeps (o, m) m
looks (out.Throw thrown) m = refl
looks out.Current m = refl
looks _ m = tt

waits : (b : Bool) (object : ℕ) (m : Machine) → Keeps (if b then (out.Wait object, waiting object m) else (out.Throw IllegalMonitorStateException, m)) m
waits true object m = tt
waits false object m = refl

makes : (r : Result (ℕ × State) AllocFault) (m : Machine) → Keeps (made r m) m
makes (Ok x) m = tt
makes (Err fault) m = refl

parts : (span : Option (ℕ × ℕ)) (units : List ℕ) (m : Machine) → Keeps (part_or_throw span units m) m
parts (Some s) units m = makes _ m
parts None units m = refl

rebuilds : (n : ℕ) (units : List ℕ) (value : Option Word) (r : Result (Word × State) AllocFault) (m : Machine) → Keeps (rebuilt n units value r m) m
rebuilds n units value (Ok x) m = tt
rebuilds n units value (Err fault) m = refl

prints_if : (b : Bool) (bytes : List ℕ) (m : Machine) → Keeps (if b then (out.Limit Output, m) else (out.Value None, record m { output = m.output ++ bytes })) m
prints_if true bytes m = tt
prints_if false bytes m = tt

prints : (bytes : List ℕ) (m : Machine) → Keeps (printed bytes m) m
unfolding printed
prints bytes m = prints_if _ bytes m

wait_keeps : (n : ℕ) (m : Machine) → Keeps (wait n m) m
unfolding wait
wait_keeps n m = waits (owns m n) n m

substring_keeps : (n : ℕ) (a b : ℤ) (m : Machine) → Keeps (substring n a b m) m
unfolding substring
substring_keeps n a b m = parts _ (units_at m.heap.objects n) m

value_keeps : (units : List ℕ) (m : Machine) → Keeps (value_of units m) m
unfolding value_of
value_keeps units m = makes (placed (text units) m.heap) m

init_builder_keeps : (n : ℕ) (m : Machine) → Keeps (init_builder n m) m
unfolding init_builder
init_builder_keeps n m = rebuilds n [] None (new_array 16 m.heap) m

append_keeps : (n : ℕ) (units : List ℕ) (m : Machine) → Keeps (append n units m) m
unfolding append
append_keeps n units m = rebuilds n (built m.heap.objects n ++ units) (Some (Ref n)) (array_for (array_of m.heap.objects n) (length (built m.heap.objects n ++ units)) m.heap) m

built_keeps : (n : ℕ) (m : Machine) → Keeps (builder_to_string n m) m
unfolding builder_to_string
built_keeps n m = makes (placed (text (built m.heap.objects n)) m.heap) m

thread_keeps : (n : ℕ) (target : Word) (m : Machine) → Keeps (init_thread n target m) m
unfolding init_thread
thread_keeps n target m = tt

throwable_keeps : (n : ℕ) (message cause : Word) (m : Machine) → Keeps (init_throwable n message cause m) m
unfolding init_throwable
throwable_keeps n message cause m = tt

-- ---- all methods

pub keeps : (native : Native) (args : List Word) (m : Machine) → Keeps (called native args m) m
unfolding called
keeps native.InitObject args m = looks (out.Value None) m
keeps native.ObjectEquals args m = looks (object_equals (word_arg args 0) (word_arg args 1)) m
keeps native.Wait args m = wait_keeps (ref_arg args 0) m
keeps native.Notify args m = looks (notify false (ref_arg args 0) m) m
keeps native.NotifyAll args m = looks (notify true (ref_arg args 0) m) m
keeps native.StringLength args m = looks (string_length (ref_arg args 0) m) m
keeps native.CharAt args m = looks (char_at (ref_arg args 0) (int_arg args 1) m) m
keeps native.Substring args m = substring_keeps (ref_arg args 0) (int_arg args 1) (int_arg args 2) m
keeps native.StringEquals args m = looks (string_equals (ref_arg args 0) (word_arg args 1) m) m
keeps native.HashCode args m = looks (hash_code (ref_arg args 0) m) m
keeps native.StringToString args m = looks (gives (word_arg args 0)) m
keeps native.ValueOfInt args m = value_keeps (text_arg args kind.Int 0 m) m
keeps native.ValueOfLong args m = value_keeps (text_arg args kind.Long 0 m) m
keeps native.ValueOfChar args m = value_keeps (text_arg args kind.Char 0 m) m
keeps native.ValueOfBoolean args m = value_keeps (text_arg args kind.Boolean 0 m) m
keeps native.InitBuilder args m = init_builder_keeps (ref_arg args 0) m
keeps native.AppendInt args m = append_keeps (ref_arg args 0) (text_arg args kind.Int 1 m) m
keeps native.AppendLong args m = append_keeps (ref_arg args 0) (text_arg args kind.Long 1 m) m
keeps native.AppendChar args m = append_keeps (ref_arg args 0) (text_arg args kind.Char 1 m) m
keeps native.AppendBoolean args m = append_keeps (ref_arg args 0) (text_arg args kind.Boolean 1 m) m
keeps native.AppendText args m = append_keeps (ref_arg args 0) (text_arg args kind.Text 1 m) m
keeps native.BuilderLength args m = looks (builder_length (ref_arg args 0) m) m
keeps native.BuilderToString args m = built_keeps (ref_arg args 0) m
keeps native.Exit args m = looks (out.Exit (int_arg args 0)) m
keeps native.PrintInt args m = prints (shown (text_arg args kind.Int 1 m)) m
keeps native.PrintLong args m = prints (shown (text_arg args kind.Long 1 m)) m
keeps native.PrintChar args m = prints (shown (text_arg args kind.Char 1 m)) m
keeps native.PrintBoolean args m = prints (shown (text_arg args kind.Boolean 1 m)) m
keeps native.PrintText args m = prints (shown (text_arg args kind.Text 1 m)) m
keeps native.PrintlnInt args m = prints (shown (text_arg args kind.Int 1 m) ++ codes "\n") m
keeps native.PrintlnLong args m = prints (shown (text_arg args kind.Long 1 m) ++ codes "\n") m
keeps native.PrintlnChar args m = prints (shown (text_arg args kind.Char 1 m) ++ codes "\n") m
keeps native.PrintlnBoolean args m = prints (shown (text_arg args kind.Boolean 1 m) ++ codes "\n") m
keeps native.PrintlnText args m = prints (shown (text_arg args kind.Text 1 m) ++ codes "\n") m
keeps native.Println args m = prints (codes "\n") m
keeps native.ParseInt args m = looks (parse_int (word_arg args 0) m) m
keeps native.InitThread args m = thread_keeps (ref_arg args 0) Null m
keeps native.InitTarget args m = thread_keeps (ref_arg args 0) (word_arg args 1) m
keeps native.StartThread args m = looks (start (ref_arg args 0) m) m
keeps native.Join args m = looks (join (ref_arg args 0) m) m
keeps native.CurrentThread args m = looks out.Current m
keeps native.SysPrintln args m = prints (shown (text_arg args kind.Int 0 m) ++ codes "\n") m
keeps native.IsolateNumber args m = looks (isolate_number m) m
keeps native.StartIsolate args m = looks (start_isolate (int_arg args 0) m) m
keeps native.HaltIsolate args m = looks (halt_isolate (int_arg args 0) (int_arg args 1) m) m
keeps native.SendInts args m = looks (send Ints (int_arg args 0) (word_arg args 1) m) m
keeps native.SendLongs args m = looks (send Longs (int_arg args 0) (word_arg args 1) m) m
keeps native.SendBytes args m = looks (send Bytes (int_arg args 0) (word_arg args 1) m) m
keeps native.SendText args m = looks (send Units (int_arg args 0) (word_arg args 1) m) m
keeps native.Receive args m = looks (receive (int_arg args 0) m) m
keeps native.CloseLink args m = looks (close (int_arg args 0) m) m
keeps native.InitThrowable args m = throwable_keeps (ref_arg args 0) Null Null m
keeps native.InitMessage args m = throwable_keeps (ref_arg args 0) (word_arg args 1) Null m
keeps native.InitCause args m = throwable_keeps (ref_arg args 0) (word_arg args 1) (word_arg args 2) m
keeps native.GetMessage args m = looks (reference_in (ref_arg args 0) 0 m) m
keeps native.GetCause args m = looks (reference_in (ref_arg args 0) 1 m) m
