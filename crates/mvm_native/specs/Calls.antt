-- The native methods, one by one, by the numbers of the built-in classes.
use Rattle.std.specs.Prelude.{◌<◌, ℕ, true, false, List, length, Option, Some, None}
use Rattle.mvm_base.specs.declared.value.Word.{Word}
use Rattle.mvm_base.specs.declared.value.Word.TheVariants.{Null}
use Rattle.mvm_builtin.specs.declared.natives.Native.{Native}
use Rattle.mvm_builtin.specs.declared.natives.Native.TheVariants as native
use Rattle.mvm_native.specs.declared.link.Sendable.{Sendable}
use Rattle.mvm_native.specs.declared.link.Sendable.TheVariants.{Ints, Longs, Bytes, Units}
use Rattle.mvm_native.specs.declared.out.Out.{Out}
use Rattle.mvm_native.specs.declared.out.Out.TheVariants.{Value, Current, Exit}
use Rattle.mvm_native.specs.declared.texts.ValueKind.{ValueKind}
use Rattle.mvm_native.specs.declared.texts.ValueKind.TheVariants.{Int, Long, Char, Boolean, Text}
use Rattle.mvm_native.specs.Arguments.{word_arg, ref_arg, int_arg}
use Rattle.mvm_native.specs.Builders.{append, builder_length, builder_to_string, init_builder, IsBuilder}
use Rattle.mvm_native.specs.Integers.{parse_int}
use Rattle.mvm_native.specs.Isolates.{halt_isolate, isolate_number, start_isolate, IsNumbered}
use Rattle.mvm_native.specs.Links.{close, receive, send, IsSendable}
use Rattle.mvm_native.specs.Machine.{Machine, gives}
use Rattle.mvm_native.specs.Objects.{notify, object_equals, wait, CanWait}
use Rattle.mvm_native.specs.Prints.{print, println, println_nothing}
use Rattle.mvm_native.specs.Strings.{char_at, hash_code, string_equals, string_length, substring, value_of}
use Rattle.mvm_native.specs.Texts.{text_of, IsObjectOrNull, IsText, IsTextOrNull}
use Rattle.mvm_native.specs.Threads.{init_thread, join, start, IsThread}
use Rattle.mvm_native.specs.Throwables.{init_throwable, reference_in, HasTwo}

abbrev pub text_arg : List Word → ValueKind → ℕ → Machine → List ℕ
text_arg args kind place m = text_of m.heap.objects kind (word_arg args place)

-- what a native method answers, and what it leaves
unfoldable pub called : Native → List Word → Machine → Out × Machine
called native.InitObject args m = (Value None, m)
called native.ObjectEquals args m = (object_equals (word_arg args 0) (word_arg args 1), m)
called native.Wait args m = wait (ref_arg args 0) m
called native.Notify args m = (notify false (ref_arg args 0) m, m)
called native.NotifyAll args m = (notify true (ref_arg args 0) m, m)
called native.StringLength args m = (string_length (ref_arg args 0) m, m)
called native.CharAt args m = (char_at (ref_arg args 0) (int_arg args 1) m, m)
called native.Substring args m = substring (ref_arg args 0) (int_arg args 1) (int_arg args 2) m
called native.StringEquals args m = (string_equals (ref_arg args 0) (word_arg args 1) m, m)
called native.HashCode args m = (hash_code (ref_arg args 0) m, m)
called native.StringToString args m = (gives (word_arg args 0), m)
called native.ValueOfInt args m = value_of (text_arg args Int 0 m) m
called native.ValueOfLong args m = value_of (text_arg args Long 0 m) m
called native.ValueOfChar args m = value_of (text_arg args Char 0 m) m
called native.ValueOfBoolean args m = value_of (text_arg args Boolean 0 m) m
called native.InitBuilder args m = init_builder (ref_arg args 0) m
called native.AppendInt args m = append (ref_arg args 0) (text_arg args Int 1 m) m
called native.AppendLong args m = append (ref_arg args 0) (text_arg args Long 1 m) m
called native.AppendChar args m = append (ref_arg args 0) (text_arg args Char 1 m) m
called native.AppendBoolean args m = append (ref_arg args 0) (text_arg args Boolean 1 m) m
called native.AppendText args m = append (ref_arg args 0) (text_arg args Text 1 m) m
called native.BuilderLength args m = (builder_length (ref_arg args 0) m, m)
called native.BuilderToString args m = builder_to_string (ref_arg args 0) m
called native.Exit args m = (Exit (int_arg args 0), m)
called native.PrintInt args m = print (text_arg args Int 1 m) m
called native.PrintLong args m = print (text_arg args Long 1 m) m
called native.PrintChar args m = print (text_arg args Char 1 m) m
called native.PrintBoolean args m = print (text_arg args Boolean 1 m) m
called native.PrintText args m = print (text_arg args Text 1 m) m
called native.PrintlnInt args m = println (text_arg args Int 1 m) m
called native.PrintlnLong args m = println (text_arg args Long 1 m) m
called native.PrintlnChar args m = println (text_arg args Char 1 m) m
called native.PrintlnBoolean args m = println (text_arg args Boolean 1 m) m
called native.PrintlnText args m = println (text_arg args Text 1 m) m
called native.Println args m = println_nothing m
called native.ParseInt args m = (parse_int (word_arg args 0) m, m)
called native.InitThread args m = init_thread (ref_arg args 0) Null m
called native.InitTarget args m = init_thread (ref_arg args 0) (word_arg args 1) m
called native.StartThread args m = (start (ref_arg args 0) m, m)
called native.Join args m = (join (ref_arg args 0) m, m)
called native.CurrentThread args m = (Current, m)
called native.SysPrintln args m = println (text_arg args Int 0 m) m
called native.IsolateNumber args m = (isolate_number m, m)
called native.StartIsolate args m = (start_isolate (int_arg args 0) m, m)
called native.HaltIsolate args m = (halt_isolate (int_arg args 0) (int_arg args 1) m, m)
called native.SendInts args m = (send Ints (int_arg args 0) (word_arg args 1) m, m)
called native.SendLongs args m = (send Longs (int_arg args 0) (word_arg args 1) m, m)
called native.SendBytes args m = (send Bytes (int_arg args 0) (word_arg args 1) m, m)
called native.SendText args m = (send Units (int_arg args 0) (word_arg args 1) m, m)
called native.Receive args m = (receive (int_arg args 0) m, m)
called native.CloseLink args m = (close (int_arg args 0) m, m)
called native.InitThrowable args m = init_throwable (ref_arg args 0) Null Null m
called native.InitMessage args m = init_throwable (ref_arg args 0) (word_arg args 1) Null m
called native.InitCause args m = init_throwable (ref_arg args 0) (word_arg args 1) (word_arg args 2) m
called native.GetMessage args m = (reference_in (ref_arg args 0) 0 m, m)
called native.GetCause args m = (reference_in (ref_arg args 0) 1 m, m)

-- ---- what a call needs: each argument is what the method takes it for, or null where that may be

abbrev pub TakesText : List Word → ℕ → Machine → Type 0
TakesText args place m = IsTextOrNull m.heap.objects (word_arg args place)

abbrev pub OnText : List Word → Machine → Type 0
OnText args m = IsText m.heap.objects (ref_arg args 0)

abbrev pub OnBuilder : List Word → Machine → Type 0
OnBuilder args m = IsBuilder m.heap.objects (ref_arg args 0)

abbrev pub OnTwo : List Word → Machine → Type 0
OnTwo args m = HasTwo m.heap.objects (ref_arg args 0)

abbrev pub Sends : Sendable → List Word → Machine → Type 0
Sends kind args m = IsSendable kind m.heap.objects (word_arg args 1)

unfoldable pub Fits : Native → List Word → Machine → Type 0
Fits native.Wait args m = CanWait (ref_arg args 0) m
Fits native.Notify args m = ref_arg args 0 < length m.heap.objects
Fits native.NotifyAll args m = ref_arg args 0 < length m.heap.objects
Fits native.StringLength args m = OnText args m
Fits native.CharAt args m = OnText args m
Fits native.Substring args m = OnText args m
Fits native.StringEquals args m = OnText args m × IsObjectOrNull m.heap.objects (word_arg args 1)
Fits native.HashCode args m = OnText args m
Fits native.InitBuilder args m = OnTwo args m
Fits native.AppendInt args m = OnBuilder args m
Fits native.AppendLong args m = OnBuilder args m
Fits native.AppendChar args m = OnBuilder args m
Fits native.AppendBoolean args m = OnBuilder args m
Fits native.AppendText args m = OnBuilder args m × TakesText args 1 m
Fits native.BuilderLength args m = OnBuilder args m
Fits native.BuilderToString args m = OnBuilder args m
Fits native.PrintText args m = TakesText args 1 m
Fits native.PrintlnText args m = TakesText args 1 m
Fits native.ParseInt args m = TakesText args 0 m
Fits native.InitThread args m = OnTwo args m
Fits native.InitTarget args m = OnTwo args m
Fits native.StartThread args m = IsThread m.heap.objects (ref_arg args 0)
Fits native.Join args m = IsThread m.heap.objects (ref_arg args 0)
Fits native.IsolateNumber args m = IsNumbered m.launch
Fits native.SendInts args m = Sends Ints args m
Fits native.SendLongs args m = Sends Longs args m
Fits native.SendBytes args m = Sends Bytes args m
Fits native.SendText args m = Sends Units args m
Fits native.InitThrowable args m = OnTwo args m
Fits native.InitMessage args m = OnTwo args m
Fits native.InitCause args m = OnTwo args m
Fits native.GetMessage args m = OnTwo args m
Fits native.GetCause args m = OnTwo args m
Fits _ args m = Unit {0}

-- ---- by number

abbrev pub called_in : Option Native → List Word → Machine → Out × Machine
called_in (Some native) args m = called native args m
called_in None args m = (Value None, m)

abbrev pub FitsIn : Option Native → List Word → Machine → Type 0
FitsIn (Some native) args m = Fits native args m
FitsIn None args m = ⊥
