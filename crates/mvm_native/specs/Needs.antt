-- What a native method needs of its arguments, as a test of them: true exactly where `Fits` of specs/Calls.antt holds.
use Rattle.std.specs.Prelude.{ℕ, ◌^◌, List, length, Bool, true, false, ◌&&◌, ◌==◌, nat_lt, nat_le, Option, Some, None}
use Rattle.mvm_base.specs.declared.value.Word.{Word}
use Rattle.mvm_base.specs.declared.value.Word.TheVariants.{Ref}
use Rattle.mvm_builtin.specs.declared.natives.Native.{Native}
use Rattle.mvm_builtin.specs.declared.natives.Native.TheVariants as native
use Rattle.mvm_heap.specs.Heap.{object_at, number_at}
use Rattle.mvm_heap.specs.Objects as heap
use Rattle.mvm_heap.specs.declared.kind.ItemKind.TheVariants as item
use Rattle.mvm_heap.specs.declared.kind.ObjectKind.{ObjectKind}
use Rattle.mvm_heap.specs.declared.kind.ObjectKind.TheVariants.{Object, Array, Text}
use Rattle.mvm_history.specs.declared.launch.Launch.{Launch}
use Rattle.mvm_history.specs.declared.limits.TheConstants.{MOST_THREADS}
use Rattle.mvm_monitor.specs.Waits.{may_wait}
use Rattle.mvm_native.specs.declared.link.Sendable.{Sendable}
use Rattle.mvm_native.specs.declared.link.Sendable.TheVariants as what
use Rattle.mvm_native.specs.Arguments.{ref_arg, word_arg}
use Rattle.mvm_native.specs.Builders.{array_of, count_of}
use Rattle.mvm_native.specs.Machine.{Machine}
use Rattle.mvm_native.specs.Strings.{is_text}

-- ---- sorts

abbrev pub is_object : ObjectKind → Bool
is_object Object = true
is_object _ = false

abbrev pub is_chars : ObjectKind → Bool
is_chars (Array item.Char) = true
is_chars _ = false

-- the sort of what is sent
abbrev pub is_sent : Sendable → ObjectKind → Bool
is_sent what.Ints (Array item.Int) = true
is_sent what.Longs (Array item.Long) = true
is_sent what.Bytes (Array item.Byte) = true
is_sent what.Units Text = true
is_sent _ _ = false

-- ---- objects and values

abbrev pub is_there : List heap.Object → ℕ → Bool
is_there os n = nat_lt n (length os)

abbrev pub is_text_at : List heap.Object → ℕ → Bool
is_text_at os n = is_there os n && is_text (object_at os n).sort

abbrev pub is_object_or_null : List heap.Object → Word → Bool
is_object_or_null os (Ref n) = is_there os n
is_object_or_null os _ = true

abbrev pub is_text_or_null : List heap.Object → Word → Bool
is_text_or_null os (Ref n) = is_text_at os n
is_text_or_null os _ = true

-- an object with two fields of the machine's own
abbrev pub has_two : List heap.Object → ℕ → Bool
has_two os n = is_there os n && (is_object (object_at os n).sort && nat_le 2 (length (object_at os n).contents))

abbrev pub has_array : List heap.Object → Word → ℕ → Bool
has_array os (Ref a) count = is_there os a && (is_chars (object_at os a).sort && nat_le count (length (object_at os a).contents))
has_array os _ count = count == 0

abbrev pub is_builder : List heap.Object → ℕ → Bool
is_builder os n = has_two os n && has_array os (array_of os n) (count_of os n)

abbrev pub is_thread : List heap.Object → ℕ → Bool
is_thread os n = has_two os n && nat_le (number_at os n 1) MOST_THREADS

abbrev pub is_sendable : Sendable → List heap.Object → Word → Bool
is_sendable kind os (Ref n) = is_there os n && is_sent kind (object_at os n).sort
is_sendable kind os _ = true

-- ---- the isolate

abbrev pub can_wait : ℕ → Machine → Bool
can_wait object m = is_there m.heap.objects object && may_wait m.thread m.waits

abbrev pub is_numbered : Launch → Bool
is_numbered launch = nat_lt launch.number (2 ^ 31)

-- ---- the native methods

abbrev pub on_text : List Word → Machine → Bool
on_text args m = is_text_at m.heap.objects (ref_arg args 0)

abbrev pub on_builder : List Word → Machine → Bool
on_builder args m = is_builder m.heap.objects (ref_arg args 0)

abbrev pub on_two : List Word → Machine → Bool
on_two args m = has_two m.heap.objects (ref_arg args 0)

abbrev pub takes_text : List Word → ℕ → Machine → Bool
takes_text args place m = is_text_or_null m.heap.objects (word_arg args place)

abbrev pub sends : Sendable → List Word → Machine → Bool
sends kind args m = is_sendable kind m.heap.objects (word_arg args 1)

-- whether the arguments are what a native method takes them for
unfoldable pub fits : Native → List Word → Machine → Bool
fits native.Wait args m = can_wait (ref_arg args 0) m
fits native.Notify args m = is_there m.heap.objects (ref_arg args 0)
fits native.NotifyAll args m = is_there m.heap.objects (ref_arg args 0)
fits native.StringLength args m = on_text args m
fits native.CharAt args m = on_text args m
fits native.Substring args m = on_text args m
fits native.StringEquals args m = on_text args m && is_object_or_null m.heap.objects (word_arg args 1)
fits native.HashCode args m = on_text args m
fits native.InitBuilder args m = on_two args m
fits native.AppendInt args m = on_builder args m
fits native.AppendLong args m = on_builder args m
fits native.AppendChar args m = on_builder args m
fits native.AppendBoolean args m = on_builder args m
fits native.AppendText args m = on_builder args m && takes_text args 1 m
fits native.BuilderLength args m = on_builder args m
fits native.BuilderToString args m = on_builder args m
fits native.PrintText args m = takes_text args 1 m
fits native.PrintlnText args m = takes_text args 1 m
fits native.ParseInt args m = takes_text args 0 m
fits native.InitThread args m = on_two args m
fits native.InitTarget args m = on_two args m
fits native.StartThread args m = is_thread m.heap.objects (ref_arg args 0)
fits native.Join args m = is_thread m.heap.objects (ref_arg args 0)
fits native.IsolateNumber args m = is_numbered m.launch
fits native.SendInts args m = sends what.Ints args m
fits native.SendLongs args m = sends what.Longs args m
fits native.SendBytes args m = sends what.Bytes args m
fits native.SendText args m = sends what.Units args m
fits native.InitThrowable args m = on_two args m
fits native.InitMessage args m = on_two args m
fits native.InitCause args m = on_two args m
fits native.GetMessage args m = on_two args m
fits native.GetCause args m = on_two args m
fits _ args m = true

-- by number; a number of no native method takes no arguments
abbrev pub fits_in : Option Native → List Word → Machine → Bool
fits_in (Some native) args m = fits native args m
fits_in None args m = false
