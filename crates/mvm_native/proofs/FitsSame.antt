-- What a native method needs of its arguments has nothing to do with class numbers.
use Rattle.std.proofs.Common.{◌≡◌, ℕ, List, Bool, refl, ap}
use Rattle.std.specs.Prelude.{◌&&◌}
use Rattle.mvm_base.specs.declared.value.Word.{Word}
use Rattle.mvm_base.specs.declared.value.Word.TheVariants.{Ref}
use Rattle.mvm_builtin.specs.declared.natives.Native.{Native}
use Rattle.mvm_builtin.specs.declared.natives.Native.TheVariants as native
use Rattle.mvm_heap.specs.Objects.{Object}
use Rattle.mvm_monitor.specs.Waits.{may_wait}
use Rattle.mvm_native.specs.declared.link.Sendable.{Sendable}
use Rattle.mvm_native.specs.declared.link.Sendable.TheVariants as what
use Rattle.mvm_native.specs.Arguments.{ref_arg, word_arg}
use Rattle.mvm_native.specs.Builders.{array_of, count_of}
use Rattle.mvm_native.specs.Machine.{Machine}
use Rattle.mvm_native.specs.Needs.{can_wait, fits, has_array, has_two, is_builder, is_object_or_null, is_sendable, is_text_at, is_text_or_null, is_there, is_thread}
use Rattle.mvm_native.specs.Unclassed.{unclassed, unclassed_objects}
use Rattle.mvm_native.proofs.Unclassed.{unclassed_at, unclassed_length, unclassed_number}

there_same : (os : List Object) (n : ℕ) → is_there (unclassed_objects os) n ≡ is_there os n
there_same os n = rw (unclassed_length os) refl

text_at_same : (os : List Object) (n : ℕ) → is_text_at (unclassed_objects os) n ≡ is_text_at os n
text_at_same os n = rw (unclassed_length os, unclassed_at os n) refl

object_or_null_same : (os : List Object) (w : Word) → is_object_or_null (unclassed_objects os) w ≡ is_object_or_null os w
object_or_null_same os (Ref n) = there_same os n
object_or_null_same os _ = refl

text_or_null_same : (os : List Object) (w : Word) → is_text_or_null (unclassed_objects os) w ≡ is_text_or_null os w
text_or_null_same os (Ref n) = text_at_same os n
text_or_null_same os _ = refl

two_same : (os : List Object) (n : ℕ) → has_two (unclassed_objects os) n ≡ has_two os n
two_same os n = rw (unclassed_length os, unclassed_at os n) refl

array_same : (os : List Object) (w : Word) (count : ℕ) → has_array (unclassed_objects os) w count ≡ has_array os w count
array_same os (Ref a) count = rw (unclassed_length os, unclassed_at os a) refl
array_same os _ count = refl

builder_same : (os : List Object) (n : ℕ) → is_builder (unclassed_objects os) n ≡ is_builder os n
builder_same os n = rw (unclassed_number os n 0, unclassed_number os n 1, two_same os n, array_same os (array_of os n) (count_of os n)) refl

thread_same : (os : List Object) (n : ℕ) → is_thread (unclassed_objects os) n ≡ is_thread os n
thread_same os n = rw (unclassed_number os n 1, two_same os n) refl

sendable_same : (kind : Sendable) (os : List Object) (w : Word) → is_sendable kind (unclassed_objects os) w ≡ is_sendable kind os w
sendable_same kind os (Ref n) = rw (unclassed_length os, unclassed_at os n) refl
sendable_same kind os _ = refl

wait_same : (object : ℕ) (m : Machine) → can_wait object (unclassed m) ≡ can_wait object m
wait_same object m = ap (λ (b : Bool). b && may_wait m.thread m.waits) (there_same m.heap.objects object)

-- a text and an object or null; a builder and a text or null
equals_same : (os : List Object) (n : ℕ) (w : Word) → (is_text_at (unclassed_objects os) n && is_object_or_null (unclassed_objects os) w) ≡ (is_text_at os n && is_object_or_null os w)
equals_same os n w = rw (text_at_same os n, object_or_null_same os w) refl

append_same : (os : List Object) (n : ℕ) (w : Word) → (is_builder (unclassed_objects os) n && is_text_or_null (unclassed_objects os) w) ≡ (is_builder os n && is_text_or_null os w)
append_same os n w = rw (builder_same os n, text_or_null_same os w) refl

pub fits_same : (native : Native) (args : List Word) (m : Machine) → fits native args (unclassed m) ≡ fits native args m
unfolding fits
fits_same native.Wait args m = wait_same (ref_arg args 0) m
fits_same native.Notify args m = there_same m.heap.objects (ref_arg args 0)
fits_same native.NotifyAll args m = there_same m.heap.objects (ref_arg args 0)
fits_same native.StringLength args m = text_at_same m.heap.objects (ref_arg args 0)
fits_same native.CharAt args m = text_at_same m.heap.objects (ref_arg args 0)
fits_same native.Substring args m = text_at_same m.heap.objects (ref_arg args 0)
fits_same native.StringEquals args m = equals_same m.heap.objects (ref_arg args 0) (word_arg args 1)
fits_same native.HashCode args m = text_at_same m.heap.objects (ref_arg args 0)
fits_same native.InitBuilder args m = two_same m.heap.objects (ref_arg args 0)
fits_same native.AppendInt args m = builder_same m.heap.objects (ref_arg args 0)
fits_same native.AppendLong args m = builder_same m.heap.objects (ref_arg args 0)
fits_same native.AppendChar args m = builder_same m.heap.objects (ref_arg args 0)
fits_same native.AppendBoolean args m = builder_same m.heap.objects (ref_arg args 0)
fits_same native.AppendText args m = append_same m.heap.objects (ref_arg args 0) (word_arg args 1)
fits_same native.BuilderLength args m = builder_same m.heap.objects (ref_arg args 0)
fits_same native.BuilderToString args m = builder_same m.heap.objects (ref_arg args 0)
fits_same native.PrintText args m = text_or_null_same m.heap.objects (word_arg args 1)
fits_same native.PrintlnText args m = text_or_null_same m.heap.objects (word_arg args 1)
fits_same native.ParseInt args m = text_or_null_same m.heap.objects (word_arg args 0)
fits_same native.InitThread args m = two_same m.heap.objects (ref_arg args 0)
fits_same native.InitTarget args m = two_same m.heap.objects (ref_arg args 0)
fits_same native.StartThread args m = thread_same m.heap.objects (ref_arg args 0)
fits_same native.Join args m = thread_same m.heap.objects (ref_arg args 0)
fits_same native.SendInts args m = sendable_same what.Ints m.heap.objects (word_arg args 1)
fits_same native.SendLongs args m = sendable_same what.Longs m.heap.objects (word_arg args 1)
fits_same native.SendBytes args m = sendable_same what.Bytes m.heap.objects (word_arg args 1)
fits_same native.SendText args m = sendable_same what.Units m.heap.objects (word_arg args 1)
fits_same native.InitThrowable args m = two_same m.heap.objects (ref_arg args 0)
fits_same native.InitMessage args m = two_same m.heap.objects (ref_arg args 0)
fits_same native.InitCause args m = two_same m.heap.objects (ref_arg args 0)
fits_same native.GetMessage args m = two_same m.heap.objects (ref_arg args 0)
fits_same native.GetCause args m = two_same m.heap.objects (ref_arg args 0)
-- those that look at no object
fits_same _ args m = refl
