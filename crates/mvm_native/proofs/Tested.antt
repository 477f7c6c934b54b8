-- What is tested of arguments is what a native method needs of them.
use Rattle.std.proofs.Common.{◌≡◌, ◌≢◌, ℕ, ◌<◌, ◌≤◌, ◌^◌, List, length, true, Option, Some, None, refl}
use Rattle.std.specs.Prelude.{◌==◌, nat_le, not, All, Decides}
use Rattle.std.proofs.lemmas.Bool.{leb-true, le-leb}
use Rattle.std.proofs.lemmas.Bool.Decides.{Decides-and, Decides-by_and, Decides-eqb, Decides-like, Decides-ltb, Decides-not}
use Rattle.mvm_base.specs.declared.value.Word.{Word}
use Rattle.mvm_base.specs.declared.value.Word.TheVariants.{Ref}
use Rattle.mvm_builtin.specs.declared.natives.Native.{Native}
use Rattle.mvm_builtin.specs.declared.natives.Native.TheVariants as native
use Rattle.mvm_heap.specs.Heap.{object_at, number_at}
use Rattle.mvm_heap.specs.Objects as heap
use Rattle.mvm_heap.specs.declared.kind.ItemKind.TheVariants as item
use Rattle.mvm_heap.specs.declared.kind.ObjectKind.{ObjectKind}
use Rattle.mvm_heap.specs.declared.kind.ObjectKind.TheVariants.{Object, Array, Text}
use Rattle.mvm_history.specs.declared.limits.TheConstants.{MOST_THREADS}
use Rattle.mvm_monitor.specs.Waits.{is_awake}
use Rattle.mvm_monitor.specs.declared.waits.Waiter.{Waiter}
use Rattle.mvm_native.specs.declared.link.Sendable.{Sendable}
use Rattle.mvm_native.specs.declared.link.Sendable.TheVariants as what
use Rattle.mvm_native.specs.Arguments.{ref_arg, word_arg}
use Rattle.mvm_native.specs.Builders.{array_of, count_of, HasArray, IsBuilder}
use Rattle.mvm_native.specs.Calls.{Fits, FitsIn}
use Rattle.mvm_native.specs.Links.{sort_of, IsSendable}
use Rattle.mvm_native.specs.Machine.{Machine}
use Rattle.mvm_native.specs.Needs.{can_wait, fits, fits_in, has_array, has_two, is_builder, is_chars, is_object, is_object_or_null, is_sendable, is_sent, is_text_at, is_text_or_null, is_there, is_thread}
use Rattle.mvm_native.specs.Objects.{CanWait}
use Rattle.mvm_native.specs.Strings.{is_text}
use Rattle.mvm_native.specs.Texts.{IsObjectOrNull, IsText, IsTextOrNull}
use Rattle.mvm_native.specs.Threads.{IsThread}
use Rattle.mvm_native.specs.Throwables.{HasTwo}
use Rattle.mvm_native.proofs.Objects.{two_there}

-- ---- sorts

object_tested : (s : ObjectKind) → Decides (is_object s) (s ≡ Object)
object_tested Object = (λ e. refl, λ e. refl)
object_tested _ = (λ e. absurd cc, λ e. absurd cc)

text_tested : (s : ObjectKind) → Decides (is_text s) (s ≡ Text)
text_tested Text = (λ e. refl, λ e. refl)
text_tested _ = (λ e. absurd cc, λ e. absurd cc)

chars_tested : (s : ObjectKind) → Decides (is_chars s) (s ≡ Array item.Char)
chars_tested (Array item.Char) = (λ e. refl, λ e. refl)
chars_tested _ = (λ e. absurd cc, λ e. absurd cc)

sent_is : (kind : Sendable) (s : ObjectKind) → is_sent kind s ≡ true → s ≡ sort_of kind
sent_is what.Ints (Array item.Int) e = refl
sent_is what.Longs (Array item.Long) e = refl
sent_is what.Bytes (Array item.Byte) e = refl
sent_is what.Units Text e = refl
sent_is _ _ e = absurd cc

is_sent_sort : (kind : Sendable) → is_sent kind (sort_of kind) ≡ true
is_sent_sort what.Ints = refl
is_sent_sort what.Longs = refl
is_sent_sort what.Bytes = refl
is_sent_sort what.Units = refl

sent_tested : (kind : Sendable) (s : ObjectKind) → Decides (is_sent kind s) (s ≡ sort_of kind)
sent_tested kind s = (sent_is kind s, λ e. rw e (is_sent_sort kind))

-- ---- objects and values

at_most_tested : (a b : ℕ) → Decides (nat_le a b) (a ≤ b)
at_most_tested a b = (leb-true a b, le-leb a b)

there_tested : (os : List heap.Object) (n : ℕ) → Decides (is_there os n) (n < length os)
there_tested os n = Decides-ltb n (length os)

text_at_tested : (os : List heap.Object) (n : ℕ) → Decides (is_text_at os n) (IsText os n)
text_at_tested os n = Decides-and _ _ (there_tested os n) (text_tested (object_at os n).sort)

object_or_null_tested : (os : List heap.Object) (w : Word) → Decides (is_object_or_null os w) (IsObjectOrNull os w)
object_or_null_tested os (Ref n) = there_tested os n
object_or_null_tested os _ = (λ e. tt, λ u. refl)

text_or_null_tested : (os : List heap.Object) (w : Word) → Decides (is_text_or_null os w) (IsTextOrNull os w)
text_or_null_tested os (Ref n) = text_at_tested os n
text_or_null_tested os _ = (λ e. tt, λ u. refl)

two_tested : (os : List heap.Object) (n : ℕ) → Decides (has_two os n) (HasTwo os n)
two_tested os n =
    Decides-like _ (λ x. record { sort = x.1.0; fields = x.1.1 }) (λ t. (two_there os n t, (t.sort, t.fields)))
    (Decides-and _ _ (there_tested os n) (Decides-and _ _ (object_tested (object_at os n).sort) (at_most_tested 2 (length (object_at os n).contents))))

array_tested : (os : List heap.Object) (w : Word) (count : ℕ) → Decides (has_array os w count) (HasArray os w count)
array_tested os (Ref a) count =
    Decides-like _ (λ x. (x.0, x.1.0, x.1.1)) (λ t. (t.0, (t.1, t.2)))
    (Decides-and _ _ (there_tested os a) (Decides-and _ _ (chars_tested (object_at os a).sort) (at_most_tested count (length (object_at os a).contents))))
array_tested os _ count = Decides-eqb count 0

builder_tested : (os : List heap.Object) (n : ℕ) → Decides (is_builder os n) (IsBuilder os n)
builder_tested os n =
    Decides-like _ (λ x. record { object = x.0; array = x.1 }) (λ b. (b.object, b.array))
    (Decides-and _ _ (two_tested os n) (array_tested os (array_of os n) (count_of os n)))

thread_tested : (os : List heap.Object) (n : ℕ) → Decides (is_thread os n) (IsThread os n)
thread_tested os n =
    Decides-like _ (λ x. record { object = x.0; number = x.1 }) (λ t. (t.object, t.number))
    (Decides-and _ _ (two_tested os n) (at_most_tested (number_at os n 1) MOST_THREADS))

sendable_tested : (kind : Sendable) (os : List heap.Object) (w : Word) → Decides (is_sendable kind os w) (IsSendable kind os w)
sendable_tested kind os (Ref n) = Decides-and _ _ (there_tested os n) (sent_tested kind (object_at os n).sort)
sendable_tested kind os _ = (λ e. tt, λ u. refl)

-- ---- the isolate

awake_tested : (thread : ℕ) (waiters : List Waiter) → Decides (is_awake thread waiters) (All (λ waiter. waiter.thread ≢ thread) waiters)
awake_tested thread waiters =
    Decides-by_and (λ (w : Waiter). not (w.thread == thread)) (λ (w : Waiter). w.thread ≢ thread) (is_awake thread) (λ w. Decides-not (w.thread == thread) (Decides-eqb w.thread thread)) refl (λ w ws. refl) waiters

wait_tested : (object : ℕ) (m : Machine) → Decides (can_wait object m) (CanWait object m)
wait_tested object m =
    Decides-like _ (λ x. record { there = x.0; known = x.1.0; awake = x.1.1 }) (λ w. (w.there, (w.known, w.awake)))
    (Decides-and _ _ (there_tested m.heap.objects object) (Decides-and _ _ (Decides-ltb m.thread m.waits.threads) (awake_tested m.thread m.waits.waiters)))

-- ---- the native methods

pub fits_tested : (native : Native) (args : List Word) (m : Machine) → Decides (fits native args m) (Fits native args m)
unfolding fits Fits
fits_tested native.Wait args m = wait_tested (ref_arg args 0) m
fits_tested native.Notify args m = there_tested m.heap.objects (ref_arg args 0)
fits_tested native.NotifyAll args m = there_tested m.heap.objects (ref_arg args 0)
fits_tested native.StringLength args m = text_at_tested m.heap.objects (ref_arg args 0)
fits_tested native.CharAt args m = text_at_tested m.heap.objects (ref_arg args 0)
fits_tested native.Substring args m = text_at_tested m.heap.objects (ref_arg args 0)
fits_tested native.StringEquals args m = Decides-and _ _ (text_at_tested m.heap.objects (ref_arg args 0)) (object_or_null_tested m.heap.objects (word_arg args 1))
fits_tested native.HashCode args m = text_at_tested m.heap.objects (ref_arg args 0)
fits_tested native.InitBuilder args m = two_tested m.heap.objects (ref_arg args 0)
fits_tested native.AppendInt args m = builder_tested m.heap.objects (ref_arg args 0)
fits_tested native.AppendLong args m = builder_tested m.heap.objects (ref_arg args 0)
fits_tested native.AppendChar args m = builder_tested m.heap.objects (ref_arg args 0)
fits_tested native.AppendBoolean args m = builder_tested m.heap.objects (ref_arg args 0)
fits_tested native.AppendText args m = Decides-and _ _ (builder_tested m.heap.objects (ref_arg args 0)) (text_or_null_tested m.heap.objects (word_arg args 1))
fits_tested native.BuilderLength args m = builder_tested m.heap.objects (ref_arg args 0)
fits_tested native.BuilderToString args m = builder_tested m.heap.objects (ref_arg args 0)
fits_tested native.PrintText args m = text_or_null_tested m.heap.objects (word_arg args 1)
fits_tested native.PrintlnText args m = text_or_null_tested m.heap.objects (word_arg args 1)
fits_tested native.ParseInt args m = text_or_null_tested m.heap.objects (word_arg args 0)
fits_tested native.InitThread args m = two_tested m.heap.objects (ref_arg args 0)
fits_tested native.InitTarget args m = two_tested m.heap.objects (ref_arg args 0)
fits_tested native.StartThread args m = thread_tested m.heap.objects (ref_arg args 0)
fits_tested native.Join args m = thread_tested m.heap.objects (ref_arg args 0)
fits_tested native.IsolateNumber args m = Decides-ltb m.launch.number (2 ^ 31)
fits_tested native.SendInts args m = sendable_tested what.Ints m.heap.objects (word_arg args 1)
fits_tested native.SendLongs args m = sendable_tested what.Longs m.heap.objects (word_arg args 1)
fits_tested native.SendBytes args m = sendable_tested what.Bytes m.heap.objects (word_arg args 1)
fits_tested native.SendText args m = sendable_tested what.Units m.heap.objects (word_arg args 1)
fits_tested native.InitThrowable args m = two_tested m.heap.objects (ref_arg args 0)
fits_tested native.InitMessage args m = two_tested m.heap.objects (ref_arg args 0)
fits_tested native.InitCause args m = two_tested m.heap.objects (ref_arg args 0)
fits_tested native.GetMessage args m = two_tested m.heap.objects (ref_arg args 0)
fits_tested native.GetCause args m = two_tested m.heap.objects (ref_arg args 0)
fits_tested _ args m = (λ e. tt, λ u. refl)

pub fits_in_means : (o : Option Native) (args : List Word) (m : Machine) → fits_in o args m ≡ true → FitsIn o args m
fits_in_means (Some native) args m e = (fits_tested native args m).0 e
fits_in_means None args m e = absurd cc
