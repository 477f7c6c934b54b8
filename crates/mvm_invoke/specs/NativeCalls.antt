-- Calls of native methods (JVM Specification 2.6.1, 6.5 under invokevirtual), with what the methods of Thread and Object leave to the machine.
use Rattle.std.specs.Prelude.{ℕ, ◌+◌, List, [], ◌∷◌, length, map, Bool, true, false, not, ◌&&◌, nat_lt, if◌then◌else◌, Option, Some, None, Result, Ok, Err, codes}
use Rattle.mvm_base.specs.Answers.{◌>>=◌}
use Rattle.mvm_base.specs.declared.descriptor.FieldShape.{FieldShape}
use Rattle.mvm_base.specs.declared.descriptor.MethodShape.{MethodShape}
use Rattle.mvm_base.specs.declared.value.Word.{Word}
use Rattle.mvm_base.specs.declared.value.Word.TheVariants.{Ref}
use Rattle.mvm_builtin.specs.declared.natives.Native.{Native}
use Rattle.mvm_heap.specs.Heap.{object_at}
use Rattle.mvm_history.specs.declared.end.LimitKind.TheVariants.{Threads}
use Rattle.mvm_native.specs.declared.out.Act.{Act}
use Rattle.mvm_native.specs.declared.out.Act.TheVariants.{Offer, Receive, Ask}
use Rattle.mvm_native.specs.declared.out.Out.{Out}
use Rattle.mvm_native.specs.declared.out.Out.TheVariants as out
use Rattle.mvm_native.specs.declared.out.Thrown.TheVariants.{VerifyError}
use Rattle.mvm_isolate.specs.Isolate.{Isolate, stopped, new_object, with_number}
use Rattle.mvm_isolate.specs.Look.{Look}
use Rattle.mvm_isolate.specs.Natives.{all_suit, is_text_at, native_called, type_of_shape, value_suits}
use Rattle.mvm_isolate.specs.Types.{ReferenceType, of_class}
use Rattle.mvm_isolate.specs.declared.stop.Stop.{Stop}
use Rattle.mvm_current.specs.Arguments.{kind_of_shape}
use Rattle.mvm_current.specs.Frames.{Frame, pushed, without, at_place}
use Rattle.mvm_current.specs.Values.{may_push}
use Rattle.mvm_object.specs.Going.{Context, Point, Went, After, does, starts, notifies, acts, exits, limited, Doing, ready, waiting, joining, sending, receiving, asking, in_isolate}
use Rattle.mvm_locking.specs.Monitors.{monitor_freed, count_in}
use Rattle.mvm_isolate.specs.Thrown.{THREAD}
use Rattle.mvm_isolate.specs.Monitors.{monitor_at}
use Rattle.mvm_invoke.specs.declared.passed.Passed.{Passed}

-- ---- what a method answers

-- the thread goes on behind the call, and this is left to be done
abbrev pub going : Context → ℕ → After → Point → Went
going c next after p = record { isolate = p.isolate; frames = at_place next p.frame ∷ p.callers; object = c.object; after = after }

-- what is left to be done by the isolate as a whole
abbrev pub leaving : Context → After → Point → Went
leaving c after p = record { isolate = p.isolate; frames = p.frame ∷ p.callers; object = c.object; after = after }

-- the value is on the operands, where it fits; that it does was asked before
abbrev pub put_on : Frame → Result Frame Stop → Frame
put_on f (Ok g) = g
put_on f (Err stop) = f

-- it returns
abbrev pub returning : Context → ℕ → Option Word → Point → Went
returning c next (Some word) p = going c next (does ready) (record p { frame = put_on p.frame (pushed word p.frame) })
returning c next None p = going c next (does ready) p

abbrev pub acting : Context → Act → Point → Went
acting c (Offer link message) p = leaving c (acts (Offer link message) (sending link)) p
acting c (Receive link) p = leaving c (does (receiving link)) p
acting c (Ask ask) p = leaving c (acts (Ask ask) asking) p

-- an object of a thread has two fields
abbrev pub has_number : ℕ → Isolate → Bool
has_number object s = nat_lt object (length s.heap.objects) && nat_lt 1 (length (object_at s.heap.objects object).contents) && not (is_text_at s object)

-- Its second field holds its number and 1 once it was started.
unfoldable pub with_thread_number : ℕ → ℕ → Isolate → Isolate
with_thread_number object thread s = if has_number object s then with_number object 1 (thread + 1) s else s

-- Thread.start: another thread, with the next number, unless there may be no more
abbrev pub starting_thread : Context → ℕ → ℕ → Point → Went
starting_thread c next object p =
    if nat_lt c.threads c.launch.limits.threads
    then going c next (starts object) (in_isolate (with_thread_number object c.threads p.isolate) p)
    else leaving c (limited Threads) p

-- Thread.join: it returns at once where the thread has ended
abbrev pub joining_thread : Context → ℕ → ℕ → Point → Went
joining_thread c next thread p = if c.has_ended thread then going c next (does ready) p else leaving c (does (joining thread)) p

-- Object.wait: the monitor is given up whole
abbrev pub waiting_on : Context → ℕ → Point → Went
waiting_on c object p = leaving c (does (waiting object (count_in (monitor_at p.isolate object)))) (in_isolate (monitor_freed object p.isolate) p)

-- Thread.currentThread: the object of the thread, which for the first thread is made at its first call
abbrev pub current_object : Context → ℕ → Option ℕ → Point → Result Went Stop
current_object c next (Some object) p = Ok (returning c next (Some (Ref object)) p)
current_object c next None p =
    new_object THREAD 2 p.isolate >>= λ x.
    Ok (record (returning c next (Some (Ref x.0)) (in_isolate (with_thread_number x.0 c.thread x.1) p)) { object = Some x.0 })

-- what the answer of a native method means for its thread, at a point where its arguments are taken off
abbrev pub answered : Context → ℕ → Point → Out → Result Went Stop
answered c next p (out.Value value) = Ok (returning c next value p)
answered c next p (out.Throw thrown) = stopped thrown
answered c next p (out.Act act) = Ok (acting c act p)
answered c next p (out.Start object) = Ok (starting_thread c next object p)
answered c next p (out.Join thread) = Ok (joining_thread c next thread p)
answered c next p (out.Wait object) = Ok (waiting_on c object p)
answered c next p (out.Notify object all) = Ok (going c next (notifies object all) p)
answered c next p out.Current = current_object c next c.object p
answered c next p (out.Exit status) = Ok (leaving c (exits status) p)
answered c next p (out.Limit kind) = Ok (leaving c (limited kind) p)

-- the answers with which an attempt may fail; with these a method leaves its isolate as it was
abbrev pub MayFail : Out → Type 0
MayFail (out.Throw thrown) = Unit {0}
MayFail out.Current = Unit {0}
MayFail _ = ⊥

-- ---- the call

-- what the receiver is to be, if there is one, and then what the parameters are
abbrev pub parameter_types : Bool → List ℕ → MethodShape → List ReferenceType
parameter_types true class shape = map type_of_shape shape.params
parameter_types false class shape = of_class class ∷ map type_of_shape shape.params

-- a value suits a type, if there is one
abbrev pub some_suits : Look → Isolate → ReferenceType → Option Word → Bool
some_suits look s type (Some word) = value_suits look s type word
some_suits look s type None = false

abbrev pub must_suit : Bool → Result (Unit {0}) Stop
must_suit true = Ok tt
must_suit false = stopped VerifyError

-- the result of a method, if it has one, fits on the operands
abbrev pub result_fits : Option FieldShape → Frame → Result (Unit {0}) Stop
result_fits (Some shape) f = may_push (kind_of_shape shape) f
result_fits None f = Ok tt

-- the arguments are taken off the operands
abbrev pub off : ℕ → Point → Point
off slots p = record p { frame = without slots p.frame }

unfoldable pub native_done : Context → Native → Passed → ℕ → Point → Result Went Stop
native_done c native x next p = native_called c.launch c.thread c.links native x.arguments p.isolate >>= λ y. answered c next (off x.slots (in_isolate y.1 p)) y.0

-- First its result has to fit where the arguments are taken off. Then its arguments suit the types, and are what the method takes them for; or the
-- code is wrong.
unfoldable pub native_call : Context → Native → Bool → List ℕ → Passed → ℕ → Point → Result Went Stop
native_call c native static class x next p =
    result_fits x.shape.result (without x.slots p.frame) >>= λ fits.
    must_suit (all_suit c.look p.isolate (parameter_types static class x.shape) x.arguments) >>= λ suits. native_done c native x next p
