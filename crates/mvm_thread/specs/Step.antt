-- One step of an isolate: one attempt of one of its threads, counted, with what comes of it for the isolate as a whole.
use Rattle.std.specs.Prelude.{ℕ, ◌+◌, ℤ, pos, List, [], ◌∷◌, ◌++◌, length, map, Bool, true, false, not, ◌==◌, if◌then◌else◌, Option, Some, None, Result, Ok, Err, slice_get, slice_set}
use Rattle.std.specs.List.{filter, list_all, list_any}
use Rattle.mvm_base.specs.declared.value.Kind.TheVariants as kind
use Rattle.mvm_base.specs.declared.value.Word.{Word}
use Rattle.mvm_base.specs.declared.value.Word.TheVariants.{Ref}
use Rattle.mvm_heap.specs.Heap.{object_at, number_at}
use Rattle.mvm_heap.specs.Objects.{Object}
use Rattle.mvm_heap.specs.Sorts.{word_of}
use Rattle.mvm_history.specs.declared.end.End.{End}
use Rattle.mvm_history.specs.declared.end.End.TheVariants.{Exit, Limit}
use Rattle.mvm_history.specs.declared.end.LimitKind.{LimitKind}
use Rattle.mvm_history.specs.declared.end.LimitKind.TheVariants.{Steps}
use Rattle.mvm_monitor.specs.Waits.{Waits, longest, woken}
use Rattle.mvm_native.specs.Strings.{is_text}
use Rattle.mvm_table.specs.Files.{File}
use Rattle.mvm_isolate.specs.Isolate.{Isolate, type_at}
use Rattle.mvm_isolate.specs.Look.{Look, look_in}
use Rattle.mvm_isolate.specs.Types.{ReferenceType, of_class, of_array}
use Rattle.mvm_isolate.specs.declared.stop.Stop.{Stop}
use Rattle.mvm_thread.specs.Attempt.{attempt}
use Rattle.mvm_current.specs.Frames.{Frame, starting, bare_frame}
use Rattle.mvm_object.specs.Going.{Doing, ready, entering, waiting, ended, Context, Went, After, does, starts, notifies, acts, ends_uncaught, exits, limited}
use Rattle.mvm_thread.specs.State.{Thread, Uncaught, State, is_ended, has_ended, uses_from}

-- ---- ends

-- the isolate ends; nothing is done any more about what a thread wanted
abbrev pub ended_by : End → State → State
ended_by end s = record s { end = Some end; act = None }

abbrev pub all_ended : List Thread → Bool
all_ended threads = list_all (λ thread. has_ended thread.doing) threads

-- the first thread ended by what it did not catch
abbrev pub status_of : List Uncaught → ℤ
status_of uncaught = if list_any (λ one. one.thread == 0) uncaught then pos 1 else pos 0

-- where all threads have ended, the isolate has
abbrev pub unless_over : State → State
unless_over s = if all_ended s.threads then ended_by (Exit (status_of s.uncaught)) s else s

-- ---- threads

abbrev pub with_thread : ℕ → Thread → State → State
with_thread number thread s = record s { threads = slice_set s.threads number thread }

-- the isolate and the thread as an attempt leaves them
abbrev pub after_attempt : ℕ → Doing → Went → State → State
after_attempt number doing w s = with_thread number (record { doing = doing; object = w.object; frames = w.frames }) (record s { isolate = w.isolate })

-- a thread that waits on an object waits for its monitor from then on
abbrev pub awake : Doing → Doing
awake (waiting object count) = entering object count
awake doing = doing

abbrev pub wake_in : ℕ → Option Thread → List Thread → List Thread
wake_in number (Some thread) threads = slice_set threads number (record thread { doing = awake thread.doing })
wake_in number None threads = threads

abbrev pub with_waiters : Waits → State → State
with_waiters waits s = record s { isolate = record s.isolate { waits = waits } }

abbrev pub wake : ℕ → Option ℕ → State → State
wake object (Some number) s =
    with_waiters (record s.isolate.waits { waiters = woken object s.isolate.waits.waiters }) (record s { threads = wake_in number (slice_get s.threads number) s.threads })
wake object None s = s

-- notify: the thread that waits longest on the object
unfoldable pub notified : ℕ → State → State
notified object s = wake object (longest object s.isolate.waits.waiters) s

abbrev pub awake_on : ℕ → Doing → Doing
awake_on object (waiting other count) = if other == object then entering other count else waiting other count
awake_on object doing = doing

abbrev pub wake_on : ℕ → Thread → Thread
wake_on object thread = record thread { doing = awake_on object thread.doing }

-- notifyAll: all that wait on the object
unfoldable pub all_notified : ℕ → State → State
all_notified object s =
    with_waiters (record s.isolate.waits { waiters = filter (λ waiter. not (waiter.object == object)) s.isolate.waits.waiters }) (record s { threads = map (wake_on object) s.threads })

abbrev pub notified_by : Bool → ℕ → State → State
notified_by false object s = notified object s
notified_by true object s = all_notified object s

-- Thread.start: a thread with its object, whose first frame is that of its start
abbrev pub thread_started : ℕ → State → State
thread_started object s = record s { threads = s.threads ++ record { doing = ready; object = Some object; frames = bare_frame starting 0 ∷ [] } ∷ [] }

-- ---- what nothing caught

abbrev pub class_name_of : Option ReferenceType → List ℕ
class_name_of (Some (of_class name)) = name
class_name_of _ = []

abbrev pub text_in : Object → Option (List ℕ)
text_in o = if is_text o.sort then Some o.contents else None

abbrev pub message_in : List Object → Word → Option (List ℕ)
message_in os (Ref n) = text_in (object_at os n)
message_in os _ = None

-- the message is the first field of a throwable
abbrev pub uncaught_of : ℕ → ℕ → Isolate → Uncaught
uncaught_of thread object s = record {
  thread = thread;
  class = class_name_of (type_at s object);
  message = message_in s.heap.objects (word_of kind.Ref (number_at s.heap.objects object 0));
}

-- ---- the step

unfoldable pub followed : ℕ → Went → State → After → State
followed number w s (does doing) = unless_over (after_attempt number doing w s)
followed number w s (starts object) = thread_started object (after_attempt number ready w s)
followed number w s (notifies object all) = notified_by all object (after_attempt number ready w s)
followed number w s (acts act doing) = record (after_attempt number doing w s) { act = Some act }
followed number w s (ends_uncaught object) =
    unless_over (record (after_attempt number ended w s) { uncaught = s.uncaught ++ uncaught_of number object w.isolate ∷ [] })
followed number w s (exits status) = ended_by (Exit status) (after_attempt number ready w s)
followed number w s (limited kind) = ended_by (Limit kind) (after_attempt number ready w s)

abbrev pub counted : State → State
counted s = record s { steps = s.steps + 1 }

abbrev pub context_of : Look → ℕ → Thread → State → Context
context_of look number thread s = record {
  look = look;
  launch = s.launch;
  thread = number;
  threads = length s.threads;
  has_ended = λ other. is_ended (slice_get s.threads other);
  links = uses_from 0 s.threads s.closed;
  object = thread.object;
}

abbrev pub come_of : ℕ → State → Result Went Stop → State
come_of number s (Ok w) = followed number w s w.after
-- an attempt stops for the machine's own memory alone, of which no definition speaks
come_of number s (Err stop) = s

abbrev pub attempt_of : Look → ℕ → State → Option Thread → State
attempt_of look number s (Some thread) = come_of number (counted s) (attempt (context_of look number thread s) thread.doing s.isolate thread.frames)
attempt_of look number s None = s

-- One attempt of the thread of a number. Where as many were made as there may be, the isolate ends, and the attempt is not counted.
unfoldable pub step_with : Look → State → ℕ → State
step_with look s number =
    if s.steps == s.launch.limits.steps then ended_by (Limit Steps) s else attempt_of look number s (slice_get s.threads number)

-- the same over the values that the definitions give, on the files of the set of its launch
abbrev pub step : List (List File) → State → ℕ → State
step table s number = step_with (look_in table s.launch.set) s number
