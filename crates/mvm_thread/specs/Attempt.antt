-- One attempt of one thread, with what it throws (JVM Specification 2.10, 2.11).
use Rattle.std.specs.Prelude.{ℕ, List, [], ◌∷◌, ◌==◌, if◌then◌else◌, Result, Ok, Err}
use Rattle.mvm_base.specs.Answers.{◌>>=◌}
use Rattle.mvm_isolate.specs.Isolate.{Isolate}
use Rattle.mvm_isolate.specs.declared.stop.Stop.{Stop}
use Rattle.mvm_current.specs.Frames.{Runs, method, starting, initialising, Frame}
use Rattle.mvm_object.specs.Going.{Doing, ready, entering, waiting, initing, joining, sending, receiving, asking, ended, Context, Point, Went, After, does, ends_uncaught, going_on, stays, in_isolate}
use Rattle.mvm_thread.specs.Instructions.{instruction}
use Rattle.mvm_locking.specs.Monitors.{monitor_taken}
use Rattle.mvm_current.specs.Code.{next_of}
use Rattle.mvm_starting.specs.Initialising.{initialise}
use Rattle.mvm_starting.specs.Starting.{start}
use Rattle.mvm_throwing.specs.Throwing.{Unwound, throw}

-- ---- what is attempted

abbrev pub for_frame : Context → Runs → Point → Result Went Stop
for_frame c starting p = start c p
for_frame c (initialising class) p = initialise c class p
for_frame c (method class name desc) p = instruction c p

-- what the thread waited for at a call has come about: it goes on behind the call
abbrev pub behind_call : Context → Point → Result Went Stop
behind_call c p = next_of c.look p.frame >>= λ next. Ok (going_on c next p.frame p)

-- A thread that waited for a monitor or for a class makes its attempt anew. One that waited on an object takes the monitor again, with the count
-- that it gave up.
unfoldable pub attempted : Context → Doing → Point → Result Went Stop
attempted c ready p = for_frame c p.frame.runs p
attempted c (entering object count) p =
    if count == 0 then for_frame c p.frame.runs p else behind_call c (in_isolate (monitor_taken c.thread object count p.isolate) p)
attempted c (initing class) p = for_frame c p.frame.runs p
attempted c (joining thread) p = behind_call c p
attempted c doing p = Ok (stays c doing p)

-- ---- with what is thrown

abbrev pub after_unwinding : List Frame → ℕ → After
after_unwinding [] object = ends_uncaught object
after_unwinding (f ∷ fs) object = does ready

-- the thread goes on at a handler, or ends by what nothing caught
abbrev pub after_throw : Context → Result Unwound Stop → Result Went Stop
after_throw c (Ok x) = Ok (record { isolate = x.isolate; frames = x.frames; object = c.object; after = after_unwinding x.frames x.object })
after_throw c (Err missing) = Err missing

-- a thread without frames has ended
abbrev pub ended_or : Doing → List Frame → After
ended_or ready [] = does ended
ended_or doing fs = does doing

abbrev pub with_after : After → Went → Went
with_after after w = record w { after = after }

abbrev pub settled_by : Went → After → Went
settled_by w (does doing) = with_after (ended_or doing w.frames) w
settled_by w after = w

-- what an attempt comes to; what it throws is thrown from the state before it
abbrev pub settled : Context → Isolate → List Frame → Result Went Stop → Result Went Stop
settled c s fs (Ok w) = Ok (settled_by w w.after)
settled c s fs (Err why) = after_throw c (throw c.look c.thread why s fs)

-- one attempt of a thread that does this, in an isolate, with these frames
unfoldable pub attempt : Context → Doing → Isolate → List Frame → Result Went Stop
attempt c doing s [] = Ok (record { isolate = s; frames = []; object = c.object; after = does ended })
attempt c doing s (f ∷ fs) = settled c s (f ∷ fs) (attempted c doing (record { isolate = s; frame = f; callers = fs }))
