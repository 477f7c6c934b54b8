-- A task as it stands in memory, and the state of an isolate that it stands for, by names.
use Rattle.std.specs.Prelude.{ℕ, ◌+◌, ◌*◌, List, [], ◌∷◌, ◌++◌, map, take, Bool, true, false, Option, Some, None, slice_get}
use Rattle.mvm_history.specs.declared.end.End.{End}
use Rattle.mvm_native.specs.declared.env.LinkUse.{LinkUse}
use Rattle.mvm_native.specs.declared.out.Act.{Act}
use Rattle.mvm_isolate.specs.Isolate.{Isolate}
use Rattle.mvm_isolate.specs.Numbered.{Numbered, named}
use Rattle.mvm_current.specs.Keys.{frames_named}
use Rattle.mvm_object.specs.Coming.{doing_named}
use Rattle.mvm_object.specs.declared.state.ThreadState.{ThreadState}
use Rattle.mvm_object.specs.declared.state.ThreadState.TheVariants as state
use Rattle.mvm_thread.specs.State as by_name
use Rattle.mvm_thread.specs.State.{Thread, State, can_step, is_ended}
use Rattle.mvm_thread.specs.Step.{uncaught_of}
use Rattle.mvm_interp.specs.declared.block.Uncaught.{Uncaught}
use Rattle.mvm_interp.specs.declared.row.ThreadRow.{ThreadRow}
use Rattle.mvm_interp.specs.declared.stepped.Stepped.{Stepped}
use Rattle.mvm_interp.specs.declared.stepped.Stepped.TheVariants.{Ran, Blocked, ThreadEnded, Acted, TaskEnded}
use Rattle.mvm_interp.specs.declared.unread.Unread.{Unread}

pub record TaskParts : Type 0 where
  pub isolate : Numbered
  -- a row for each thread that there may ever be
  pub rows : List ThreadRow
  -- how many threads there are: the first so many of the rows
  pub count : ℕ
  -- which of them have ended: bit n stands for thread n
  pub ended : ℕ
  pub last : Option ℕ
  pub steps : ℕ
  pub message_bytes : ℕ
  -- what nothing caught, as far as it was read
  pub uncaught : List Uncaught
  -- and behind that what was not read yet, if there is such a one
  pub unread : Option Unread
  pub act : Option Act
  pub end : Option End

-- ---- threads

abbrev pub thread_named : Numbered → ThreadRow → Thread
thread_named n row = record { doing = doing_named n row.state; object = row.object; frames = frames_named n row.stack }

abbrev pub threads_named : Numbered → ℕ → List ThreadRow → List Thread
threads_named n count rows = map (thread_named n) (take count rows)

-- the thread of a row has ended
abbrev pub is_over : ThreadState → Bool
is_over state.Ended = true
is_over state = false

-- which threads have ended
abbrev pub bit_of : Bool → ℕ
bit_of true = 1
bit_of false = 0

unfoldable pub ended_bits : List ThreadRow → ℕ
ended_bits [] = 0
ended_bits (row ∷ rows) = bit_of (is_over row.state) + 2 * ended_bits rows

-- ---- links

abbrev pub closed_in : List LinkUse → List Bool
closed_in links = map (λ link. link.closed) links

-- ---- what nothing caught

abbrev pub uncaught_named : Uncaught → by_name.Uncaught
uncaught_named one = record { thread = one.thread; class = one.class; message = one.message }

abbrev pub with_unread : Isolate → List by_name.Uncaught → Option Unread → List by_name.Uncaught
with_unread s ones (Some last) = ones ++ uncaught_of last.thread last.object s ∷ []
with_unread s ones None = ones

-- ---- the whole

abbrev pub names : TaskParts → State
names t = record {
  isolate = named t.isolate;
  launch = t.isolate.env.launch;
  closed = closed_in t.isolate.env.links;
  threads = threads_named t.isolate t.count t.rows;
  last = t.last;
  steps = t.steps;
  message_bytes = t.message_bytes;
  uncaught = with_unread (named t.isolate) (map uncaught_named t.uncaught) t.unread;
  act = t.act;
  end = t.end;
}

-- ---- what a step came to

abbrev pub or_waits : Bool → Stepped
or_waits true = Ran
or_waits false = Blocked

abbrev pub of_thread : ℕ → State → Bool → Stepped
of_thread thread s true = ThreadEnded
of_thread thread s false = or_waits (can_step s thread)

abbrev pub of_act : ℕ → State → Option Act → Stepped
of_act thread s (Some act) = Acted
of_act thread s None = of_thread thread s (is_ended (slice_get s.threads thread))

abbrev pub of_end : ℕ → State → Option End → Stepped
of_end thread s (Some end) = TaskEnded end
of_end thread s None = of_act thread s s.act

-- the first that applies
unfoldable pub stepped_of : ℕ → State → Stepped
stepped_of thread s = of_end thread s s.end
