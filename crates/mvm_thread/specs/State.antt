-- The state of an isolate, by names.
use Rattle.std.specs.Prelude.{ℕ, ◌+◌, List, [], ◌∷◌, map, Bool, true, false, ◌==◌, if◌then◌else◌, Option, Some, None, slice_get}
use Rattle.mvm_heap.specs.Heap.{free, zeros}
use Rattle.mvm_heap.specs.Objects.{Object}
use Rattle.mvm_heap.specs.declared.kind.ObjectKind.TheVariants as sort
use Rattle.mvm_history.specs.declared.launch.Launch.{Launch}
use Rattle.mvm_mirror.specs.States.{first_state}
use Rattle.mvm_mirror.specs.Statics.{zero_of}
use Rattle.mvm_native.specs.declared.env.LinkUse.{LinkUse}
use Rattle.mvm_native.specs.declared.out.Thrown.TheVariants.{OutOfMemoryError, StackOverflowError}
use Rattle.mvm_isolate.specs.Types.{of_class}
use Rattle.mvm_isolate.specs.Thrown.{name_of_thrown}
use Rattle.mvm_history.specs.declared.end.End.{End}
use Rattle.mvm_mirror.specs.declared.state.InitState.{InitState}
use Rattle.mvm_mirror.specs.declared.state.InitState.TheVariants.{NotBegun, InProgress, Initialised, Erroneous}
use Rattle.mvm_native.specs.declared.out.Act.{Act}
use Rattle.mvm_region.specs.declared.monitor.Monitor.{Monitor}
use Rattle.mvm_isolate.specs.Isolate.{Isolate}
use Rattle.mvm_current.specs.Frames.{Frame, starting, bare_frame}
use Rattle.mvm_object.specs.Going.{Doing, ready, entering, waiting, initing, joining, sending, receiving, asking, ended}
use Rattle.mvm_locking.specs.Monitors.{is_free}
use Rattle.mvm_isolate.specs.Monitors.{monitor_at}

pub record Thread : Type 0 where
  pub doing : Doing
  -- its object, if it has one
  pub object : Option ℕ
  -- its frames, the top one first
  pub frames : List Frame

-- an exception that nothing caught: its thread, the name of its class, and its message if it has one
pub record Uncaught : Type 0 where
  pub thread : ℕ
  pub class : List ℕ
  pub message : Option (List ℕ)

pub record State : Type 0 where
  pub isolate : Isolate
  pub launch : Launch
  -- of each link of the launch, by its number: whether it is closed on this side
  pub closed : List Bool
  pub threads : List Thread
  -- the thread of the last turn
  pub last : Option ℕ
  -- how many attempts were made
  pub steps : ℕ
  -- the bytes of the messages that were sent and received
  pub message_bytes : ℕ
  pub uncaught : List Uncaught
  -- what a thread wants of the world outside its isolate, as long as nothing was done about it
  pub act : Option Act
  -- how it ended, if it did
  pub end : Option End

-- ---- which threads can step

abbrev pub has_ended : Doing → Bool
has_ended ended = true
has_ended doing = false

abbrev pub is_ended : Option Thread → Bool
is_ended (Some thread) = has_ended thread.doing
is_ended None = false

abbrev pub is_unowned : Option Monitor → Bool
is_unowned (Some monitor) = is_free monitor.owner
is_unowned None = false

-- the class is not being initialised by another thread
abbrev pub is_open : ℕ → InitState → Bool
is_open thread (InProgress other) = other == thread
is_open thread state = true

abbrev pub can_do : ℕ → Doing → State → Bool
can_do thread ready s = true
can_do thread (entering object count) s = is_unowned (monitor_at s.isolate object)
can_do thread (initing class) s = is_open thread (s.isolate.classes.states class)
can_do thread (joining other) s = is_ended (slice_get s.threads other)
can_do thread doing s = false

abbrev pub can_thread : ℕ → State → Option Thread → Bool
can_thread number s (Some thread) = can_do number thread.doing s
can_thread number s None = false

-- the thread of a number can make an attempt
unfoldable pub can_step : State → ℕ → Bool
can_step s thread = can_thread thread s (slice_get s.threads thread)

-- it waits for the world outside its isolate
abbrev pub is_outside : Doing → Bool
is_outside (sending link) = true
is_outside (receiving link) = true
is_outside asking = true
is_outside doing = false

-- ---- links

abbrev pub sends_on : ℕ → Doing → Bool
sends_on link (sending other) = other == link
sends_on link doing = false

abbrev pub receives_on : ℕ → Doing → Bool
receives_on link (receiving other) = other == link
receives_on link doing = false

-- the first of these threads of which that holds; the first of them has this number
abbrev pub first_from : ℕ → (Doing → Bool) → List Thread → Option ℕ
first_from number holds [] = None
first_from number holds (thread ∷ threads) = if holds thread.doing then Some number else first_from (number + 1) holds threads

abbrev pub use_by : List Thread → ℕ → Bool → LinkUse
use_by threads link closed = record { closed = closed; sender = first_from 0 (sends_on link) threads; receiver = first_from 0 (receives_on link) threads }

-- how the links from a number on stand on this side
abbrev pub uses_from : ℕ → List Thread → List Bool → List LinkUse
uses_from link threads [] = []
uses_from link threads (closed ∷ others) = use_by threads link closed ∷ uses_from (link + 1) threads others

-- ---- the beginning

-- an error that is set aside, without message and cause
abbrev pub set_aside : Object
set_aside = zeros sort.Object 0 2

-- An isolate that has done nothing: want of words and want of frames have their objects, which no limit counts; the built-in classes are
-- initialised; its one thread is at its start.
unfoldable pub opened : Launch → State
opened launch = record {
  isolate = record {
    heap = record { objects = set_aside ∷ set_aside ∷ []; monitors = free ∷ free ∷ []; texts = []; size = launch.limits.heap + 8 };
    types = of_class (name_of_thrown OutOfMemoryError) ∷ of_class (name_of_thrown StackOverflowError) ∷ [];
    classes = record { states = first_state; statics = λ class name desc. zero_of desc; objects = λ class. None };
    arrays = λ shape. None;
    output = [];
    waits = record { threads = launch.limits.threads; waiters = [] };
  };
  launch = launch;
  closed = map (λ link. false) launch.links;
  threads = record { doing = ready; object = None; frames = bare_frame starting 0 ∷ [] } ∷ [];
  last = None;
  steps = 0;
  message_bytes = 0;
  uncaught = [];
  act = None;
  end = None;
}
