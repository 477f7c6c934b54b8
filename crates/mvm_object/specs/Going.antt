-- What an attempt of a thread works on, and what comes of it (JVM Specification 2.5, 2.6).
use Rattle.std.specs.Prelude.{ℕ, ℤ, List, [], ◌∷◌, Bool, Option, Some, None, Result, Ok, Err}
use Rattle.mvm_base.specs.Answers.{◌>>=◌}
use Rattle.mvm_base.specs.declared.value.Word.{Word}
use Rattle.mvm_history.specs.declared.end.LimitKind.{LimitKind}
use Rattle.mvm_history.specs.declared.launch.Launch.{Launch}
use Rattle.mvm_native.specs.declared.env.LinkUse.{LinkUse}
use Rattle.mvm_native.specs.declared.out.Act.{Act}
use Rattle.mvm_isolate.specs.Isolate.{Isolate, stopped}
use Rattle.mvm_isolate.specs.Look.{Look}
use Rattle.mvm_isolate.specs.declared.stop.Stop.{Stop}
use Rattle.mvm_current.specs.Frames.{Frame, pushed, at_place}

-- what a thread does, or what it waits for; a class is told by its name
pub data Doing : Type 0 where
  ready : Doing
  -- it waits for the monitor of an object: to enter it so many times at once, or, where that is 0, to make an attempt anew
  entering : ℕ → ℕ → Doing
  -- it waits on an object, whose monitor it had entered so many times
  waiting : ℕ → ℕ → Doing
  -- it waits for another thread to initialise a class
  initing : List ℕ → Doing
  -- it waits for a thread to end
  joining : ℕ → Doing
  -- it waits for the other end of a link
  sending : ℕ → Doing
  receiving : ℕ → Doing
  -- it waits for the machine's answer
  asking : Doing
  ended : Doing

-- what an attempt looks up, and what it is told of its isolate
pub record Context : Type 0 where
  pub look : Look
  -- what the isolate was launched with; its quantum is looked at by no rule of a step
  pub launch : Launch
  -- the number of the thread
  pub thread : ℕ
  -- how many threads there are
  pub threads : ℕ
  -- which of them have ended
  pub has_ended : ℕ → Bool
  -- how each link stands on this side: whether it is closed, and which thread is sending or receiving on it
  pub links : List LinkUse
  -- the thread's own object, if it has one
  pub object : Option ℕ

-- where a thread is: its isolate, its top frame and the frames below it
pub record Point : Type 0 where
  pub isolate : Isolate
  pub frame : Frame
  pub callers : List Frame

-- what an attempt leaves to be done by the isolate as a whole
pub data After : Type 0 where
  -- nothing but that the thread does this from now on
  does : Doing → After
  -- the thread goes on, and another one begins, whose object is this
  starts : ℕ → After
  -- the thread goes on, and of those that wait on an object one, or all, are woken
  notifies : ℕ → Bool → After
  -- the thread waits for what it wants of the world outside its isolate
  acts : Act → Doing → After
  -- the thread ends by an object that nothing caught
  ends_uncaught : ℕ → After
  -- the isolate ends with a status, or by a limit
  exits : ℤ → After
  limited : LimitKind → After

-- what an attempt leaves: the isolate, the frames of the thread, its object, and what is to be done
pub record Went : Type 0 where
  pub isolate : Isolate
  pub frames : List Frame
  pub object : Option ℕ
  pub after : After

-- ---- the ways to go on

-- the thread goes on at this place of its top frame
abbrev pub going_on : Context → ℕ → Frame → Point → Went
going_on c next f p = record { isolate = p.isolate; frames = at_place next f ∷ p.callers; object = c.object; after = does ready }

-- this value is pushed, and the thread goes on
abbrev pub pushing : Context → ℕ → Word → Point → Result Went Stop
pushing c next word p = pushed word p.frame >>= λ f. Ok (going_on c next f p)

-- the frames are as they were, and the thread waits
abbrev pub stays : Context → Doing → Point → Went
stays c doing p = record { isolate = p.isolate; frames = p.frame ∷ p.callers; object = c.object; after = does doing }

-- the isolate is this one
abbrev pub in_isolate : Isolate → Point → Point
in_isolate s p = record p { isolate = s }

-- the top frame is this one
abbrev pub in_frame : Frame → Point → Point
in_frame f p = record p { frame = f }
