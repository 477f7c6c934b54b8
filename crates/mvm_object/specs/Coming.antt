-- What an attempt works on and what it leaves, of an isolate and a stack in memory.
use Rattle.std.specs.Prelude.{◌≡◌, ◌≤◌, ℕ, ◌^◌, List, ◌∷◌, Option, Result, Ok, Err}
use Rattle.mvm_base.specs.Answers.{Fails}
use Rattle.mvm_frame.specs.Parts.{StackParts}
use Rattle.mvm_isolate.specs.Numbered.{Numbered, look_of, name_at, named, IsClass}
use Rattle.mvm_isolate.specs.declared.stop.Stop.{Stop}
use Rattle.mvm_isolate.specs.declared.stop.Stop.TheVariants.{OutOfMemory}
use Rattle.mvm_current.specs.Keys.{top_named, callers_named}
use Rattle.mvm_object.specs.Going.{Doing, Context, After, does, Point, Went}
use Rattle.mvm_object.specs.Going as doing
use Rattle.mvm_object.specs.declared.state.ThreadState.{ThreadState}
use Rattle.mvm_object.specs.declared.state.ThreadState.TheVariants as state

-- ---- what an attempt is told

-- what a thread of this isolate looks up, what it was launched with, and which of its threads it is
pub record IsFor (c : Context) (n : Numbered) (thread : ℕ) : Type 0 where
  pub look : c.look ≡ look_of n
  pub launch : c.launch ≡ n.env.launch
  pub number : c.thread ≡ thread

-- where a thread is that has a frame
abbrev pub point_of : Numbered → StackParts → Point
point_of n s = record { isolate = named n; frame = top_named n s; callers = callers_named n s }

-- ---- what it leaves

-- what a thread does, by names
abbrev pub doing_named : Numbered → ThreadState → Doing
doing_named n state.Ready = doing.ready
doing_named n (state.Entering object times) = doing.entering object times
doing_named n (state.Waiting object times) = doing.waiting object times
doing_named n (state.Initing mirror) = doing.initing (name_at n mirror)
doing_named n (state.Joining thread) = doing.joining thread
doing_named n (state.Sending link) = doing.sending link
doing_named n (state.Receiving link) = doing.receiving link
doing_named n state.Asking = doing.asking
doing_named n state.Ended = doing.ended

-- the class of a thread that waits for its initialisation is one of the isolate, and a monitor was entered at most 2^32 times
abbrev pub IsState : Numbered → ThreadState → Type 0
IsState n (state.Entering object times) = times ≤ 2 ^ 32
IsState n (state.Waiting object times) = times ≤ 2 ^ 32
IsState n (state.Initing mirror) = IsClass n mirror
IsState n state = Unit {0}

-- what an attempt leaves that leaves a frame
abbrev pub went_of : Numbered → StackParts → Option ℕ → Doing → Went
went_of n s object doing = record { isolate = named n; frames = top_named n s ∷ callers_named n s; object = object; after = does doing }

-- The attempt leaves what the definition says, stops for what it says, or memory ran out.
abbrev pub Comes : Result ThreadState Stop → Result Went Stop → Numbered → StackParts → Option ℕ → Type 0
Comes (Ok state) definition n s object = definition ≡ Ok (went_of n s object (doing_named n state))
Comes (Err stop) definition n s object = Fails OutOfMemory stop definition

-- the same of an instruction with which the thread always goes on
abbrev pub GoesOn : Result (Unit {0}) Stop → Result Went Stop → Numbered → StackParts → Option ℕ → Type 0
GoesOn (Ok done) definition n s object = definition ≡ Ok (went_of n s object doing.ready)
GoesOn (Err stop) definition n s object = Fails OutOfMemory stop definition
