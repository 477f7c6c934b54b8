-- What the attempt of a thread that starts, or that initialises a class, leaves of an isolate and a stack in memory.
use Rattle.std.specs.Prelude.{◌≡◌, ℕ, Option, Result, Ok, Err}
use Rattle.mvm_base.specs.Answers.{Fails}
use Rattle.mvm_frame.specs.Parts.{StackParts}
use Rattle.mvm_isolate.specs.Numbered.{Numbered, named}
use Rattle.mvm_isolate.specs.declared.stop.Stop.{Stop}
use Rattle.mvm_isolate.specs.declared.stop.Stop.TheVariants.{OutOfMemory}
use Rattle.mvm_current.specs.Keys.{frames_named}
use Rattle.mvm_object.specs.Coming.{doing_named}
use Rattle.mvm_object.specs.Going.{Went, does}
use Rattle.mvm_object.specs.declared.state.ThreadState.{ThreadState}

-- what is left where the thread does this from then on; its frames may be fewer or more
abbrev pub left_named : Numbered → StackParts → Option ℕ → ThreadState → Went
left_named n s object state = record { isolate = named n; frames = frames_named n s; object = object; after = does (doing_named n state) }

-- The attempt leaves what the definition says, stops for what it says, or memory ran out.
abbrev pub LeavesState : Result ThreadState Stop → Result Went Stop → Numbered → StackParts → Option ℕ → Type 0
LeavesState (Ok state) definition n s object = definition ≡ Ok (left_named n s object state)
LeavesState (Err stop) definition n s object = Fails OutOfMemory stop definition
