-- What a return asks of the frames in memory, and what it leaves of an isolate and a stack in memory.
use Rattle.std.specs.Prelude.{◌≡◌, ◌≢◌, ◌≤◌, ℕ, List, [], ◌∷◌, Option, Some, Result, Ok, Err}
use Rattle.mvm_base.specs.Answers.{Fails}
use Rattle.mvm_base.specs.declared.value.Kind.{Kind}
use Rattle.mvm_frame.specs.Parts.{StackParts}
use Rattle.mvm_frame.specs.Parts.{Frame as KeyedFrame}
use Rattle.mvm_isolate.specs.Numbered.{Numbered, named}
use Rattle.mvm_isolate.specs.declared.stop.Stop.{Stop}
use Rattle.mvm_isolate.specs.declared.stop.Stop.TheVariants.{OutOfMemory}
use Rattle.mvm_current.specs.Keys.{frames_named}
use Rattle.mvm_current.specs.Values.{width}
use Rattle.mvm_current.specs.declared.key.TheConstants.{NO_METHOD}
use Rattle.mvm_object.specs.Going.{Went, does, ready}

-- a value of a kind fits where this room is, if there is a value and a frame
abbrev pub HasRoom : Option Kind → Option ℕ → Type 0
HasRoom (Some k) (Some room) = width k ≤ room
HasRoom _ _ = Unit {0}

-- the nearest of these frames, if there is one, runs a method
abbrev pub AwaitsMethod : List KeyedFrame → Type 0
AwaitsMethod [] = Unit {0}
AwaitsMethod (f ∷ fs) = f.key.method ≢ NO_METHOD

-- The attempt leaves what the definition says, stops for what it says, or memory ran out.
abbrev pub LeavesFrames : Result (Unit {0}) Stop → Result Went Stop → Numbered → StackParts → Option ℕ → Type 0
LeavesFrames (Ok done) definition n s object = definition ≡ Ok (record { isolate = named n; frames = frames_named n s; object = object; after = does ready })
LeavesFrames (Err stop) definition n s object = Fails OutOfMemory stop definition
