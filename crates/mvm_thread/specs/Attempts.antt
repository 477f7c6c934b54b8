-- What one attempt leaves, of an isolate and a stack in memory.
use Rattle.std.specs.Prelude.{◌≡◌, Result, Ok, Err}
use Rattle.mvm_base.specs.declared.memory.OutOfMemory.{OutOfMemory}
use Rattle.mvm_frame.specs.Parts.{StackParts}
use Rattle.mvm_isolate.specs.Numbered.{Numbered}
use Rattle.mvm_isolate.specs.declared.stop.Stop.{Stop}
use Rattle.mvm_object.specs.Going.{Went}
use Rattle.mvm_invoke.specs.Leaving.{left_named}
use Rattle.mvm_invoke.specs.declared.left.Left.{Left}

-- the attempt leaves what the definition says, or memory ran out
abbrev pub Attempts : Result Left OutOfMemory → Result Went Stop → Numbered → StackParts → Type 0
Attempts (Ok l) definition n s = definition ≡ Ok (left_named n s l)
Attempts (Err refused) definition n s = Unit {0}
