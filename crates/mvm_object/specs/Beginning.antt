-- What a call answers that wants a class initialised before it goes on (JVM Specification 5.5).
use Rattle.std.specs.Prelude.{◌≡◌, ℕ, List, Option, Result, Ok, Err}
use Rattle.mvm_base.specs.Answers.{Fails}
use Rattle.mvm_frame.specs.Parts.{StackParts}
use Rattle.mvm_isolate.specs.Numbered.{Numbered, name_at, IsClass}
use Rattle.mvm_isolate.specs.declared.stop.Stop.{Stop}
use Rattle.mvm_isolate.specs.declared.stop.Stop.TheVariants.{OutOfMemory}
use Rattle.mvm_object.specs.Coming.{doing_named, point_of, went_of, IsState}
use Rattle.mvm_object.specs.Going.{Point, Went}
use Rattle.mvm_object.specs.declared.initialised.Once.{Once}
use Rattle.mvm_object.specs.declared.initialised.Once.TheVariants.{Goes, Ends}

-- The attempt goes on from where it now is, ends with what the definition says, stops for what it says, or memory ran out.
abbrev pub Begins : Result Once Stop → Result Went Stop → (Point → Result Went Stop) → Numbered → StackParts → Option ℕ → Type 0
Begins (Ok (Goes mirror)) definition go n s object = definition ≡ go (point_of n s)
Begins (Ok (Ends state)) definition go n s object = definition ≡ Ok (went_of n s object (doing_named n state))
Begins (Err stop) definition go n s object = Fails OutOfMemory stop definition

-- Where it goes on the class has this number, and the stack is as it was. Where the attempt ends, a class that is waited for is one of the isolate.
abbrev pub IsBegun : List ℕ → Numbered → StackParts → StackParts → Once → Type 0
IsBegun class n old new (Goes mirror) = IsClass n mirror × (name_at n mirror ≡ class) × (new ≡ old)
IsBegun class n old new (Ends state) = IsState n state
