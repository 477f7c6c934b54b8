-- What a call answers that has supers initialised before an attempt goes on (JVM Specification 5.5, step 7).
use Rattle.std.specs.Prelude.{◌≡◌, ℕ, List, Option, Some, None, Result, Ok, Err}
use Rattle.mvm_base.specs.Answers.{◌>>=◌, Fails}
use Rattle.mvm_frame.specs.Parts.{StackParts}
use Rattle.mvm_isolate.specs.Initialise.{begins}
use Rattle.mvm_isolate.specs.Numbered.{Numbered}
use Rattle.mvm_isolate.specs.declared.stop.Stop.{Stop}
use Rattle.mvm_isolate.specs.declared.stop.Stop.TheVariants.{OutOfMemory}
use Rattle.mvm_object.specs.Coming.{point_of}
use Rattle.mvm_object.specs.Entries.{by_begin, may_begin}
use Rattle.mvm_object.specs.Going.{Context, Point, Went}
use Rattle.mvm_object.specs.declared.state.ThreadState.{ThreadState}
use Rattle.mvm_starting.specs.Left.{left_named}

-- one super begins, and then the attempt goes on
abbrev pub super_begun : Context → List ℕ → Point → (Point → Result Went Stop) → Result Went Stop
super_begun c name p go = begins c.look (may_begin c p) c.thread name p.isolate >>= by_begin c name p go

-- The attempt goes on from where it now is, leaves what the definition says, stops for what it says, or memory ran out.
abbrev pub GoesFirst : Result (Option ThreadState) Stop → Result Went Stop → (Point → Result Went Stop) → Numbered → StackParts → Option ℕ → Type 0
GoesFirst (Ok None) definition go n s object = definition ≡ go (point_of n s)
GoesFirst (Ok (Some state)) definition go n s object = definition ≡ Ok (left_named n s object state)
GoesFirst (Err stop) definition go n s object = Fails OutOfMemory stop definition
