-- Who initialises a class (JVM Specification 5.5, steps 2 to 6).
use Rattle.std.specs.Prelude.{ℕ, List, ◌==◌, if◌then◌else◌, is_some}
use Rattle.mvm_builtin.specs.Classes.{builtin}
use Rattle.mvm_mirror.specs.declared.state.InitState.{InitState}
use Rattle.mvm_mirror.specs.declared.state.InitState.TheVariants.{NotBegun, InProgress, Initialised, Erroneous}
use Rattle.mvm_mirror.specs.declared.state.Begin.{Begin}
use Rattle.mvm_mirror.specs.declared.state.Begin.TheVariants as begin

-- what a thread does that wants a class in this state initialised
abbrev pub begun : ℕ → InitState → Begin
begun thread NotBegun = begin.Run
begun thread (InProgress other) = if other == thread then begin.Done else begin.Wait
begun thread Initialised = begin.Done
begun thread Erroneous = begin.Erroneous

-- the state of the class from then on
abbrev pub after : ℕ → InitState → InitState
after thread NotBegun = InProgress thread
after thread state = state

-- the state of a class that nobody looked at: a built-in class is ready
unfoldable pub first_state : List ℕ → InitState
first_state name = if is_some (builtin name) then Initialised else NotBegun
