-- Waking threads that wait on an object, by their rows.
use Rattle.std.specs.Prelude.{ℕ, List, ◌==◌, if◌then◌else◌, Option, Some, None, slice_set}
use Rattle.mvm_object.specs.declared.state.ThreadState.{ThreadState}
use Rattle.mvm_object.specs.declared.state.ThreadState.TheVariants as state
use Rattle.mvm_interp.specs.declared.row.ThreadRow.{ThreadRow}

-- a thread that waits on an object waits for its monitor from then on
abbrev pub awake_state : ThreadState → ThreadState
awake_state (state.Waiting object times) = state.Entering object times
awake_state state = state

-- the thread of a number is woken
abbrev pub woken_at : ℕ → Option ThreadRow → List ThreadRow → List ThreadRow
woken_at number (Some row) rows = slice_set rows number (record row { state = awake_state row.state })
woken_at number None rows = rows

abbrev pub awake_on_state : ℕ → ThreadState → ThreadState
awake_on_state object (state.Waiting other times) = if other == object then state.Entering other times else state.Waiting other times
awake_on_state object state = state

-- and so is this one, if it waits on the object
abbrev pub awake_row : ℕ → ThreadRow → ThreadRow
awake_row object row = record row { state = awake_on_state object row.state }
