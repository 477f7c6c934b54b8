-- What an instruction does, by its opcode (JVM Specification 6.5): its row of the one table, src/action_rows.rt.
use Rattle.std.specs.Prelude.{ℕ, List, slice_get, Option, Some, None, unwrap_or}
use Rattle.mvm_local.specs.declared.action.Action.{Action}
use Rattle.mvm_local.specs.declared.action.Action.TheVariants.{Absent}
use Rattle.mvm_local.specs.declared.action_rows.TheConstants.{ACTIONS}

-- behind the last row there is no instruction
abbrev pub action_in : List Action → ℕ → Action
action_in rows op = unwrap_or (slice_get rows op) Absent

unfoldable pub action_of : ℕ → Action
action_of op = action_in ACTIONS op

abbrev pub action_by : Option ℕ → Action
action_by (Some op) = action_of op
action_by None = Absent

-- what the instruction at a place of the code does
abbrev pub action_at : ℕ → List ℕ → Action
action_at at code = action_by (slice_get code at)
