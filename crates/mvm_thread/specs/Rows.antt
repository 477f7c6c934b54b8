-- What an instruction that reaches beyond its frame does, by its opcode (JVM Specification 6.5): its row of the one table, src/action_rows.rt.
use Rattle.std.specs.Prelude.{ℕ, List, slice_get, unwrap_or}
use Rattle.mvm_thread.specs.declared.action.Action.{Action}
use Rattle.mvm_thread.specs.declared.action.Action.TheVariants.{Absent}
use Rattle.mvm_thread.specs.declared.action_rows.TheConstants.{ACTIONS}

abbrev pub action_in : List Action → ℕ → Action
action_in rows op = unwrap_or (slice_get rows op) Absent

unfoldable pub action_of : ℕ → Action
action_of op = action_in ACTIONS op
