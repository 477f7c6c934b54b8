-- What private calls say of the lines that have been gone over.
use Rattle.std.specs.Prelude.{ℕ, ◌+◌, List, Option, Some, None, Result}
use Rattle.mvm_statement.specs.declared.fault.AsmKind.{AsmKind}
use Rattle.mvm_statement.specs.declared.statement.Statement.{Statement}
use Rattle.mvm_listing.specs.Assembly.{State, Fault, Ran, run}
use Rattle.mvm_asm.specs.declared.going.Going.{Going}
use Rattle.mvm_asm.specs.Turning.{state_of}

-- what the lines that are left make, where there is no fault yet
abbrev pub gone_on : Option Fault → ℕ → List (Result (Option Statement) AsmKind) → State → Ran
gone_on None count lines s = run (count + 1) lines s
gone_on (Some fault) count lines s = record { state = s; fault = Some fault }

abbrev pub continued : Going → List (Result (Option Statement) AsmKind) → Ran
continued g lines = gone_on g.fault g.count lines (state_of g.growing)

-- where the lines end
abbrev pub ran_of : Going → Ran
ran_of g = record { state = state_of g.growing; fault = g.fault }
