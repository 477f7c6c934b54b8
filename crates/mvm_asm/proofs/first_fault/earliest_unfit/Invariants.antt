use Rattle.std.proofs.Common.{◌≡◌, ℕ, map, drop}
use Rattle.mvm_statement.specs.declared.fault.AsmKind.TheVariants.{Range}
use Rattle.mvm_listing.specs.Assembly.{Fault, earliest}
use Rattle.mvm_asm.proofs.first_fault.earliest_unfit.Given as goal

abbrev range_at : ℕ → Fault
range_at line = (line, Range)

-- with the lines that are left it is the first of all
abbrev pub invariant-loop-line : goal.invariant-loop-line
invariant-loop-line l = earliest l.least (map range_at (drop l.line-index l.lines)) ≡ earliest l.fn.first (map range_at l.lines)
