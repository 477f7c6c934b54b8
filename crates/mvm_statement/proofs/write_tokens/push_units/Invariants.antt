use Rattle.std.proofs.Common.{◌≡◌, ◌++◌, take}
use Rattle.std.specs.List.{flat_map}
use Rattle.mvm_statement.specs.Tokens.{spelled_unit}
use Rattle.mvm_statement.proofs.write_tokens.push_units.Given as goal

-- the units so far are written
abbrev pub invariant-loop-unit : goal.invariant-loop-unit
invariant-loop-unit l = l.out ≡ l.initial.out ++ flat_map spelled_unit (take l.unit-index l.units)
