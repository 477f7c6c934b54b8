use Rattle.std.proofs.Common.{◌≡◌, ◌++◌, drop}
use Rattle.std.specs.List.{flat_map}
use Rattle.mvm_statement.specs.Tokens.{behind_blank}
use Rattle.mvm_statement.specs.Lines.{spelled_places}
use Rattle.mvm_statement.proofs.write_operands.write_places.Given as goal

-- what is written, with the places that are left, is all of them
abbrev pub invariant-loop-place : goal.invariant-loop-place
invariant-loop-place l = l.out ++ flat_map behind_blank (spelled_places (drop l.place-index l.places)) ≡ l.initial.out ++ flat_map behind_blank (spelled_places l.places)
