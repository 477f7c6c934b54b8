use Rattle.std.proofs.Common.{◌≡◌, ◌++◌, drop}
use Rattle.std.specs.Prelude.{option_map}
use Rattle.mvm_statement.specs.Lines.{places_in}
use Rattle.mvm_statement.proofs.read_lines.places.Given as goal

-- what is done, and the places of what is left, are the places
abbrev pub invariant-loop-token : goal.invariant-loop-token
invariant-loop-token l = places_in l.operands ≡ option_map (λ places. l.all ++ places) (places_in (drop l.token-index l.operands))
