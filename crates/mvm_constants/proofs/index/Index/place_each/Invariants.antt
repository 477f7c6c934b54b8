use Rattle.std.proofs.Common.{take}
use Rattle.mvm_constants.specs.Settling.{PlacesEach}
use Rattle.mvm_constants.proofs.index.Index.place_each.Given as goal

abbrev pub invariant-loop-at : goal.invariant-loop-at
invariant-loop-at l = PlacesEach l.pool (take l.at-index l.entries) l.initial.self l.self
