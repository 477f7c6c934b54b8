use Rattle.std.proofs.Common.{◌≡◌, ◌++◌, take}
use Rattle.std.specs.List.{flat_map}
use Rattle.mvm_listing.specs.Blocks.{piece_unfit}
use Rattle.mvm_block.proofs.made.push_unfit_pieces.Given as goal

abbrev pub invariant-loop-placed : goal.invariant-loop-placed
invariant-loop-placed l = l.out ≡ l.initial.out ++ flat_map (piece_unfit l.labels) (take l.placed-index l.pieces)
