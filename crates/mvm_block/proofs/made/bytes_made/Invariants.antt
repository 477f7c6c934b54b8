use Rattle.std.proofs.Common.{◌≡◌, take}
use Rattle.std.specs.List.{flat_map}
use Rattle.mvm_listing.specs.Blocks.{piece_made}
use Rattle.mvm_block.proofs.made.bytes_made.Given as goal

abbrev pub invariant-loop-placed : goal.invariant-loop-placed
invariant-loop-placed l = l.bytes.items ≡ flat_map (piece_made l.labels) (take l.placed-index l.pieces)
