use Rattle.std.proofs.Common.{◌≡◌, ◌++◌, map, drop}
use Rattle.std.specs.Prelude.{ℕ, flat_map}
use Rattle.mvm_listing.specs.declared.piece.Piece.{Piece}
use Rattle.mvm_listing.specs.Encoding.{targets_of}
use Rattle.mvm_listing.specs.Disassembly.{own_place}
use Rattle.mvm_disassembler.proofs.places.push_all_targets.Given as goal

-- with the places that are left they are all
abbrev pub invariant-loop-piece : goal.invariant-loop-piece
invariant-loop-piece l = l.out ++ flat_map (λ (p : ℕ × Piece). map own_place (targets_of p.1)) (drop l.piece-index l.pieces) ≡ l.initial.out ++ flat_map (λ (p : ℕ × Piece). map own_place (targets_of p.1)) l.pieces
