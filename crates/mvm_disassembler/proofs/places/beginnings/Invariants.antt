use Rattle.std.proofs.Common.{◌≡◌, ◌++◌, map, drop}
use Rattle.std.specs.Prelude.{ℕ, pos}
use Rattle.mvm_listing.specs.declared.piece.Piece.{Piece}
use Rattle.mvm_disassembler.proofs.places.beginnings.Given as goal

-- with the places that are left they are all
abbrev pub invariant-loop-piece : goal.invariant-loop-piece
invariant-loop-piece l = l.places ++ map pos (map (λ (p : ℕ × Piece). p.0) (drop l.piece-index l.pieces)) ≡ map pos (map (λ (p : ℕ × Piece). p.0) l.pieces)
