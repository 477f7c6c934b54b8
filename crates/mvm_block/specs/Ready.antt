-- What has bytes: pieces whose numbers fit, and whose targets are known and near enough.
use Rattle.std.specs.Prelude.{ℕ, ℤ, pos, ◌-ℤ◌, Bool, true, ◌&&◌}
use Rattle.std.specs.List.{list_all}
use Rattle.mvm_statement.specs.declared.operand.Place.{Place}
use Rattle.mvm_listing.specs.declared.piece.Piece.{Piece}
use Rattle.mvm_listing.specs.declared.piece.Piece.TheVariants.{Own, OneByte}
use Rattle.mvm_listing.specs.declared.piece.Placed.{Placed}
use Rattle.mvm_listing.specs.declared.piece.Catching.{Catching}
use Rattle.mvm_listing.specs.Range.{is_u2, fits_instruction}
use Rattle.mvm_listing.specs.Encoding.{targets_of}
use Rattle.mvm_listing.specs.Blocks.{Labels, place_in, row_places, fits_as}

-- the numbers of a piece fit their fields; of its places it is not asked
abbrev pub fits_piece : Piece → Bool
fits_piece (Own line) = fits_instruction line
fits_piece (OneByte n) = true

-- how far it is from a place to a target
abbrev pub offset_to : Labels → ℕ → Place → ℤ
offset_to labels at target = place_in labels target -ℤ pos at

abbrev pub is_ready : Labels → Placed → Bool
is_ready labels p = fits_piece p.piece && list_all (λ x. fits_as p.piece (offset_to labels p.at x)) (targets_of p.piece)

abbrev pub is_row_ready : Labels → Catching → Bool
is_row_ready labels row = list_all (λ x. is_u2 (place_in labels x)) (row_places row)
