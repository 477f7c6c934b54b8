-- The code of a method as its lines build it: its pieces at their places, its labels, the rows of its exception table; and what it comes to
-- at its end (JVM Specification 4.7.3).
use Rattle.std.specs.Prelude.{ℕ, ◌+◌, ℤ, pos, ◌-ℤ◌, List, [], ◌∷◌, ◌++◌, flat_map, map, Bool, true, ◌&&◌, if◌then◌else◌, Option, Some, None, option_map, is_some, unwrap_or, bytes_eq}
use Rattle.std.specs.List.{list_all}
use Rattle.std.specs.Map.{lookup}
use Rattle.mvm_layout.specs.declared.parts.Code.{Code}
use Rattle.mvm_layout.specs.declared.parts.Row.{Row}
use Rattle.mvm_insn.specs.Opcodes.{operands_of}
use Rattle.mvm_statement.specs.Numbers.{magnitude}
use Rattle.mvm_statement.specs.declared.operand.Place.{Place}
use Rattle.mvm_statement.specs.declared.operand.Place.TheVariants.{At, Label}
use Rattle.mvm_statement.specs.declared.instruction.Instruction.TheVariants as insns
use Rattle.mvm_listing.specs.declared.piece.Piece.{Piece}
use Rattle.mvm_listing.specs.declared.piece.Piece.TheVariants.{Own}
use Rattle.mvm_listing.specs.declared.piece.Placed.{Placed}
use Rattle.mvm_listing.specs.declared.piece.Catching.{Catching}
use Rattle.mvm_listing.specs.Range.{is_u2, is_i2, is_i4, jumps_far}
use Rattle.mvm_listing.specs.Encoding.{encoded_piece, length_of, targets_of}

-- the labels of a code, each with its place
abbrev pub Labels : Type 0
Labels = List (List ℕ × ℕ)

pub record Block : Type 0 where
  pub max_stack : ℕ
  pub max_locals : ℕ
  -- how many bytes the pieces have
  pub end : ℕ
  pub labels : Labels
  pub pieces : List Placed
  pub rows : List Catching

abbrev pub empty_block : ℕ → ℕ → Block
empty_block max_stack max_locals = record { max_stack = max_stack; max_locals = max_locals; end = 0; labels = []; pieces = []; rows = [] }

-- a piece behind all others
abbrev pub placed : ℕ → Piece → Block → Block
placed line piece b = record b { end = b.end + length_of b.end piece; pieces = b.pieces ++ record { line = line; at = b.end; piece = piece } ∷ [] }

-- ---- places

-- the place of a label
abbrev pub labelled : Labels → List ℕ → Option ℕ
labelled labels name = lookup (λ label. bytes_eq label name) labels

-- the place that a label or a number stands for, if any
abbrev pub place_of : Labels → Place → Option ℤ
place_of labels (At n) = Some n
place_of labels (Label name) = option_map pos (labelled labels name)

abbrev pub place_in : Labels → Place → ℤ
place_in labels x = unwrap_or (place_of labels x) (pos 0)

abbrev pub is_known : Labels → Place → Bool
is_known labels x = is_some (place_of labels x)

abbrev pub row_places : Catching → List Place
row_places row = row.start ∷ row.end ∷ row.handler ∷ []

-- all places of a code are known
abbrev pub is_closed : Block → Bool
is_closed b = list_all (λ p. list_all (is_known b.labels) (targets_of p.piece)) b.pieces && list_all (λ row. list_all (is_known b.labels) (row_places row)) b.rows

-- ---- offsets and places that fit

-- an offset is of four bytes in goto_w and in a switch, else of two
abbrev pub fits_as : Piece → ℤ → Bool
fits_as (Own (insns.Jump op target)) n = if jumps_far (operands_of op) then is_i4 n else is_i2 n
fits_as _ n = is_i4 n

-- a place that is not known fits: an unknown label is no fault of this line
abbrev pub fits_offset : Piece → ℕ → Option ℤ → Bool
fits_offset piece at (Some n) = fits_as piece (n -ℤ pos at)
fits_offset piece at None = true

abbrev pub fits_place : Option ℤ → Bool
fits_place (Some n) = is_u2 n
fits_place None = true

-- the lines on which an offset or a place does not fit
abbrev pub piece_unfit : Labels → Placed → List ℕ
piece_unfit labels p = if list_all (λ x. fits_offset p.piece p.at (place_of labels x)) (targets_of p.piece) then [] else p.line ∷ []

abbrev pub row_unfit : Labels → Catching → List ℕ
row_unfit labels row = if list_all (λ x. fits_place (place_of labels x)) (row_places row) then [] else row.line ∷ []

unfoldable pub unfit : Block → List ℕ
unfit b = flat_map (piece_unfit b.labels) b.pieces ++ flat_map (row_unfit b.labels) b.rows

-- ---- what a code comes to

abbrev pub row_made : Labels → Catching → Row
row_made labels row = record {
  start = magnitude (place_in labels row.start);
  end = magnitude (place_in labels row.end);
  handler = magnitude (place_in labels row.handler);
  catch_class = row.class;
}

abbrev pub piece_made : Labels → Placed → List ℕ
piece_made labels p = encoded_piece (place_in labels) p.at p.piece

unfoldable pub code_made : Block → Code
code_made b = record {
  max_stack = b.max_stack;
  max_locals = b.max_locals;
  bytes = flat_map (piece_made b.labels) b.pieces;
  rows = map (row_made b.labels) b.rows;
}
