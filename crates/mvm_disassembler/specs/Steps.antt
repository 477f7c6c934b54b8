-- What private calls promise of the pieces of a code, of sets of places, and of lines that they write.
use Rattle.std.specs.Prelude.{ℕ, ℤ, pos, List, [], ◌∷◌, ◌++◌, length, take, drop, flat_map, map, Bool}
use Rattle.std.specs.BTreeSet as sorted
use Rattle.std.specs.BTreeSet.{BTreeSet}
use Rattle.std.specs.List.{list_any}
use Rattle.std.specs.Ordering.{int_cmp, int_eq}
use Rattle.mvm_layout.specs.declared.parts.Code.{Code}
use Rattle.mvm_layout.specs.declared.parts.Item.{Item}
use Rattle.mvm_layout.specs.declared.parts.Member.{Member}
use Rattle.mvm_layout.specs.declared.parts.Parts.{Parts}
use Rattle.mvm_layout.specs.declared.parts.Row.{Row}
use Rattle.mvm_statement.specs.declared.operand.Place.{Place}
use Rattle.mvm_statement.specs.declared.statement.Statement.{Statement}
use Rattle.mvm_statement.specs.declared.statement.Statement.TheVariants as lines
use Rattle.mvm_listing.specs.declared.piece.Piece.{Piece}
use Rattle.mvm_listing.specs.LaidOut.{plain, longest, line_text}
use Rattle.mvm_listing.specs.Disassembly.{pieces, standard, shown_at, mark, piece_lines, row_line, entries, numbered, class_shown, interface_line, field_line, method_lines}

-- ---- pieces of a code

-- from a place on
abbrev pub pieces_from : List ℕ → ℕ → List (ℕ × Piece)
pieces_from code at = pieces standard (length (drop at code)) at (drop at code)

-- ---- sets of numbers

abbrev pub holds : BTreeSet ℤ → ℤ → Bool
holds set n = sorted.contains int_cmp set n

abbrev pub is_among : List ℤ → ℤ → Bool
is_among numbers n = list_any (λ number. int_eq number n) numbers

-- ---- places of a code

-- a place, where a line begins at each of a set
abbrev pub shown_by : BTreeSet ℤ → ℤ → Place
shown_by set n = shown_at (holds set n) n

abbrev pub marked_by : BTreeSet ℤ → ℕ → Bool
marked_by set at = holds set (pos at)

-- ---- comments

-- so much of a text as a comment shows
unfoldable pub cut : List ℕ → List ℕ
cut units = take longest units

-- a comment of these units
abbrev pub comment : List ℕ → List ℕ
comment [] = []
comment (u ∷ us) = 32 ∷ 59 ∷ 32 ∷ map plain (u ∷ us)

-- ---- lines

-- a line with its end
unfoldable pub whole_line : List Item → Statement → List ℕ
whole_line pool s = line_text pool s ++ 10 ∷ []

abbrev pub lines_text : List Item → List Statement → List ℕ
lines_text pool ss = flat_map (whole_line pool) ss

-- the line of a piece, behind the label of its place
unfoldable pub piece_text : List Item → BTreeSet ℤ → BTreeSet ℤ → ℕ × Piece → List ℕ
piece_text pool targets begins p = lines_text pool (piece_lines (marked_by targets) (shown_by begins) p)

-- the line of a row of the exception table
unfoldable pub row_text : List Item → BTreeSet ℤ → Row → List ℕ
row_text pool begins row = whole_line pool (row_line (shown_by begins) row)

-- a code with these pieces
abbrev pub code_text : List Item → BTreeSet ℤ → BTreeSet ℤ → List (ℕ × Piece) → Code → List ℕ
code_text pool targets begins ps code =
    whole_line pool (lines.Code (pos code.max_stack) (pos code.max_locals)) ++ (flat_map (piece_text pool targets begins) ps
    ++ (lines_text pool (mark (marked_by targets) (length code.bytes)) ++ (flat_map (row_text pool begins) code.rows ++ whole_line pool lines.End)))

-- a field, behind an empty line
unfoldable pub field_text : List Item → Member → List ℕ
field_text pool m = 10 ∷ whole_line pool (field_line m)

-- a method, behind an empty line
unfoldable pub method_text : List Item → Member → List ℕ
method_text pool m = 10 ∷ lines_text pool (method_lines standard m)

-- the line of a superinterface
unfoldable pub interface_text : List Item → ℕ → List ℕ
interface_text pool n = whole_line pool (interface_line n)

-- what stands before the fields
abbrev pub head_text : Parts → List ℕ
head_text parts =
    whole_line parts.pool (lines.Version (pos parts.minor) (pos parts.major)) ++ (lines_text parts.pool (entries 1 parts.pool)
    ++ 10 ∷ (whole_line parts.pool (lines.Class (pos parts.flags) (numbered parts.this_class) (class_shown parts.super_class)) ++ flat_map (interface_text parts.pool) parts.interfaces))
