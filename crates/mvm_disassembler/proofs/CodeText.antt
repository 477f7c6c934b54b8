-- The text of a code, by its parts.
use Rattle.std.proofs.Common.{◌≡◌, ℕ, Bool, List, [], ◌∷◌, ◌++◌, length, map, refl, sym, ap, ◌∙◌, append-nil}
use Rattle.std.specs.Prelude.{◌==◌, ℤ, pos, negsuc, flat_map}
use Rattle.std.specs.BTreeSet.{BTreeSet}
use Rattle.std.specs.Ordering.{int_eq}
use Rattle.std.proofs.lemmas.Bool.{eqb-true, eq-eqb}
use Rattle.std.proofs.lemmas.Bool.Decides.{Decides-int_eq}
use mathlib.Core.Path.{fun_ext}
use Rattle.mvm_layout.specs.declared.parts.Code.{Code}
use Rattle.mvm_layout.specs.declared.parts.Item.{Item}
use Rattle.mvm_layout.specs.declared.parts.Row.{Row}
use Rattle.mvm_statement.specs.declared.operand.Place.{Place}
use Rattle.mvm_statement.specs.declared.statement.Statement.{Statement}
use Rattle.mvm_statement.specs.declared.statement.Statement.TheVariants as lines
use Rattle.mvm_listing.specs.declared.piece.Piece.{Piece}
use Rattle.mvm_listing.specs.Disassembly.{pieces, standard, all_targets, is_place, is_target_of, shown_at, shown, mark, piece_lines, row_line, code_lines}
use Rattle.mvm_disassembler.specs.Steps.{holds, is_among, shown_by, marked_by, whole_line, lines_text, piece_text, row_text, code_text}
use Rattle.mvm_listing.proofs.Tests.{same_tests}
use Rattle.mvm_disassembler.proofs.Written.{lines_joined}

pos_same : (p n : ℕ) → pos p ≡ pos n → p ≡ n
pos_same p n e = cc

among_pos : (p n : ℕ) → int_eq (pos p) (pos n) ≡ (p == n)
among_pos p n = same_tests _ _ (λ h. eq-eqb p n (pos_same p n ((Decides-int_eq (pos p) (pos n)).0 h))) (λ h. (Decides-int_eq (pos p) (pos n)).1 (ap pos (eqb-true p n h)))

among_places : (ps : List ℕ) (z : ℤ) → is_among (map pos ps) z ≡ is_place ps z
among_places [] (pos n) = refl
among_places [] (negsuc n) = refl
among_places (p ∷ ps) (pos n) = rw (among_pos p n, among_places ps (pos n)) refl
among_places (p ∷ ps) (negsuc n) = among_places ps (negsuc n)

abbrev all_pieces : Code → List (ℕ × Piece)
all_pieces code = pieces standard (length code.bytes) 0 code.bytes

abbrev places_of : Code → List ℕ
places_of code = map (λ p. p.0) (all_pieces code) ++ length code.bytes ∷ []

pieces_text : (pool : List Item) (targets begins : BTreeSet ℤ) (ps : List (ℕ × Piece)) → lines_text pool (flat_map (piece_lines (marked_by targets) (shown_by begins)) ps) ≡ flat_map (piece_text pool targets begins) ps
unfolding piece_text
pieces_text pool targets begins [] = refl
pieces_text pool targets begins (p ∷ ps) =
    let first = piece_lines (marked_by targets) (shown_by begins) p in
    lines_joined pool first (flat_map (piece_lines (marked_by targets) (shown_by begins)) ps) ∙ ap (λ (t : List ℕ). lines_text pool first ++ t) (pieces_text pool targets begins ps)

rows_text : (pool : List Item) (begins : BTreeSet ℤ) (rows : List Row) → lines_text pool (map (row_line (shown_by begins)) rows) ≡ flat_map (row_text pool begins) rows
unfolding row_text
rows_text pool begins [] = refl
rows_text pool begins (row ∷ rows) = ap (λ (t : List ℕ). whole_line pool (row_line (shown_by begins) row) ++ t) (rows_text pool begins rows)

-- part by part
by_parts : (pool : List Item) (targets begins : BTreeSet ℤ) (ps : List (ℕ × Piece)) (code : Code)
    → lines_text pool (lines.Code (pos code.max_stack) (pos code.max_locals) ∷ (flat_map (piece_lines (marked_by targets) (shown_by begins)) ps ++ (mark (marked_by targets) (length code.bytes) ++ (map (row_line (shown_by begins)) code.rows ++ lines.End ∷ []))))
    ≡ code_text pool targets begins ps code
by_parts pool targets begins ps code =
    let head = lines.Code (pos code.max_stack) (pos code.max_locals) in
    let first = flat_map (piece_lines (marked_by targets) (shown_by begins)) ps in
    let last = mark (marked_by targets) (length code.bytes) in
    let rows = map (row_line (shown_by begins)) code.rows in
    let end = lines.End ∷ [] in
    ap (λ (t : List ℕ). whole_line pool head ++ t) (lines_joined pool first (last ++ (rows ++ end)) ∙ ap (λ (t : List ℕ). t ++ lines_text pool (last ++ (rows ++ end))) (pieces_text pool targets begins ps)
    ∙ ap (λ (t : List ℕ). flat_map (piece_text pool targets begins) ps ++ t) (lines_joined pool last (rows ++ end)
    ∙ ap (λ (t : List ℕ). lines_text pool last ++ t) (lines_joined pool rows end ∙ ap (λ (t : List ℕ). t ++ (whole_line pool lines.End ++ [])) (rows_text pool begins code.rows) ∙ ap (λ (t : List ℕ). flat_map (row_text pool begins) code.rows ++ t) (append-nil (whole_line pool lines.End)))))

-- by sets of places
pub code_is : (pool : List Item) (code : Code) (targets begins : BTreeSet ℤ) → ((n : ℤ) → holds targets n ≡ is_among (all_targets (all_pieces code) code.rows) n) → ((n : ℤ) → holds begins n ≡ is_among (map pos (places_of code)) n)
    → lines_text pool (code_lines standard code) ≡ code_text pool targets begins (all_pieces code) code
unfolding code_lines
code_is pool code targets begins t b =
    let marks : is_target_of (all_targets (all_pieces code) code.rows) ≡ marked_by targets = fun_ext (λ at. sym (t (pos at))) in
    let shows : shown (places_of code) ≡ shown_by begins = fun_ext (λ z. ap (λ (c : Bool). shown_at c z) (sym (b z ∙ among_places (places_of code) z))) in
    let lines_by : (ℕ → Bool) → (ℤ → Place) → List Statement = λ is_target show. lines.Code (pos code.max_stack) (pos code.max_locals) ∷ (flat_map (piece_lines is_target show) (all_pieces code) ++ (mark is_target (length code.bytes) ++ (map (row_line show) code.rows ++ lines.End ∷ []))) in
    ap (λ (f : ℕ → Bool). lines_text pool (lines_by f (shown (places_of code)))) marks ∙ ap (λ (f : ℤ → Place). lines_text pool (lines_by (marked_by targets) f)) shows ∙ by_parts pool targets begins (all_pieces code) code
