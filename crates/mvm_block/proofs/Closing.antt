-- Where all places of a code are known and fit, each of its pieces and rows has bytes.
use Rattle.std.proofs.Common.{◌≡◌, ℕ, Bool, true, false, cond, List, [], ◌∷◌, ◌++◌, Option, Some, None, refl, sym, ap, subst, ◌∙◌}
use Rattle.std.specs.Prelude.{ℤ, pos, ◌-ℤ◌, is_some, unwrap_or}
use Rattle.std.specs.List.{list_all, flat_map}
use Rattle.mvm_statement.specs.declared.operand.Place.{Place}
use Rattle.mvm_listing.specs.declared.piece.Piece.{Piece}
use Rattle.mvm_listing.specs.declared.piece.Placed.{Placed}
use Rattle.mvm_listing.specs.declared.piece.Catching.{Catching}
use Rattle.mvm_listing.specs.Range.{is_u2}
use Rattle.mvm_listing.specs.Encoding.{targets_of}
use Rattle.mvm_listing.specs.Blocks.{Labels, Block, place_of, place_in, is_known, row_places, is_closed, fits_as, fits_offset, fits_place, piece_unfit, row_unfit, unfit}
use Rattle.mvm_block.specs.Ready.{fits_piece, offset_to, is_ready, is_row_ready}
use Rattle.mvm_block.proofs.Tests.{parts, and_again}

none_before : {A : Type 0} (xs ys : List A) → xs ++ ys ≡ [] → (xs ≡ []) × (ys ≡ [])
none_before [] ys e = (refl, e)
none_before (x ∷ xs) ys e = absurd cc

-- a line is told only where the test fails
passed : (b : Bool) (line : ℕ) → cond b [] (line ∷ []) ≡ [] → b ≡ true
passed true line e = refl
passed false line e = absurd cc

near : (piece : Piece) (at : ℕ) (place : Option ℤ) → is_some place ≡ true → fits_offset piece at place ≡ true → fits_as piece (unwrap_or place (pos 0) -ℤ pos at) ≡ true
near piece at (Some n) k h = h
near piece at None k h = absurd cc

all_near : (labels : Labels) (piece : Piece) (at : ℕ) (xs : List Place) → list_all (is_known labels) xs ≡ true → list_all (λ (x : Place). fits_offset piece at (place_of labels x)) xs ≡ true
    → list_all (λ (x : Place). fits_as piece (offset_to labels at x)) xs ≡ true
all_near labels piece at [] k h = refl
all_near labels piece at (x ∷ xs) k h =
    let known = parts (is_known labels x) _ k in
    let fit = parts (fits_offset piece at (place_of labels x)) _ h in
    and_again _ _ (near piece at (place_of labels x) known.0 fit.0) (all_near labels piece at xs known.1 fit.1)

ready : (labels : Labels) (pieces : List Placed) → list_all (λ (p : Placed). fits_piece p.piece) pieces ≡ true
    → list_all (λ (p : Placed). list_all (is_known labels) (targets_of p.piece)) pieces ≡ true → flat_map (piece_unfit labels) pieces ≡ [] → list_all (is_ready labels) pieces ≡ true
ready labels [] f k u = refl
ready labels (p ∷ ps) f k u =
    let fit = parts (fits_piece p.piece) _ f in
    let known = parts (list_all (is_known labels) (targets_of p.piece)) _ k in
    let none = none_before (piece_unfit labels p) (flat_map (piece_unfit labels) ps) u in
    and_again _ _ (and_again _ _ fit.0 (all_near labels p.piece p.at (targets_of p.piece) known.0 (passed _ p.line none.0))) (ready labels ps fit.1 known.1 none.1)

fits_known : (place : Option ℤ) → is_some place ≡ true → fits_place place ≡ true → is_u2 (unwrap_or place (pos 0)) ≡ true
fits_known (Some n) k h = h
fits_known None k h = absurd cc

all_fit : (labels : Labels) (xs : List Place) → list_all (is_known labels) xs ≡ true → list_all (λ (x : Place). fits_place (place_of labels x)) xs ≡ true
    → list_all (λ (x : Place). is_u2 (place_in labels x)) xs ≡ true
all_fit labels [] k h = refl
all_fit labels (x ∷ xs) k h =
    let known = parts (is_known labels x) _ k in
    let fit = parts (fits_place (place_of labels x)) _ h in
    and_again _ _ (fits_known (place_of labels x) known.0 fit.0) (all_fit labels xs known.1 fit.1)

rows_ready : (labels : Labels) (rows : List Catching) → list_all (λ (row : Catching). list_all (is_known labels) (row_places row)) rows ≡ true → flat_map (row_unfit labels) rows ≡ []
    → list_all (is_row_ready labels) rows ≡ true
rows_ready labels [] k u = refl
rows_ready labels (row ∷ rows) k u =
    let known = parts (list_all (is_known labels) (row_places row)) _ k in
    let none = none_before (row_unfit labels row) (flat_map (row_unfit labels) rows) u in
    and_again _ _ (all_fit labels (row_places row) known.0 (passed _ row.line none.0)) (rows_ready labels rows known.1 none.1)

-- of a whole code
pub pieces_ready : (b now : Block) (pieces : List Placed) → b ≡ now → pieces ≡ b.pieces → list_all (λ (p : Placed). fits_piece p.piece) b.pieces ≡ true → is_closed now ≡ true → unfit now ≡ []
    → list_all (is_ready b.labels) pieces ≡ true
unfolding unfit
pieces_ready b now pieces e p f k u =
    let closed : is_closed b ≡ true = ap is_closed e ∙ k in
    let none : unfit b ≡ [] = ap unfit e ∙ u in
    subst (λ (ps : List Placed). list_all (is_ready b.labels) ps ≡ true) (sym p) (ready b.labels b.pieces f (parts _ _ closed).0 (none_before _ _ none).0)

pub table_ready : (b now : Block) (rows : List Catching) → b ≡ now → rows ≡ b.rows → is_closed now ≡ true → unfit now ≡ [] → list_all (is_row_ready b.labels) rows ≡ true
unfolding unfit
table_ready b now rows e p k u =
    let closed : is_closed b ≡ true = ap is_closed e ∙ k in
    let none : unfit b ≡ [] = ap unfit e ∙ u in
    subst (λ (rs : List Catching). list_all (is_row_ready b.labels) rs ≡ true) (sym p) (rows_ready b.labels b.rows (parts _ _ closed).1 (none_before _ _ none).1)
