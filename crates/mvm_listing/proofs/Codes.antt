-- The lines of a method's code make it.
use Rattle.std.proofs.Common.{◌≡◌, ℕ, ◌+◌, ◌<◌, ◌≤◌, ◌^◌, Bool, true, false, List, [], ◌∷◌, ◌++◌, length, map, Option, Some, None, Ok, refl, sym, ap, subst, ◌∙◌, arith, length-append}
use Rattle.std.specs.Prelude.{All, ◌||◌, ◌==◌, nat_lt, ℤ, pos, negsuc, flat_map, codes, option_map, is_some, ◌+ℤ◌, ◌-ℤ◌, unwrap_or}
use Rattle.std.specs.Ordering.{int_eq}
use Rattle.std.specs.List.{list_all, list_any}
use Rattle.std.proofs.lemmas.Bool.{ltb-true, lt-ltb, eqb-true}
use Rattle.std.proofs.lemmas.Cmp.{int_eq_equiv}
use Rattle.std.proofs.lemmas.List.{length-map}
use Rattle.std.proofs.lemmas.List.Elements.{All-head, All-tail}
use Rattle.mvm_layout.specs.declared.parts.Code.{Code}
use Rattle.mvm_layout.specs.declared.parts.Row.{Row}
use Rattle.mvm_classfile.specs.Kept.{IsU1, IsU2, RowFits, CodeFits}
use Rattle.mvm_statement.specs.declared.operand.Place.{Place}
use Rattle.mvm_statement.specs.declared.operand.Place.TheVariants.{At, Label}
use Rattle.mvm_statement.specs.declared.operand.KeyRow.{KeyRow}
use Rattle.mvm_statement.specs.declared.instruction.Instruction.{Instruction as Line}
use Rattle.mvm_statement.specs.declared.instruction.Instruction.TheVariants.{Plain, Push, Load, LoadLong, OfClass, OfMember, Local, Increment, Jump, Table, Lookup, Invocation, Items, Dimensions}
use Rattle.mvm_statement.specs.declared.statement.Statement.TheVariants as lines
use Rattle.mvm_listing.specs.declared.phase.Phase.TheVariants as phases
use Rattle.mvm_listing.specs.declared.piece.Piece.{Piece}
use Rattle.mvm_listing.specs.declared.piece.Piece.TheVariants.{Own, OneByte}
use Rattle.mvm_listing.specs.declared.piece.Placed.{Placed}
use Rattle.mvm_listing.specs.declared.piece.Catching.{Catching}
use Rattle.mvm_listing.specs.Range.{highest, is_u2}
use Rattle.mvm_listing.specs.Constants.{index_where, is_utf8_of}
use Rattle.mvm_listing.specs.Encoding.{i4, encoded, encoded_piece, targets_of}
use Rattle.mvm_listing.specs.Blocks.{Labels, Block, empty_block, place_of, place_in, is_known, row_places, is_closed, fits_as, fits_offset, piece_unfit, row_unfit, unfit, row_made, piece_made, code_made}
use Rattle.mvm_listing.specs.Assembly.{State, turn, act, with_code}
use Rattle.mvm_listing.specs.Disassembly.{own_place, is_within, shown_at, shown, with_label, with_row, mark, piece_lines, row_line, row_targets, all_targets, is_target_of, pieces, code_lines, Decoder}
use Rattle.mvm_listing.proofs.Runs.{through}
use Rattle.mvm_listing.proofs.Tests.{parts, and_again}
use Rattle.mvm_listing.proofs.Numbers.{u2_fits}
use Rattle.mvm_listing.proofs.Cuts.{Sound, made, Cuts, are_bytes, pieces_cut}
use Rattle.mvm_listing.proofs.Labels.{row_of, below, below_more, below_marks, found_some, marks, marked, marks_kept, has}
use Rattle.mvm_listing.proofs.Through.{joined, coded, mark_through, made_some, shown_piece, with_lines, labels_after, laid, pieces_through, caught, catching, rows_through}

-- ---- facts of each item

abbrev Each : {A : Type 0} → (A → Type 0) → List A → Type 0
Each P [] = Unit {0}
Each P (x ∷ xs) = P x × Each P xs

each_parts : {A : Type 0} (P : A → Type 0) (xs ys : List A) → Each P (xs ++ ys) → Each P xs × Each P ys
each_parts P [] ys h = (tt, h)
each_parts P (x ∷ xs) ys h = let a = each_parts P xs ys h.1 in ((h.0, a.0), a.1)

self : (t : ℤ) → int_eq t t ≡ true
self t = int_eq_equiv.refl t

each_target : (P : ℤ → Type 0) (ts : List ℤ) → ((t : ℤ) → list_any (λ u. int_eq u t) ts ≡ true → P t) → Each P ts
each_target P [] h = tt
each_target P (t ∷ ts) h = (h t (first t ts), each_target P ts (λ u k. h u (later t u ts k)))
  where
    first : (t : ℤ) (ts : List ℤ) → list_any (λ u. int_eq u t) (t ∷ ts) ≡ true
    first t ts = rw (self t) refl

    later : (t u : ℤ) (ts : List ℤ) → list_any (λ v. int_eq v u) ts ≡ true → list_any (λ v. int_eq v u) (t ∷ ts) ≡ true
    later t u ts k = by (int_eq t u)
      where
        by : (b : Bool) → b || list_any (λ v. int_eq v u) ts ≡ true
        by true = refl
        by false = k

-- ---- the places of pieces and of labels

places_below : (at : ℕ) (bytes : List ℕ) (ps : List (ℕ × Piece)) (end m : ℕ) → Cuts at bytes ps → at + length bytes ≡ end → end < m → below m (map (λ p. p.0) ps ++ end ∷ []) ≡ true
places_below at bytes [] end m cut e l = rw (lt-ltb end m l) refl
places_below at bytes (p ∷ ps) end m cut e l =
    let n : length bytes ≡ length (made at p.1) + length cut.0 = ap (λ (xs : List ℕ). length xs) cut.3 ∙ length-append (made at p.1) cut.0 in
    and_again _ _ (lt-ltb p.0 m (omega (arith, cut.1))) (places_below (at + length (made at p.1)) cut.0 ps end m cut.4 (omega arith) l)

labels_below : (f : ℕ → Bool) (at : ℕ) (bytes : List ℕ) (ps : List (ℕ × Piece)) (qs : List ℕ) (m : ℕ) → Cuts at bytes ps → at + length bytes ≤ m → below at qs ≡ true → below m (labels_after f ps qs) ≡ true
labels_below f at bytes [] qs m cut l h = below_more at m qs (omega arith) h
labels_below f at bytes (p ∷ ps) qs m cut l h =
    let n : length bytes ≡ length (made at p.1) + length cut.0 = ap (λ (xs : List ℕ). length xs) cut.3 ∙ length-append (made at p.1) cut.0 in
    let some = made_some at p.1 in
    let next = at + length (made at p.1) in
    labels_below f next cut.0 ps (marks f p.0 qs) m cut.4 (omega arith) (below_marks f next p.0 qs (omega (arith, cut.1)) (below_more at next qs (omega arith) h))

has_below : (n m : ℕ) (qs : List ℕ) → below m qs ≡ true → has n qs ≡ true → n < m
has_below n m [] b h = absurd cc
has_below n m (q ∷ qs) b h = let a = parts (nat_lt q m) _ b in by (ltb-true q m a.0) (has_below n m qs a.1) (q == n) refl h
  where
    by : q < m → (has n qs ≡ true → n < m) → (t : Bool) → (q == n) ≡ t → t || has n qs ≡ true → n < m
    by l later true e k = let s = eqb-true q n e in omega arith
    by l later false e k = later k

after_kept : (f : ℕ → Bool) (n : ℕ) (ps : List (ℕ × Piece)) (qs : List ℕ) → has n qs ≡ true → has n (labels_after f ps qs) ≡ true
after_kept f n [] qs h = h
after_kept f n (p ∷ ps) qs h = after_kept f n ps (marks f p.0 qs) (marks_kept f n p.0 qs h)

has_label : (f : ℕ → Bool) (n end : ℕ) (ps : List (ℕ × Piece)) (qs : List ℕ) → f n ≡ true → has n (map (λ p. p.0) ps ++ end ∷ []) ≡ true → has n (marks f end (labels_after f ps qs)) ≡ true
has_label f n end [] qs t h = by (end == n) refl h
  where
    by : (b : Bool) → (end == n) ≡ b → b || false ≡ true → has n (marks f end qs) ≡ true
    by true e k = subst (λ (m : ℕ). has n (marks f m qs) ≡ true) (sym (eqb-true end n e)) (marked f n qs t)
    by false e k = absurd cc
has_label f n end (p ∷ ps) qs t h = by (has_label f n end ps (marks f p.0 qs) t) (p.0 == n) refl h
  where
    by : (has n (map (λ p. p.0) ps ++ end ∷ []) ≡ true → has n (marks f end (labels_after f ps (marks f p.0 qs))) ≡ true) → (b : Bool) → (p.0 == n) ≡ b → b || has n (map (λ p. p.0) ps ++ end ∷ []) ≡ true → has n (marks f end (labels_after f ps (marks f p.0 qs))) ≡ true
    by later true e k = marks_kept f n end _ (after_kept f n ps (marks f p.0 qs) (subst (λ (m : ℕ). has n (marks f m qs) ≡ true) (sym (eqb-true p.0 n e)) (marked f n qs t)))
    by later false e k = later k

-- a place that is shown stands for itself
abbrev Stands : Labels → (ℤ → Place) → ℤ → Type 0
Stands labels show t = place_of labels (show t) ≡ Some t

stands : (places qs : List ℕ) (f : ℕ → Bool) (t : ℤ) → below (2 ^ 64) qs ≡ true → below (2 ^ 64) places ≡ true
    → ((n : ℕ) → t ≡ pos n → has n places ≡ true → has n qs ≡ true) → Stands (map row_of qs) (shown places) t
stands places qs f (negsuc n) h l k = refl
stands places qs f (pos n) h l k = by (has n places) refl
  where
    by : (b : Bool) → has n places ≡ b → place_of (map row_of qs) (shown_at b (pos n)) ≡ Some (pos n)
    by false e = refl
    by true e = ap (option_map pos) (found_some qs n h (has_below n (2 ^ 64) places l e) (k n refl e))

-- ---- what the pieces and rows of a block come to

record Done (labels : Labels) (ps : List Placed) (bytes : List ℕ) : Type 0 where
  closed : list_all (λ p. list_all (is_known labels) (targets_of p.piece)) ps ≡ true
  fitting : flat_map (piece_unfit labels) ps ≡ []
  bytes_are : flat_map (piece_made labels) ps ≡ bytes

record OneDone (labels : Labels) (line at : ℕ) (shown made : Piece) : Type 0 where
  closed : list_all (is_known labels) (targets_of shown) ≡ true
  fitting : piece_unfit labels (record { line = line; at = at; piece = shown }) ≡ []
  bytes_are : encoded_piece (place_in labels) at shown ≡ encoded_piece own_place at made

-- places of a switch, as they are shown
record Shown (labels : Labels) (show : ℤ → Place) (at : ℕ) (piece : Piece) (ts : List Place) : Type 0 where
  closed : list_all (is_known labels) (map (with_label show) ts) ≡ true
  fitting : list_all (λ x. fits_offset piece at (place_of labels x)) (map (with_label show) ts) ≡ true
  words : flat_map (λ t. i4 (place_in labels t -ℤ pos at)) (map (with_label show) ts) ≡ flat_map (λ t. i4 (own_place t -ℤ pos at)) ts

targets_shown : (labels : Labels) (show : ℤ → Place) (at : ℕ) (line : Line) (other : Piece) (ts : List Place) → ((n : ℤ) → fits_as (Own line) n ≡ fits_as other n)
    → list_all (is_within line at) ts ≡ true → Each (Stands labels show) (map own_place ts) → Shown labels show at other ts
targets_shown labels show at line other [] same h e = record { closed = refl; fitting = refl; words = refl }
targets_shown labels show at line other (Label name ∷ ts) same h e = absurd (false_true h)
  where
    false_true : false ≡ true → ⊥
    false_true k = cc
targets_shown labels show at line other (At z ∷ ts) same h e =
    let s : place_of labels (show z) ≡ Some z = e.0 in
    let a = parts (fits_as (Own line) (z -ℤ pos at)) _ h in
    let o : fits_as other (z -ℤ pos at) ≡ true = sym (same (z -ℤ pos at)) ∙ a.0 in
    let more = targets_shown labels show at line other ts same a.1 e.1 in
    record {
      closed = rw s more.closed;
      fitting = rw (s, o) more.fitting;
      words = rw s (ap (λ (xs : List ℕ). i4 (z -ℤ pos at) ++ xs) more.words);
    }

-- rows with keys, as they are shown
rows_targets : (show : ℤ → Place) (rs : List KeyRow) → map (λ r. r.target) (map (with_row show) rs) ≡ map (with_label show) (map (λ r. r.target) rs)
rows_targets show [] = refl
rows_targets show (r ∷ rs) = ap (λ (ts : List Place). with_label show r.target ∷ ts) (rows_targets show rs)

rows_words : (labels : Labels) (show : ℤ → Place) (line : Line) (at : ℕ) (rs : List KeyRow) → list_all (is_within line at) (map (λ r. r.target) rs) ≡ true → Each (Stands labels show) (map own_place (map (λ r. r.target) rs))
    → flat_map (λ r. i4 r.key ++ i4 (place_in labels r.target -ℤ pos at)) (map (with_row show) rs) ≡ flat_map (λ r. i4 r.key ++ i4 (own_place r.target -ℤ pos at)) rs
rows_words labels show line at [] h e = refl
rows_words labels show line at (r ∷ rs) h e =
    let a = parts (is_within line at r.target) _ h in
    let one : place_in labels (show (own_place r.target)) ≡ own_place r.target = ap (λ (o : Option ℤ). unwrap_or o (pos 0)) e.0 in
    rw one (ap (λ (xs : List ℕ). (i4 r.key ++ i4 (own_place r.target -ℤ pos at)) ++ xs) (rows_words labels show line at rs a.1 e.1))

one_done : (labels : Labels) (show : ℤ → Place) (line at : ℕ) (p : Piece) → Sound at p → Each (Stands labels show) (map own_place (targets_of p)) → OneDone labels line at (shown_piece show p) p
unfolding encoded
one_done labels show line at (OneByte n) h e = record { closed = refl; fitting = refl; bytes_are = refl }
one_done labels show line at (Own (Plain op)) h e = record { closed = refl; fitting = refl; bytes_are = refl }
one_done labels show line at (Own (Push op n)) h e = record { closed = refl; fitting = refl; bytes_are = refl }
one_done labels show line at (Own (Load op x)) h e = record { closed = refl; fitting = refl; bytes_are = refl }
one_done labels show line at (Own (LoadLong op x)) h e = record { closed = refl; fitting = refl; bytes_are = refl }
one_done labels show line at (Own (OfClass op x)) h e = record { closed = refl; fitting = refl; bytes_are = refl }
one_done labels show line at (Own (OfMember op x)) h e = record { closed = refl; fitting = refl; bytes_are = refl }
one_done labels show line at (Own (Local op n wide)) h e = record { closed = refl; fitting = refl; bytes_are = refl }
one_done labels show line at (Own (Increment op n by wide)) h e = record { closed = refl; fitting = refl; bytes_are = refl }
one_done labels show line at (Own (Invocation op member count)) h e = record { closed = refl; fitting = refl; bytes_are = refl }
one_done labels show line at (Own (Items op kind)) h e = record { closed = refl; fitting = refl; bytes_are = refl }
one_done labels show line at (Own (Dimensions op class count)) h e = record { closed = refl; fitting = refl; bytes_are = refl }
one_done labels show line at (Own (Table op low targets otherwise)) h e =
    let own = Table op low targets otherwise in
    let other = Own (Table op low (map (with_label show) targets) (with_label show otherwise)) in
    let all = targets_shown labels show at own other (otherwise ∷ targets) (λ n. refl) h.targets e in
    let rest = targets_shown labels show at own other targets (λ n. refl) (parts (is_within own at otherwise) _ h.targets).1 e.1 in
    let highest_same : highest low (map (with_label show) targets) ≡ highest low targets = ap (λ (n : ℕ). (low +ℤ pos n) -ℤ pos 1) (length-map targets (with_label show)) in
    let last : place_in labels (show (own_place otherwise)) ≡ own_place otherwise = ap (λ (o : Option ℤ). unwrap_or o (pos 0)) e.0 in
    record { closed = all.closed; fitting = rw all.fitting refl; bytes_are = rw (highest_same, last, rest.words) refl }
one_done labels show line at (Own (Lookup op rows otherwise)) h e =
    let own = Lookup op rows otherwise in
    let ts = map (λ (r : KeyRow). r.target) rows in
    let other = Own (Lookup op (map (with_row show) rows) (with_label show otherwise)) in
    let all = targets_shown labels show at own other (otherwise ∷ ts) (λ n. refl) h.targets e in
    let same = rows_targets show rows in
    let words = rows_words labels show own at rows (parts (is_within own at otherwise) _ h.targets).1 e.1 in
    let last : place_in labels (show (own_place otherwise)) ≡ own_place otherwise = ap (λ (o : Option ℤ). unwrap_or o (pos 0)) e.0 in
    record { closed = rw same all.closed; fitting = rw (same, all.fitting) refl; bytes_are = rw (length-map rows (with_row show), last, words) refl }
one_done labels show line at (Own (Jump op (Label name))) h e = absurd (false_true h.targets)
  where
    false_true : false ≡ true → ⊥
    false_true k = cc
one_done labels show line at (Own (Jump op (At z))) h e =
    let s : place_of labels (show z) ≡ Some z = e.0 in
    let o : fits_offset (Own (Jump op (At z))) at (Some z) ≡ true = (parts (fits_offset (Own (Jump op (At z))) at (Some z)) true h.targets).0 in
    let p : fits_as (Own (Jump op (show z))) (z -ℤ pos at) ≡ true = o in
    record { closed = rw s refl; fitting = rw (s, p) refl; bytes_are = rw s refl }

pieces_done : (labels : Labels) (f : ℕ → Bool) (show : ℤ → Place) (line at : ℕ) (bytes : List ℕ) (ps : List (ℕ × Piece)) → Cuts at bytes ps
    → Each (Stands labels show) (flat_map (λ p. map own_place (targets_of p.1)) ps) → Done labels (with_lines f show line ps) bytes
pieces_done labels f show line at bytes [] cut e = record { closed = refl; fitting = refl; bytes_are = sym cut }
pieces_done labels f show line at bytes (p ∷ ps) cut e =
    let a = each_parts (Stands labels show) (map own_place (targets_of p.1)) _ e in
    let first = line + length (mark f p.0) in
    let one = one_done labels show first at p.1 cut.2 a.0 in
    let rest = with_lines f show (line + length (piece_lines f show p)) ps in
    let more = pieces_done labels f show (line + length (piece_lines f show p)) (at + length (made at p.1)) cut.0 ps cut.4 a.1 in
    let here : Done labels (record { line = first; at = at; piece = shown_piece show p.1 } ∷ rest) bytes = record {
      closed = and_again _ _ one.closed more.closed;
      fitting = ap (λ (xs : List ℕ). xs ++ flat_map (piece_unfit labels) rest) one.fitting ∙ more.fitting;
      bytes_are = ap (λ (xs : List ℕ). xs ++ flat_map (piece_made labels) rest) one.bytes_are ∙ ap (λ (xs : List ℕ). made at p.1 ++ xs) more.bytes_are ∙ sym cut.3;
    } in
    subst (λ (k : ℕ). Done labels (record { line = first; at = k; piece = shown_piece show p.1 } ∷ rest) bytes) (sym cut.1) here

record RowsDone (labels : Labels) (cs : List Catching) (rs : List Row) : Type 0 where
  closed : list_all (λ r. list_all (is_known labels) (row_places r)) cs ≡ true
  fitting : flat_map (row_unfit labels) cs ≡ []
  rows_are : map (row_made labels) cs ≡ rs

rows_done : (labels : Labels) (show : ℤ → Place) (line : ℕ) (rs : List Row) → All RowFits rs → Each (Stands labels show) (flat_map row_targets rs) → RowsDone labels (caught show line rs) rs
rows_done labels show line [] h e = record { closed = refl; fitting = refl; rows_are = refl }
rows_done labels show line (r ∷ rs) h e =
    let a = All-head RowFits r rs h in
    let one : place_of labels (show (pos r.start)) ≡ Some (pos r.start) = e.0 in
    let two : place_of labels (show (pos r.end)) ≡ Some (pos r.end) = e.1.0 in
    let three : place_of labels (show (pos r.handler)) ≡ Some (pos r.handler) = e.1.1.0 in
    let u : is_u2 (pos r.start) ≡ true = u2_fits r.start a.start in
    let v : is_u2 (pos r.end) ≡ true = u2_fits r.end a.end in
    let w : is_u2 (pos r.handler) ≡ true = u2_fits r.handler a.handler in
    let more = rows_done labels show (line + 1) rs (All-tail RowFits r rs h) e.1.1.1 in
    record {
      closed = rw (one, two, three) more.closed;
      fitting = rw (one, two, three, u, v, w) more.fitting;
      rows_are = rw (one, two, three) (ap (λ (xs : List Row). r ∷ xs) more.rows_are);
    }

-- ---- the whole code

code_turn : (line max_stack max_locals : ℕ) (s : State) → IsU2 max_stack → IsU2 max_locals → is_some (index_where (is_utf8_of (codes "Code")) 1 s.parts.pool) ≡ true
    → turn line (lines.Code (pos max_stack) (pos max_locals)) (record s { phase = phases.Method }) ≡ Ok (coded s (empty_block max_stack max_locals) [])
unfolding turn act
code_turn line max_stack max_locals s a b h = by (index_where (is_utf8_of (codes "Code")) 1 s.parts.pool) refl h
  where
    by : (o : Option ℕ) → index_where (is_utf8_of (codes "Code")) 1 s.parts.pool ≡ o → is_some o ≡ true → turn line (lines.Code (pos max_stack) (pos max_locals)) (record s { phase = phases.Method }) ≡ Ok (coded s (empty_block max_stack max_locals) [])
    by None e k = absurd cc
    by (Some i) e k = rw (u2_fits max_stack a, u2_fits max_locals b, e) refl

-- behind the code of a method
abbrev pub made_of : State → Code → State
made_of s code = record s { phase = phases.Methods; block = empty_block 0 0; parts = record s.parts { methods = with_code s.parts.methods code } }

end_turn : (line : ℕ) (s : State) (b : Block) (qs : List ℕ) (code : Code) → is_closed (record b { labels = map row_of qs }) ≡ true → unfit (record b { labels = map row_of qs }) ≡ []
    → code_made (record b { labels = map row_of qs }) ≡ code → turn line lines.End (coded s b qs) ≡ Ok (made_of s code)
unfolding turn act
end_turn line s b qs code closed fitting is = rw (closed, fitting, is) refl

code_through : (line : ℕ) (code : Code) (s : State) (ps : List (ℕ × Piece)) → Cuts 0 code.bytes ps → CodeFits code → length code.bytes ≤ 65535 → is_some (index_where (is_utf8_of (codes "Code")) 1 s.parts.pool) ≡ true
    → through line (lines.Code (pos code.max_stack) (pos code.max_locals) ∷ (flat_map (piece_lines (is_target_of (all_targets ps code.rows)) (shown (map (λ p. p.0) ps ++ length code.bytes ∷ []))) ps
    ++ (mark (is_target_of (all_targets ps code.rows)) (length code.bytes) ++ (map (row_line (shown (map (λ p. p.0) ps ++ length code.bytes ∷ []))) code.rows ++ lines.End ∷ [])))) (record s { phase = phases.Method })
    ≡ Ok (made_of s code)
unfolding unfit code_made
code_through line code s ps cut fits short name =
    let end = length code.bytes in
    let targets = all_targets ps code.rows in
    let f = is_target_of targets in
    let places = map (λ (p : ℕ × Piece). p.0) ps ++ end ∷ [] in
    let show = shown places in
    let qs = labels_after f ps [] in
    let rs = marks f end qs in
    let none = empty_block code.max_stack code.max_locals in
    let zero_end : 0 + end ≡ end = omega arith in
    let low : below end qs ≡ true = labels_below f 0 code.bytes ps [] end cut (omega arith) refl in
    let labels_low : below (2 ^ 64) rs ≡ true = below_marks f (2 ^ 64) end qs (omega arith) (below_more end (2 ^ 64) qs (omega arith) low) in
    let places_low : below (2 ^ 64) places ≡ true = places_below 0 code.bytes ps end (2 ^ 64) cut zero_end (omega arith) in
    let stand : Each (Stands (map row_of rs) show) targets = each_target (Stands (map row_of rs) show) targets (λ t k.
    stands places rs f t labels_low places_low (λ n e m. has_label f n end ps [] (subst (λ (u : ℤ). list_any (λ v. int_eq v u) targets ≡ true) e k) m)) in
    let both = each_parts (Stands (map row_of rs) show) (flat_map (λ p. map own_place (targets_of p.1)) ps) (flat_map row_targets code.rows) stand in
    let l1 = line + 1 in
    let l2 = l1 + length (flat_map (piece_lines f show) ps) in
    let l3 = l2 + length (mark f end) in
    let l4 = l3 + length (map (row_line show) code.rows) in
    let block = laid none end (with_lines f show l1 ps) in
    let final = catching block (caught show l3 code.rows) in
    let pd = pieces_done (map row_of rs) f show l1 0 code.bytes ps cut both.0 in
    let rd = rows_done (map row_of rs) show l3 code.rows fits.rows both.1 in
    let one : through l1 (flat_map (piece_lines f show) ps) (coded s none []) ≡ Ok (coded s block qs) =
    subst (λ (m : ℕ). through l1 (flat_map (piece_lines f show) ps) (coded s none []) ≡ Ok (coded s (laid none m (with_lines f show l1 ps)) qs)) zero_end
    (pieces_through f show l1 s none [] code.bytes ps cut refl (omega arith)) in
    let two : through l2 (mark f end) (coded s block qs) ≡ Ok (coded s block rs) = mark_through f l2 s block qs low (omega arith) in
    let three : through l3 (map (row_line show) code.rows) (coded s block rs) ≡ Ok (coded s final rs) = rows_through show l3 s block rs code.rows fits.rows in
    let four : turn l4 lines.End (coded s final rs) ≡ Ok (made_of s code) = end_turn l4 s final rs code (and_again _ _ pd.closed rd.closed) (rw (pd.fitting, rd.fitting) refl) (rw (pd.bytes_are, rd.rows_are) refl) in
    let last : through l4 (lines.End ∷ []) (coded s final rs) ≡ Ok (made_of s code) = rw four refl in
    rw (code_turn line code.max_stack code.max_locals s fits.max_stack fits.max_locals name)
    (joined l1 (flat_map (piece_lines f show) ps) _ (coded s none []) (coded s block qs) (made_of s code) one
    (joined l2 (mark f end) _ (coded s block qs) (coded s block rs) (made_of s code) two
    (joined l3 (map (row_line show) code.rows) (lines.End ∷ []) (coded s block rs) (coded s final rs) (made_of s code) three last)))

bytes_all : (bytes : List ℕ) → All IsU1 bytes → are_bytes bytes ≡ true
bytes_all [] h = refl
bytes_all (b ∷ bs) h = and_again _ _ (lt-ltb b 256 (All-head IsU1 b bs h)) (bytes_all bs (All-tail IsU1 b bs h))

-- whatever is taken for the instructions at their places, the pieces cut the bytes of a code
pub code_cut : (decode : Decoder) (code : Code) → CodeFits code → Cuts 0 code.bytes (pieces decode (length code.bytes) 0 code.bytes)
code_cut decode code fits = pieces_cut decode (length code.bytes) 0 code.bytes (omega arith) (bytes_all code.bytes fits.bytes)

-- the lines of a code make it, where a method's head stands before them and the name of the attribute is in the pool
pub code_back : (decode : Decoder) (line : ℕ) (code : Code) (s : State) → CodeFits code → length code.bytes ≤ 65535 → is_some (index_where (is_utf8_of (codes "Code")) 1 s.parts.pool) ≡ true
    → through line (code_lines decode code) (record s { phase = phases.Method }) ≡ Ok (made_of s code)
unfolding code_lines
code_back decode line code s fits short name = code_through line code s (pieces decode (length code.bytes) 0 code.bytes) (code_cut decode code fits) fits short name
