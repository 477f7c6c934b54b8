-- Lines of a code, one after the other.
use Rattle.std.proofs.Common.{◌≡◌, ℕ, zero, suc, ◌+◌, ◌<◌, ◌^◌, Bool, true, false, cond, List, [], ◌∷◌, ◌++◌, length, map, Result, Ok, Err, refl, sym, ap, subst, ◌∙◌, arith, append_assoc, length-append}
use Rattle.std.specs.Prelude.{All, ◌&&◌, ◌-ℤ◌, ℤ, pos, negsuc, flat_map}
use Rattle.std.specs.List.{list_all}
use Rattle.std.proofs.lemmas.List.Elements.{All-head, All-tail}
use Rattle.std.proofs.lemmas.List.{map-append}
use Rattle.std.proofs.lemmas.List.{length-map}
use Rattle.mvm_base.specs.Answers.{◌>>=◌}
use Rattle.mvm_layout.specs.declared.parts.Item.{Item}
use Rattle.mvm_layout.specs.declared.parts.Row.{Row}
use Rattle.mvm_classfile.specs.Kept.{IsU2, RowFits}
use Rattle.mvm_insn.specs.Opcodes.{operands_of}
use Rattle.mvm_statement.specs.Numbers.{magnitude}
use Rattle.mvm_statement.specs.declared.fault.AsmKind.{AsmKind}
use Rattle.mvm_statement.specs.declared.operand.Reference.TheVariants as references
use Rattle.mvm_statement.specs.declared.operand.Member.TheVariants as members
use Rattle.mvm_statement.specs.declared.operand.Loadable.TheVariants as loadables
use Rattle.mvm_statement.specs.declared.operand.LongConstant.TheVariants as longs
use Rattle.mvm_statement.specs.declared.operand.Place.{Place}
use Rattle.mvm_statement.specs.declared.operand.KeyRow.{KeyRow}
use Rattle.mvm_statement.specs.declared.instruction.Instruction.{Instruction as Line}
use Rattle.mvm_statement.specs.declared.instruction.Instruction.TheVariants.{Plain, Push, Load, LoadLong, OfClass, OfMember, Local, Increment, Jump, Table, Lookup, Invocation, Items, Dimensions}
use Rattle.mvm_statement.specs.declared.statement.Statement.{Statement}
use Rattle.mvm_statement.specs.declared.statement.Statement.TheVariants as lines
use Rattle.mvm_listing.specs.declared.phase.Phase.TheVariants as phases
use Rattle.mvm_listing.specs.declared.piece.Piece.{Piece}
use Rattle.mvm_listing.specs.declared.piece.Piece.TheVariants.{Own, OneByte}
use Rattle.mvm_listing.specs.declared.piece.Placed.{Placed}
use Rattle.mvm_listing.specs.declared.piece.Catching.{Catching}
use Rattle.mvm_listing.specs.Range.{names_byte, jumps_far, highest, fits, fits_entry, is_u1, is_u2, is_i4, takes_wide}
use Rattle.mvm_listing.specs.Encoding.{i1, i2, i4, u4, padding, on_local, encoded, encoded_piece, length_of}
use Rattle.mvm_listing.specs.Blocks.{Block, placed}
use Rattle.mvm_listing.specs.Assembly.{State, settled, turn, act}
use Rattle.mvm_listing.specs.Disassembly.{is_indexed, label, own_place, with_label, with_row, with_labels, mark, piece_line, piece_lines, class_shown, row_line}
use Rattle.mvm_listing.proofs.Runs.{through}
use Rattle.mvm_listing.proofs.Tests.{append_none}
use Rattle.mvm_listing.proofs.Numbers.{u1_fits, u2_fits}
use Rattle.mvm_listing.proofs.Cuts.{Sound, made, Cuts}
use Rattle.mvm_listing.proofs.Labels.{row_of, below, below_more, below_marks, found_none, marks}

abbrev pub going : State → Result State AsmKind
going s = Ok s

-- ---- runs of lines

pub through_after : (line : ℕ) (xs ys : List Statement) (s t : State) → through line xs s ≡ Ok t → through line (xs ++ ys) s ≡ through (line + length xs) ys t
through_after line [] ys s t h =
    let e : s ≡ t = cc in
    let n : line ≡ line + 0 = omega arith in
    subst (λ (u : State). through line ys s ≡ through (line + 0) ys u) e (ap (λ (k : ℕ). through k ys s) n)
through_after line (x ∷ xs) ys s t h = by (turn line x s) (λ u k. through_after (line + 1) xs ys u t k) h
  where
    by : (r : Result State AsmKind) → ((u : State) → through (line + 1) xs u ≡ Ok t → through (line + 1) (xs ++ ys) u ≡ through ((line + 1) + length xs) ys t)
        → (r >>= λ u. through (line + 1) xs u) ≡ Ok t → (r >>= λ u. through (line + 1) (xs ++ ys) u) ≡ through (line + length (x ∷ xs)) ys t
    by (Ok u) later k =
        let n : (line + 1) + length xs ≡ line + length (x ∷ xs) = omega arith in
        later u k ∙ ap (λ (m : ℕ). through m ys t) n
    by (Err fault) later k = absurd cc

pub joined : (line : ℕ) (xs ys : List Statement) (s t u : State) → through line xs s ≡ Ok t → through (line + length xs) ys t ≡ Ok u → through line (xs ++ ys) s ≡ Ok u
joined line xs ys s t u a b = through_after line xs ys s t a ∙ b

one_line : (line : ℕ) (x : Statement) (s t : State) → turn line x s ≡ Ok t → through line (x ∷ []) s ≡ Ok t
one_line line x s t h = rw h refl

-- ---- states in a code

-- in a code, with these places row_of
abbrev pub coded : State → Block → List ℕ → State
coded s b qs = record s { phase = phases.Code; block = record b { labels = map row_of qs } }

-- ---- labels

mark_turn : (line : ℕ) (s : State) (b : Block) (qs : List ℕ) → below b.end qs ≡ true → b.end < 2 ^ 64 → turn line (lines.Label (label b.end)) (coded s b qs) ≡ Ok (coded s b (qs ++ b.end ∷ []))
unfolding turn act
mark_turn line s b qs h n =
    let e : map row_of qs ++ row_of b.end ∷ [] ≡ map row_of (qs ++ b.end ∷ []) = sym (map-append row_of qs (b.end ∷ [])) in
    rw (found_none qs b.end h n) (ap (λ (ls : List (List ℕ × ℕ)). going (record s { phase = phases.Code; block = record b { labels = ls } })) e)

pub mark_through : (f : ℕ → Bool) (line : ℕ) (s : State) (b : Block) (qs : List ℕ) → below b.end qs ≡ true → b.end < 2 ^ 64 → through line (mark f b.end) (coded s b qs) ≡ Ok (coded s b (marks f b.end qs))
mark_through f line s b qs h n = by (f b.end)
  where
    by : (t : Bool) → through line (cond t (lines.Label (label b.end) ∷ []) []) (coded s b qs) ≡ Ok (coded s b (cond t (qs ++ b.end ∷ []) qs))
    by true = one_line line (lines.Label (label b.end)) (coded s b qs) (coded s b (qs ++ b.end ∷ [])) (mark_turn line s b qs h n)
    by false = refl

-- ---- pieces

abbrev pub shown_piece : (ℤ → Place) → Piece → Piece
shown_piece show (Own line) = Own (with_labels show line)
shown_piece show (OneByte n) = OneByte n

negative : (op n : ℕ) → fits_entry op (negsuc n) ≡ true → ⊥
negative op n f = by (names_byte (operands_of op)) f
  where
    by : (b : Bool) → cond b (is_u1 (negsuc n)) (is_u2 (negsuc n)) ≡ true → ⊥
    by true k = cc
    by false k = cc

-- an instruction whose entry is named by its index needs no other
settled_same : (line : Line) (pool : List Item) → fits [] (lines.Instruction line) ≡ true → is_indexed line ≡ true → settled line pool ≡ Ok (line, pool)
settled_same (Plain op) pool f h = refl
settled_same (Push op n) pool f h = refl
settled_same (Load op (loadables.Indexed (pos n))) pool f h = rw f refl
settled_same (Load op (loadables.Indexed (negsuc n))) pool f h = absurd (negative op n f)
settled_same (Load op (loadables.Integer n)) pool f h = absurd cc
settled_same (Load op (loadables.Text units)) pool f h = absurd cc
settled_same (Load op (loadables.Class name)) pool f h = absurd cc
settled_same (LoadLong op (longs.Indexed (pos n))) pool f h = refl
settled_same (LoadLong op (longs.Indexed (negsuc n))) pool f h = absurd (let z : false ≡ true = f in cc)
settled_same (LoadLong op (longs.Long n)) pool f h = absurd cc
settled_same (OfClass op (references.Indexed (pos n))) pool f h = refl
settled_same (OfClass op (references.Indexed (negsuc n))) pool f h = absurd (let z : false ≡ true = f in cc)
settled_same (OfClass op (references.Named name)) pool f h = absurd cc
settled_same (OfMember op (members.Indexed (pos n))) pool f h = refl
settled_same (OfMember op (members.Indexed (negsuc n))) pool f h = absurd (let z : false ≡ true = f in cc)
settled_same (OfMember op (members.Named class name desc)) pool f h = absurd cc
settled_same (Local op n wide) pool f h = refl
settled_same (Increment op n by wide) pool f h = refl
settled_same (Jump op target) pool f h = refl
settled_same (Table op low targets otherwise) pool f h = refl
settled_same (Lookup op rows otherwise) pool f h = refl
settled_same (Invocation op (members.Indexed (pos n)) count) pool f h = refl
settled_same (Invocation op (members.Indexed (negsuc n)) count) pool f h = absurd (let z : false ≡ true = f in cc)
settled_same (Invocation op (members.Named class name desc) count) pool f h = absurd cc
settled_same (Items op kind) pool f h = refl
settled_same (Dimensions op (references.Indexed (pos n)) count) pool f h = refl
settled_same (Dimensions op (references.Indexed (negsuc n)) count) pool f h = absurd (let z : false ≡ true = f in cc)
settled_same (Dimensions op (references.Named name) count) pool f h = absurd cc

-- labels in the place of numbers change neither what fits nor which entry is named
labels_fit : (show : ℤ → Place) (line : Line) (pool : List Item) → fits pool (lines.Instruction (with_labels show line)) ≡ fits [] (lines.Instruction line)
labels_fit show (Plain op) pool = refl
labels_fit show (Push op n) pool = refl
labels_fit show (Load op x) pool = refl
labels_fit show (LoadLong op x) pool = refl
labels_fit show (OfClass op class) pool = refl
labels_fit show (OfMember op member) pool = refl
labels_fit show (Local op n wide) pool = refl
labels_fit show (Increment op n by wide) pool = refl
labels_fit show (Jump op target) pool = refl
labels_fit show (Table op low targets otherwise) pool = rw (length-map targets (with_label show)) refl
labels_fit show (Lookup op rows otherwise) pool = keys rows
  where
    keys : (rs : List KeyRow) → list_all (λ row. is_i4 row.key) (map (with_row show) rs) ≡ list_all (λ row. is_i4 row.key) rs
    keys [] = refl
    keys (r ∷ rs) = ap (λ (b : Bool). is_i4 r.key && b) (keys rs)
labels_fit show (Invocation op member count) pool = refl
labels_fit show (Items op kind) pool = refl
labels_fit show (Dimensions op class count) pool = refl

labels_indexed : (show : ℤ → Place) (line : Line) → is_indexed line ≡ true → is_indexed (with_labels show line) ≡ true
labels_indexed show (Jump op target) h = refl
labels_indexed show (Table op low targets otherwise) h = refl
labels_indexed show (Lookup op rows otherwise) h = refl
labels_indexed show (Plain op) h = h
labels_indexed show (Push op n) h = h
labels_indexed show (Load op x) h = h
labels_indexed show (LoadLong op x) h = h
labels_indexed show (OfClass op class) h = h
labels_indexed show (OfMember op member) h = h
labels_indexed show (Local op n wide) h = h
labels_indexed show (Increment op n by wide) h = h
labels_indexed show (Invocation op member count) h = h
labels_indexed show (Items op kind) h = h
labels_indexed show (Dimensions op class count) h = h

piece_turn : (show : ℤ → Place) (line : ℕ) (s : State) (b : Block) (qs : List ℕ) (at : ℕ) (p : Piece) → Sound at p → turn line (piece_line show p) (coded s b qs) ≡ Ok (coded s (placed line (shown_piece show p) b) qs)
unfolding turn act
piece_turn show line s b qs at (OneByte n) h = rw (u1_fits n h) refl
piece_turn show line s b qs at (Own x) h =
    let f : fits s.parts.pool (lines.Instruction (with_labels show x)) ≡ true = labels_fit show x s.parts.pool ∙ h.fitting in
    let g : fits [] (lines.Instruction (with_labels show x)) ≡ true = labels_fit show x [] ∙ h.fitting in
    let e = settled_same (with_labels show x) s.parts.pool g (labels_indexed show x h.entry) in
    rw (f, e) refl

-- how long an instruction is does not hang on its targets
targets_length : (show : ℤ → Place) (f g : Place → ℤ) (at : ℕ) (ts : List Place) → length (flat_map (λ t. i4 (f t -ℤ pos at)) (map (with_label show) ts)) ≡ length (flat_map (λ t. i4 (g t -ℤ pos at)) ts)
targets_length show f g at [] = refl
targets_length show f g at (t ∷ ts) = ap (λ (n : ℕ). suc (suc (suc (suc n)))) (targets_length show f g at ts)

rows_length : (show : ℤ → Place) (f g : Place → ℤ) (at : ℕ) (rs : List KeyRow)
    → length (flat_map (λ r. i4 r.key ++ i4 (f r.target -ℤ pos at)) (map (with_row show) rs)) ≡ length (flat_map (λ r. i4 r.key ++ i4 (g r.target -ℤ pos at)) rs)
rows_length show f g at [] = refl
rows_length show f g at (r ∷ rs) = ap (λ (n : ℕ). suc (suc (suc (suc (suc (suc (suc (suc n)))))))) (rows_length show f g at rs)

jump_length : (b : Bool) (n m : ℤ) → length (cond b (i4 n) (i2 n)) ≡ length (cond b (i4 m) (i2 m))
jump_length true n m = refl
jump_length false n m = refl

pub same_length : (show : ℤ → Place) (f g : Place → ℤ) (at : ℕ) (p : Piece) → length (encoded_piece f at (shown_piece show p)) ≡ length (encoded_piece g at p)
unfolding encoded
same_length show f g at (OneByte n) = refl
same_length show f g at (Own (Plain op)) = refl
same_length show f g at (Own (Push op n)) = refl
same_length show f g at (Own (Load op x)) = refl
same_length show f g at (Own (LoadLong op x)) = refl
same_length show f g at (Own (OfClass op class)) = refl
same_length show f g at (Own (OfMember op member)) = refl
same_length show f g at (Own (Local op n wide)) = refl
same_length show f g at (Own (Increment op n by wide)) = refl
same_length show f g at (Own (Jump op target)) = ap suc (jump_length (jumps_far (operands_of op)) (f (with_label show target) -ℤ pos at) (g target -ℤ pos at))
same_length show f g at (Own (Table op low targets otherwise)) =
    let one = length-append (padding at) (i4 (f (with_label show otherwise) -ℤ pos at) ++ (i4 low ++ (i4 (highest low (map (with_label show) targets)) ++ flat_map (λ t. i4 (f t -ℤ pos at)) (map (with_label show) targets)))) in
    let two = length-append (padding at) (i4 (g otherwise -ℤ pos at) ++ (i4 low ++ (i4 (highest low targets) ++ flat_map (λ t. i4 (g t -ℤ pos at)) targets))) in
    let rest = targets_length show f g at targets in
    omega arith
same_length show f g at (Own (Lookup op rows otherwise)) =
    let shown_rows = map (with_row show) rows in
    let one = length-append (padding at) (i4 (f (with_label show otherwise) -ℤ pos at) ++ (u4 (length shown_rows) ++ flat_map (λ r. i4 r.key ++ i4 (f r.target -ℤ pos at)) shown_rows)) in
    let two = length-append (padding at) (i4 (g otherwise -ℤ pos at) ++ (u4 (length rows) ++ flat_map (λ r. i4 r.key ++ i4 (g r.target -ℤ pos at)) rows)) in
    let rest = rows_length show f g at rows in
    omega arith
same_length show f g at (Own (Invocation op member count)) = refl
same_length show f g at (Own (Items op kind)) = refl
same_length show f g at (Own (Dimensions op class count)) = refl

local_some : (wide : Bool) (op local : ℕ) (xs ys : List ℕ) → 0 < length (on_local wide op local xs ys)
local_some true op local xs ys = omega arith
local_some false op local xs ys = omega arith

pub made_some : (at : ℕ) (p : Piece) → 0 < length (made at p)
unfolding encoded
made_some at (OneByte n) = omega arith
made_some at (Own (Plain op)) = omega arith
made_some at (Own (Push op n)) = omega arith
made_some at (Own (Load op x)) = omega arith
made_some at (Own (LoadLong op x)) = omega arith
made_some at (Own (OfClass op class)) = omega arith
made_some at (Own (OfMember op member)) = omega arith
made_some at (Own (Local op n wide)) = local_some (takes_wide wide n) op (magnitude n) [] []
made_some at (Own (Increment op n by wide)) = local_some (takes_wide wide n) op (magnitude n) (i1 by) (i2 by)
made_some at (Own (Jump op target)) = omega arith
made_some at (Own (Table op low targets otherwise)) = omega arith
made_some at (Own (Lookup op rows otherwise)) = omega arith
made_some at (Own (Invocation op member count)) = omega arith
made_some at (Own (Items op kind)) = omega arith
made_some at (Own (Dimensions op class count)) = omega arith

-- ---- all pieces of a code

abbrev pub lines_in : (ℕ → Bool) → ℕ → ℕ
lines_in f at = cond (f at) 1 0

abbrev pub with_lines : (ℕ → Bool) → (ℤ → Place) → ℕ → List (ℕ × Piece) → List Placed
with_lines f show line [] = []
with_lines f show line (p ∷ ps) = record { line = line + length (mark f p.0); at = p.0; piece = shown_piece show p.1 } ∷ with_lines f show (line + length (piece_lines f show p)) ps

abbrev pub labels_after : (ℕ → Bool) → List (ℕ × Piece) → List ℕ → List ℕ
labels_after f [] qs = qs
labels_after f (p ∷ ps) qs = labels_after f ps (marks f p.0 qs)

abbrev pub laid : Block → ℕ → List Placed → Block
laid b end more = record b { end = end; pieces = b.pieces ++ more }

piece_through : (f : ℕ → Bool) (show : ℤ → Place) (line : ℕ) (s : State) (b : Block) (qs : List ℕ) (p : ℕ × Piece) → p.0 ≡ b.end → Sound b.end p.1 → below b.end qs ≡ true → b.end < 2 ^ 64
    → through line (piece_lines f show p) (coded s b qs) ≡ Ok (coded s (laid b (b.end + length (made b.end p.1)) (record { line = line + length (mark f p.0); at = p.0; piece = shown_piece show p.1 } ∷ [])) (marks f p.0 qs))
piece_through f show line s b qs p e sound h n =
    subst (λ (at : ℕ). through line (mark f at ++ piece_line show p.1 ∷ []) (coded s b qs) ≡ Ok (coded s (laid b (b.end + length (made b.end p.1)) (record { line = line + length (mark f at); at = at; piece = shown_piece show p.1 } ∷ [])) (marks f at qs))) (sym e) here
  where
    here : through line (mark f b.end ++ piece_line show p.1 ∷ []) (coded s b qs) ≡ Ok (coded s (laid b (b.end + length (made b.end p.1)) (record { line = line + length (mark f b.end); at = b.end; piece = shown_piece show p.1 } ∷ [])) (marks f b.end qs))
    here =
        let l : length_of b.end (shown_piece show p.1) ≡ length (made b.end p.1) = same_length show (λ t. pos 0) own_place b.end p.1 in
        let new = marks f b.end qs in
        joined line (mark f b.end) (piece_line show p.1 ∷ []) (coded s b qs) (coded s b new) _ (mark_through f line s b qs h n)
        (one_line _ (piece_line show p.1) (coded s b new) _ (piece_turn show (line + length (mark f b.end)) s b new b.end p.1 sound)
        ∙ ap (λ (k : ℕ). going (coded s (laid b (b.end + k) (record { line = line + length (mark f b.end); at = b.end; piece = shown_piece show p.1 } ∷ [])) new)) l)

pub pieces_through : (f : ℕ → Bool) (show : ℤ → Place) (line : ℕ) (s : State) (b : Block) (qs bytes : List ℕ) (ps : List (ℕ × Piece)) → Cuts b.end bytes ps → below b.end qs ≡ true → b.end + length bytes < 2 ^ 64
    → through line (flat_map (piece_lines f show) ps) (coded s b qs) ≡ Ok (coded s (laid b (b.end + length bytes) (with_lines f show line ps)) (labels_after f ps qs))
pieces_through f show line s b qs bytes [] cut h n =
    let l : b.end ≡ b.end + length bytes = rw cut (omega arith) in
    ap (λ (k : ℕ). going (coded s (record b { end = k }) qs)) l ∙ ap (λ (xs : List Placed). going (coded s (record b { end = b.end + length bytes; pieces = xs }) qs)) (sym (append_none b.pieces))
pieces_through f show line s b qs bytes (p ∷ ps) cut h n =
    let size = length (made b.end p.1) in
    let first = made_some b.end p.1 in
    let l : length bytes ≡ size + length cut.0 = ap (λ (xs : List ℕ). length xs) cut.3 ∙ length-append (made b.end p.1) cut.0 in
    let one : Placed = record { line = line + length (mark f p.0); at = p.0; piece = shown_piece show p.1 } in
    let b2 = laid b (b.end + size) (one ∷ []) in
    let step = piece_through f show line s b qs p cut.1 cut.2 h (omega arith) in
    let low : below (b.end + size) (marks f p.0 qs) ≡ true = below_marks f (b.end + size) p.0 qs (omega (arith, cut.1)) (below_more b.end (b.end + size) qs (omega arith) h) in
    let more = pieces_through f show (line + length (piece_lines f show p)) s b2 (marks f p.0 qs) cut.0 ps cut.4 low (omega arith) in
    let e : (b.pieces ++ one ∷ []) ++ with_lines f show (line + length (piece_lines f show p)) ps ≡ b.pieces ++ with_lines f show line (p ∷ ps) = append_assoc b.pieces (one ∷ []) _ in
    let k : (b.end + size) + length cut.0 ≡ b.end + length bytes = omega arith in
    joined line (piece_lines f show p) (flat_map (piece_lines f show) ps) (coded s b qs) (coded s b2 (marks f p.0 qs)) _ step (more
    ∙ ap (λ (m : ℕ). going (coded s (record b { end = m; pieces = (b.pieces ++ one ∷ []) ++ with_lines f show (line + length (piece_lines f show p)) ps }) (labels_after f ps (marks f p.0 qs)))) k
    ∙ ap (λ (xs : List Placed). going (coded s (record b { end = b.end + length bytes; pieces = xs }) (labels_after f ps (marks f p.0 qs)))) e)

-- ---- rows

abbrev pub caught : (ℤ → Place) → ℕ → List Row → List Catching
caught show line [] = []
caught show line (r ∷ rs) = record { line = line; start = show (pos r.start); end = show (pos r.end); handler = show (pos r.handler); class = r.catch_class } ∷ caught show (line + 1) rs

abbrev pub catching : Block → List Catching → Block
catching b more = record b { rows = b.rows ++ more }

row_turn : (show : ℤ → Place) (line : ℕ) (s : State) (b : Block) (qs : List ℕ) (from to handler class : ℕ) → IsU2 class
    → turn line (lines.Catch (show (pos from)) (show (pos to)) (show (pos handler)) (class_shown class)) (coded s b qs)
    ≡ Ok (coded s (catching b (record { line = line; start = show (pos from); end = show (pos to); handler = show (pos handler); class = class } ∷ [])) qs)
unfolding turn act
row_turn show line s b qs from to handler zero h = refl
row_turn show line s b qs from to handler (suc n) h = rw (u2_fits (suc n) h) refl

pub rows_through : (show : ℤ → Place) (line : ℕ) (s : State) (b : Block) (qs : List ℕ) (rs : List Row) → All RowFits rs
    → through line (map (row_line show) rs) (coded s b qs) ≡ Ok (coded s (catching b (caught show line rs)) qs)
rows_through show line s b qs [] h = ap (λ (xs : List Catching). going (coded s (record b { rows = xs }) qs)) (sym (append_none b.rows))
rows_through show line s b qs (r ∷ rs) h =
    let one : Catching = record { line = line; start = show (pos r.start); end = show (pos r.end); handler = show (pos r.handler); class = r.catch_class } in
    let t = row_turn show line s b qs r.start r.end r.handler r.catch_class (All-head RowFits r rs h).catch_class in
    let more = rows_through show (line + 1) s (catching b (one ∷ [])) qs rs (All-tail RowFits r rs h) in
    let e : (b.rows ++ one ∷ []) ++ caught show (line + 1) rs ≡ b.rows ++ caught show line (r ∷ rs) = append_assoc b.rows (one ∷ []) _ in
    rw t (more ∙ ap (λ (xs : List Catching). going (coded s (record b { rows = xs }) qs)) e)
