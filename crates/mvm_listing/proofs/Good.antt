-- The lines of a class file can be written.
use Rattle.std.proofs.Common.{◌≡◌, ℕ, zero, suc, ◌+◌, ◌<◌, ◌≤◌, ◌^◌, Bool, true, false, cond, List, [], ◌∷◌, ◌++◌, length, map, Option, Some, None, refl, sym, ap, subst, ◌∙◌, arith, length-append}
use Rattle.std.specs.Prelude.{All, ◌&&◌, ℤ, pos, negsuc, flat_map, option_map, IfSome}
use Rattle.std.specs.List.{list_all}
use Rattle.std.proofs.lemmas.Bool.{ltb-true, lt-ltb}
use Rattle.std.proofs.lemmas.List.Elements.{All-head, All-tail}
use Rattle.std.proofs.lemmas.List.Folds.{list_all-append}
use Rattle.std.proofs.lemmas.Option.{IfSome_then}
use Rattle.mvm_layout.specs.declared.parts.Code.{Code}
use Rattle.mvm_layout.specs.declared.parts.Item.{Item}
use Rattle.mvm_layout.specs.declared.parts.Item.TheVariants.{Utf8, Integer, Float, Long, Double, Upper, Class, Str, Fieldref, Methodref, InterfaceMethodref, NameAndType, MethodHandle, MethodType, InvokeDynamic}
use Rattle.mvm_layout.specs.declared.parts.Member.{Member}
use Rattle.mvm_layout.specs.declared.parts.Parts.{Parts}
use Rattle.mvm_layout.specs.declared.parts.Row.{Row}
use Rattle.mvm_layout.specs.Entries.{takes_two}
use Rattle.mvm_base.specs.ModifiedUtf8.{AreUnits}
use Rattle.mvm_classfile.specs.Kept.{IsU2, ItemFits, PoolFits, RowFits, CodeFits, MemberFits, NumbersFit}
use Rattle.mvm_statement.specs.Tokens.{is_word}
use Rattle.mvm_statement.specs.Numbers.{is_short}
use Rattle.mvm_statement.specs.Operands.{is_good_place, are_units}
use Rattle.mvm_statement.specs.Lines.{is_good_row}
use Rattle.mvm_statement.specs.Instructions.{has_row}
use Rattle.mvm_statement.specs.Values.{is_good_value}
use Rattle.mvm_statement.specs.Statements.{super_class, caught, is_good_constant, is_good}
use Rattle.mvm_statement.specs.declared.operand.Place.{Place}
use Rattle.mvm_statement.specs.declared.operand.Place.TheVariants.{At, Label}
use Rattle.mvm_statement.specs.declared.operand.KeyRow.{KeyRow}
use Rattle.mvm_statement.specs.declared.operand.Initial.TheVariants as initials
use Rattle.mvm_statement.specs.declared.instruction.Instruction.TheVariants.{Plain, Push, Load, LoadLong, OfClass, OfMember, Local, Increment, Jump, Table, Lookup, Invocation, Items, Dimensions}
use Rattle.mvm_statement.specs.declared.statement.Statement.{Statement}
use Rattle.mvm_statement.specs.declared.statement.Statement.TheVariants as lines
use Rattle.mvm_statement.proofs.NumbersBack.{number_letters}
use Rattle.mvm_listing.specs.declared.piece.Piece.{Piece}
use Rattle.mvm_listing.specs.declared.piece.Piece.TheVariants.{Own, OneByte}
use Rattle.mvm_listing.specs.Disassembly.{Decoder, own_place, with_label, with_row, shown_at, shown, is_place, label, mark, piece_line, piece_lines, class_shown, row_line, value_of, entry_line, entries, pieces, code_lines, code_lines_of, apart, interface_line, field_line, method_lines, numbered, statements, all_targets, is_target_of}
use Rattle.mvm_listing.proofs.Tests.{parts, and_again}
use Rattle.mvm_listing.proofs.Numbers.{short, u1_short, u2_short, i4_short, i8_short}
use Rattle.mvm_listing.proofs.Entries.{given}
use Rattle.mvm_listing.proofs.Cuts.{Sound, made, Cuts}
use Rattle.mvm_listing.proofs.Codes.{code_cut}
use Rattle.mvm_listing.proofs.Texts.{is_good_line}

abbrev pub all_good : List Statement → Bool
all_good ss = list_all is_good ss

pub good_joined : (xs ys : List Statement) → all_good xs ≡ true → all_good ys ≡ true → all_good (xs ++ ys) ≡ true
good_joined xs ys p q = list_all-append is_good xs ys ∙ and_again _ _ p q

label_word : (n : ℕ) → n < 2 ^ 64 → is_word (label n) ≡ true
label_word n h = number_letters (pos n) (short n h)

shown_good : (places : List ℕ) (z : ℤ) → is_short z ≡ true → is_good_place (shown places z) ≡ true
shown_good places (negsuc n) h = h
shown_good places (pos n) h = by (is_place places (pos n))
  where
    by : (b : Bool) → is_good_place (shown_at b (pos n)) ≡ true
    by true = label_word n (ltb-true n (2 ^ 64) h)
    by false = h

-- ---- pieces

mark_good : (f : ℕ → Bool) (at : ℕ) → at < 2 ^ 64 → all_good (mark f at) ≡ true
unfolding is_good
mark_good f at h = by (f at)
  where
    by : (b : Bool) → all_good (cond b (lines.Label (label at) ∷ []) []) ≡ true
    by true = and_again _ _ (label_word at h) refl
    by false = refl

own_short : (t : Place) → is_good_place t ≡ true → is_short (own_place t) ≡ true
own_short (At n) h = h
own_short (Label name) h = refl

target_good : (places : List ℕ) (t : Place) → is_good_place t ≡ true → is_good_place (with_label (shown places) t) ≡ true
target_good places t h = shown_good places (own_place t) (own_short t h)

targets_good : (places : List ℕ) (ts : List Place) → list_all is_good_place ts ≡ true → list_all is_good_place (map (with_label (shown places)) ts) ≡ true
targets_good places [] h = refl
targets_good places (t ∷ ts) h = let a = parts (is_good_place t) _ h in and_again _ _ (target_good places t a.0) (targets_good places ts a.1)

keys_good : (places : List ℕ) (rs : List KeyRow) → list_all is_good_row rs ≡ true → list_all is_good_row (map (with_row (shown places)) rs) ≡ true
keys_good places [] h = refl
keys_good places (r ∷ rs) h =
    let a = parts (is_good_row r) _ h in
    let b = parts (is_short r.key) _ a.0 in
    and_again _ _ (and_again _ _ b.0 (target_good places r.target b.1)) (keys_good places rs a.1)

row_kept : (f : Place → Place) (ts : List Place) → has_row ts ≡ true → has_row (map f ts) ≡ true
row_kept f [] h = h
row_kept f (t ∷ ts) h = refl

line_good : (places : List ℕ) (at : ℕ) (p : Piece) → Sound at p → is_good (piece_line (shown places) p) ≡ true
unfolding is_good
line_good places at (OneByte n) h = u1_short n h
line_good places at (Own (Plain op)) h = h.good
line_good places at (Own (Push op n)) h = h.good
line_good places at (Own (Load op x)) h = h.good
line_good places at (Own (LoadLong op x)) h = h.good
line_good places at (Own (OfClass op x)) h = h.good
line_good places at (Own (OfMember op x)) h = h.good
line_good places at (Own (Local op n wide)) h = h.good
line_good places at (Own (Increment op n by wide)) h = h.good
line_good places at (Own (Invocation op x count)) h = h.good
line_good places at (Own (Items op kind)) h = h.good
line_good places at (Own (Dimensions op x count)) h = h.good
line_good places at (Own (Jump op target)) h = let a = parts _ (is_good_place target) h.good in and_again _ _ a.0 (target_good places target a.1)
line_good places at (Own (Table op low targets otherwise)) h =
    let a = parts _ (has_row targets && (is_short low && (list_all is_good_place targets && is_good_place otherwise))) h.good in
    let b = parts (has_row targets) _ a.1 in
    let c = parts (is_short low) _ b.1 in
    let d = parts (list_all is_good_place targets) _ c.1 in
    and_again _ _ a.0 (and_again _ _ (row_kept (with_label (shown places)) targets b.0) (and_again _ _ c.0 (and_again _ _ (targets_good places targets d.0) (target_good places otherwise d.1))))
line_good places at (Own (Lookup op rows otherwise)) h =
    let a = parts _ (list_all is_good_row rows && is_good_place otherwise) h.good in
    let b = parts (list_all is_good_row rows) _ a.1 in
    and_again _ _ a.0 (and_again _ _ (keys_good places rows b.0) (target_good places otherwise b.1))

pieces_good : (f : ℕ → Bool) (places : List ℕ) (at : ℕ) (bytes : List ℕ) (ps : List (ℕ × Piece)) → Cuts at bytes ps → at + length bytes < 2 ^ 64 → all_good (flat_map (piece_lines f (shown places)) ps) ≡ true
pieces_good f places at bytes [] cut h = refl
pieces_good f places at bytes (p ∷ ps) cut h =
    let n : length bytes ≡ length (made at p.1) + length cut.0 = ap (λ (xs : List ℕ). length xs) cut.3 ∙ length-append (made at p.1) cut.0 in
    let line = line_good places at p.1 cut.2 in
    let here : all_good (piece_lines f (shown places) p) ≡ true = good_joined (mark f p.0) (piece_line (shown places) p.1 ∷ []) (mark_good f p.0 (omega (arith, cut.1))) (and_again _ _ line refl) in
    good_joined (piece_lines f (shown places) p) _ here (pieces_good f places (at + length (made at p.1)) cut.0 ps cut.4 (omega arith))

superclass_good : (n : ℕ) → IsU2 n → super_class.is_good (class_shown n) ≡ true
superclass_good zero h = refl
superclass_good (suc n) h = and_again _ _ refl (u2_short (suc n) h)

caught_good : (n : ℕ) → IsU2 n → caught.is_good (class_shown n) ≡ true
caught_good zero h = refl
caught_good (suc n) h = and_again _ _ refl (u2_short (suc n) h)

rows_good : (places : List ℕ) (rs : List Row) → All RowFits rs → all_good (map (row_line (shown places)) rs) ≡ true
unfolding is_good
rows_good places [] h = refl
rows_good places (r ∷ rs) h =
    let a = All-head RowFits r rs h in
    and_again _ _ (and_again _ _ (shown_good places (pos r.start) (u2_short _ a.start)) (and_again _ _ (shown_good places (pos r.end) (u2_short _ a.end))
    (and_again _ _ (shown_good places (pos r.handler) (u2_short _ a.handler)) (caught_good r.catch_class a.catch_class)))) (rows_good places rs (All-tail RowFits r rs h))

code_good : (decode : Decoder) (code : Code) → CodeFits code → length code.bytes ≤ 65535 → all_good (code_lines decode code) ≡ true
unfolding code_lines is_good
code_good decode code fits low =
    let end = length code.bytes in
    let ps = pieces decode end 0 code.bytes in
    let cut = code_cut decode code fits in
    let f = is_target_of (all_targets ps code.rows) in
    let places = map (λ (p : ℕ × Piece). p.0) ps ++ end ∷ [] in
    and_again _ _ (and_again _ _ (u2_short _ fits.max_stack) (u2_short _ fits.max_locals))
    (good_joined (flat_map (piece_lines f (shown places)) ps) _ (pieces_good f places 0 code.bytes ps cut (omega arith))
    (good_joined (mark f end) _ (mark_good f end (omega arith))
    (good_joined (map (row_line (shown places)) code.rows) (lines.End ∷ []) (rows_good places code.rows fits.rows) refl)))

-- ---- the constant pool

units_good : (text : List ℕ) → AreUnits text → are_units text ≡ true
units_good [] h = refl
units_good (u ∷ us) h = and_again _ _ (lt-ltb u 65536 (All-head (λ x. x < 65536) u us h)) (units_good us (All-tail (λ x. x < 65536) u us h))

value_good : (item : Item) → ItemFits item → is_good_value (value_of item) ≡ true
value_good (Utf8 text) h = units_good text h
value_good (Integer n) h = i4_short n h
value_good (Float bits) h = short bits (omega arith)
value_good (Long n) h = i8_short n h
value_good (Double bits) h = short bits h
value_good Upper h = absurd h
value_good (Class n) h = u2_short n h
value_good (Str n) h = u2_short n h
value_good (Fieldref n m) h = and_again _ _ (u2_short n h.0) (u2_short m h.1)
value_good (Methodref n m) h = and_again _ _ (u2_short n h.0) (u2_short m h.1)
value_good (InterfaceMethodref n m) h = and_again _ _ (u2_short n h.0) (u2_short m h.1)
value_good (NameAndType n m) h = and_again _ _ (u2_short n h.0) (u2_short m h.1)
value_good (MethodHandle kind n) h = and_again _ _ (u1_short kind h.0) (u2_short n h.1)
value_good (MethodType n) h = u2_short n h
value_good (InvokeDynamic n m) h = and_again _ _ (u2_short n h.0) (u2_short m h.1)

entry_good : (n : ℕ) (item : Item) → n < 65536 → ItemFits item → all_good (entry_line n item) ≡ true
unfolding is_good
entry_good n item h f = subst (λ (ss : List Statement). all_good ss ≡ true) (sym ((given item f).line n)) (and_again _ _ (and_again _ _ (u2_short n h) (value_good item f)) refl)

entries_good : (is_upper : Bool) (n : ℕ) (items : List Item) → n + length items < 65536 → PoolFits is_upper items → all_good (entries n items) ≡ true
entries_good false n [] h f = refl
entries_good true n [] h f = absurd f
entries_good false n (item ∷ items) h f = good_joined (entry_line n item) _ (entry_good n item (omega arith) f.0) (entries_good (takes_two item) (n + 1) items (omega arith) f.1)
entries_good true n (item ∷ items) h f = subst (λ (z : Item). all_good (entries n (z ∷ items)) ≡ true) (sym f.0) (entries_good false (n + 1) items (omega arith) f.1)

-- ---- the whole

codes_good : (decode : Decoder) (o : Option Code) → IfSome o CodeFits → IfSome o (λ code. length code.bytes ≤ 65535) → all_good (code_lines_of decode o) ≡ true
codes_good decode None h k = refl
codes_good decode (Some code) h k = code_good decode code h k

constant_good : (o : Option ℕ) → IfSome o IsU2 → is_good_constant (option_map (λ n. initials.Indexed (pos n)) o) ≡ true
constant_good None h = refl
constant_good (Some n) h = u2_short n h

field_good : (pool : List Item) (m : Member) → MemberFits pool m → is_good (field_line m) ≡ true
unfolding is_good
field_good pool m h = and_again _ _ (and_again _ _ (u2_short _ h.flags) (and_again _ _ (u2_short _ h.name) (u2_short _ h.desc))) (constant_good m.constant (IfSome_then m.constant h.constant (λ n p. p.0)))

-- lines of which some may be empty
abbrev pub all_good_lines : List (Option Statement) → Bool
all_good_lines xs = list_all is_good_line xs

lines_joined : (xs ys : List (Option Statement)) → all_good_lines xs ≡ true → all_good_lines ys ≡ true → all_good_lines (xs ++ ys) ≡ true
lines_joined xs ys p q = list_all-append is_good_line xs ys ∙ and_again _ _ p q

some_good : (ss : List Statement) → all_good ss ≡ true → all_good_lines (map Some ss) ≡ true
some_good [] h = refl
some_good (s ∷ ss) h = let a = parts (is_good s) _ h in and_again _ _ a.0 (some_good ss a.1)

fields_good : (pool : List Item) (ms : List Member) → All (MemberFits pool) ms → all_good_lines (flat_map (λ m. apart (field_line m ∷ [])) ms) ≡ true
fields_good pool [] h = refl
fields_good pool (m ∷ ms) h = lines_joined (apart (field_line m ∷ [])) (flat_map (λ n. apart (field_line n ∷ [])) ms) (and_again _ _ (field_good pool m (All-head (MemberFits pool) m ms h)) refl) (fields_good pool ms (All-tail (MemberFits pool) m ms h))

interfaces_good : (ns : List ℕ) → All IsU2 ns → all_good (map interface_line ns) ≡ true
unfolding is_good
interfaces_good [] h = refl
interfaces_good (n ∷ ns) h = and_again _ _ (u2_short n (All-head IsU2 n ns h)) (interfaces_good ns (All-tail IsU2 n ns h))

-- a method, with the length of its code
abbrev pub MethodFits : List Item → Member → Type 0
MethodFits pool m = MemberFits pool m × IfSome m.code (λ code. length code.bytes ≤ 65535)

method_good : (decode : Decoder) (pool : List Item) (m : Member) → MethodFits pool m → all_good (method_lines decode m) ≡ true
unfolding is_good
method_good decode pool m a = and_again _ _ (and_again _ _ (u2_short _ a.0.flags) (and_again _ _ (u2_short _ a.0.name) (u2_short _ a.0.desc))) (codes_good decode m.code (IfSome_then m.code a.0.code (λ c p. p.0)) a.1)

methods_good : (decode : Decoder) (pool : List Item) (ms : List Member) → All (MethodFits pool) ms → all_good_lines (flat_map (λ m. apart (method_lines decode m)) ms) ≡ true
methods_good decode pool [] h = refl
methods_good decode pool (m ∷ ms) h =
    lines_joined (apart (method_lines decode m)) (flat_map (λ n. apart (method_lines decode n)) ms) (some_good (method_lines decode m) (method_good decode pool m (All-head (MethodFits pool) m ms h))) (methods_good decode pool ms (All-tail (MethodFits pool) m ms h))

class_good : (flags this super : ℕ) (ns : List ℕ) → IsU2 flags → IsU2 this → IsU2 super → All IsU2 ns → all_good (lines.Class (pos flags) (numbered this) (class_shown super) ∷ map interface_line ns) ≡ true
unfolding is_good
class_good flags this super ns a b c d = and_again _ _ (and_again _ _ (u2_short flags a) (and_again _ _ (u2_short this b) (superclass_good super c))) (interfaces_good ns d)

version_good : (minor major : ℕ) → IsU2 minor → IsU2 major → is_good (lines.Version (pos minor) (pos major)) ≡ true
unfolding is_good
version_good minor major a b = and_again _ _ (u2_short minor a) (u2_short major b)

pub statements_good : (decode : Decoder) (parts : Parts) → NumbersFit parts → All (MethodFits parts.pool) parts.methods → all_good_lines (statements decode parts) ≡ true
unfolding statements
statements_good decode whole h ms =
    let few : length whole.pool < 65535 = h.count in
    and_again _ _ (version_good whole.minor whole.major h.minor h.major)
    (lines_joined (map Some (entries 1 whole.pool)) _ (some_good (entries 1 whole.pool) (entries_good false 1 whole.pool (omega arith) h.pool))
    (lines_joined (apart (lines.Class (pos whole.flags) (numbered whole.this_class) (class_shown whole.super_class) ∷ map interface_line whole.interfaces)) _
    (some_good (lines.Class (pos whole.flags) (numbered whole.this_class) (class_shown whole.super_class) ∷ map interface_line whole.interfaces) (class_good whole.flags whole.this_class whole.super_class whole.interfaces h.flags h.this_class h.super_class h.interfaces))
    (lines_joined (flat_map (λ m. apart (field_line m ∷ [])) whole.fields) _ (fields_good whole.pool whole.fields h.fields) (methods_good decode whole.pool whole.methods ms))))
