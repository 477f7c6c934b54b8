-- Switches whose padding is zero have lines of their own.
use Rattle.std.proofs.Common.{◌≡◌, ℕ, zero, suc, ◌+◌, ◌-◌, ◌*◌, ◌%◌, ◌<◌, ◌^◌, Bool, true, false, cond, List, ◌∷◌, ◌++◌, length, map, take, drop, Result, Ok, Err, refl, sym, ap, subst, ◌∙◌, arith}
use Rattle.std.specs.Prelude.{◌&&◌, ℤ, pos, negsuc, ◌+ℤ◌, ◌-ℤ◌, flat_map, FitsSigned, bytes_eq, nat_lt}
use Rattle.std.specs.Int.{w32}
use Rattle.std.specs.List.{list_all, range_with_len}
use Rattle.std.proofs.Math.IntN.{+ℤ_comm, +ℤ_idl}
use Rattle.std.proofs.lemmas.Int.{ints}
use Rattle.std.proofs.lemmas.List.{take_at, length-map, length-replicate}
use Rattle.std.proofs.lemmas.List.FromFn.{length-map-range_with_len}
use Rattle.std.proofs.lemmas.Slice.Eq.{bytes_eq-Decides}
use Rattle.mvm_base.specs.Bytes.{AreBytes}
use Rattle.mvm_base.specs.Place.{Place as Reading}
use Rattle.mvm_insn.specs.Opcodes.{operands_of}
use Rattle.mvm_insn.specs.Readers.{bytes, number, signed}
use Rattle.mvm_insn.specs.Rows.{SwitchParts, rows, word, table_row, lookup_row}
use Rattle.mvm_insn.specs.Insns.{counted, aligned, table_rows, table_parts, table, sorted, lookup_rows, lookup_parts, lookup, chosen}
use Rattle.mvm_insn.specs.declared.fault.InsnFault.{InsnFault}
use Rattle.mvm_insn.specs.declared.fault.InsnFault.TheVariants.{Switch}
use Rattle.mvm_insn.specs.declared.insn.Insn.{Insn}
use Rattle.mvm_insn.specs.declared.insn.Insn.TheVariants as insn
use Rattle.mvm_insn.specs.declared.switch_rows.SwitchRow.{SwitchRow}
use Rattle.mvm_insn.specs.declared.table.Operands.TheVariants as operands
use Rattle.mvm_statement.specs.Operands.{is_good_place}
use Rattle.mvm_statement.specs.Lines.{is_good_row}
use Rattle.mvm_statement.specs.Words.{shape_of}
use Rattle.mvm_statement.specs.Instructions.{has_shape}
use Rattle.mvm_statement.specs.Statements.{is_good}
use Rattle.mvm_statement.specs.declared.operand.KeyRow.{KeyRow}
use Rattle.mvm_statement.specs.declared.operand.Place.{Place}
use Rattle.mvm_statement.specs.declared.operand.Place.TheVariants.{At}
use Rattle.mvm_statement.specs.declared.instruction.Instruction.{Instruction as Line}
use Rattle.mvm_statement.specs.declared.instruction.Instruction.TheVariants.{Table, Lookup}
use Rattle.mvm_statement.specs.declared.statement.Statement.TheVariants as lines
use Rattle.mvm_listing.specs.declared.piece.Piece.TheVariants.{Own}
use Rattle.mvm_listing.specs.Range.{highest, is_i4}
use Rattle.mvm_listing.specs.Encoding.{u4, i4, padding, encoded}
use Rattle.mvm_listing.specs.Blocks.{fits_as}
use Rattle.mvm_listing.specs.Laws.{is_usual}
use Rattle.mvm_listing.specs.Disassembly.{own_place, is_within, gives, key_row, switch_line, is_table, line_of}
use Rattle.mvm_listing.proofs.Tests.{and_again}
use Rattle.mvm_listing.proofs.Numbers.{i4_fits, i4_short}
use Rattle.mvm_listing.proofs.Fronts.{Front, front_on, ok_is, bound, bytes_read, u4_read, i4_read}
use Rattle.mvm_listing.proofs.Words.{words_again, pairs_again, word_fits}
use Rattle.mvm_listing.proofs.Named.{Named, gives_again, encoded_is, offset_is, target_short}

-- ---- rows, one for each place

-- where the rows lead to
abbrev goals : (ℕ → SwitchRow) → ℕ → ℕ → List Place
goals f a n = map (λ row. At row.target) (map f (range_with_len a n))

all_goals : (f : ℕ → SwitchRow) (test : Place → Bool) (a n : ℕ) → ((i : ℕ) → test (At (f i).target) ≡ true) → list_all test (goals f a n) ≡ true
all_goals f test a zero h = refl
all_goals f test a (suc n) h = and_again _ _ (h a) (all_goals f test (a + 1) n h)

goals_length : (f : ℕ → SwitchRow) (a n : ℕ) → length (goals f a n) ≡ n
goals_length f a n = length-map (map f (range_with_len a n)) (λ (row : SwitchRow). At row.target) ∙ length-map-range_with_len f a n

goals_words : (pc : ℕ) (low : ℤ) (text : List ℕ) (a n : ℕ) → flat_map (λ t. i4 (own_place t -ℤ pos pc)) (goals (table_row pc low text) a n) ≡ flat_map (λ i. i4 (word text i)) (range_with_len a n)
goals_words pc low text a zero = refl
goals_words pc low text a (suc n) = rw (offset_is pc (word text a)) (ap (λ (xs : List ℕ). i4 (word text a) ++ xs) (goals_words pc low text (a + 1) n))

-- the rows with their keys
abbrev keyed : (ℕ → SwitchRow) → ℕ → ℕ → List KeyRow
keyed f a n = map key_row (map f (range_with_len a n))

all_keyed : (f : ℕ → SwitchRow) (test : KeyRow → Bool) (a n : ℕ) → ((i : ℕ) → test (key_row (f i)) ≡ true) → list_all test (keyed f a n) ≡ true
all_keyed f test a zero h = refl
all_keyed f test a (suc n) h = and_again _ _ (h a) (all_keyed f test (a + 1) n h)

keyed_goals : (f : ℕ → SwitchRow) (test : Place → Bool) (a n : ℕ) → ((i : ℕ) → test (At (f i).target) ≡ true) → list_all test (map (λ row. row.target) (keyed f a n)) ≡ true
keyed_goals f test a zero h = refl
keyed_goals f test a (suc n) h = and_again _ _ (h a) (keyed_goals f test (a + 1) n h)

keyed_length : (f : ℕ → SwitchRow) (a n : ℕ) → length (keyed f a n) ≡ n
keyed_length f a n = length-map (map f (range_with_len a n)) key_row ∙ length-map-range_with_len f a n

keyed_words : (pc : ℕ) (text : List ℕ) (a n : ℕ) → flat_map (λ row. i4 row.key ++ i4 (own_place row.target -ℤ pos pc)) (keyed (lookup_row pc text) a n) ≡ flat_map (λ i. i4 (word text (2 * i)) ++ i4 (word text (2 * i + 1))) (range_with_len a n)
keyed_words pc text a zero = refl
keyed_words pc text a (suc n) = rw (offset_is pc (word text (2 * a + 1))) (ap (λ (xs : List ℕ). (i4 (word text (2 * a)) ++ i4 (word text (2 * a + 1))) ++ xs) (keyed_words pc text (a + 1) n))

-- ---- tableswitch

lowest_is : (low : ℤ) → low +ℤ pos 0 ≡ low
lowest_is low = +ℤ_comm low (pos 0) ∙ +ℤ_idl low

highest_is : (low high : ℤ) (n : ℕ) → high -ℤ low ≡ pos n → (low +ℤ pos (suc n)) -ℤ pos 1 ≡ high
highest_is low high n e = omega (arith, ints)

within : (pc : ℕ) (line : Line) (n : ℤ) → FitsSigned w32 n → ((z : ℤ) → fits_as (Own line) z ≡ is_i4 z) → is_within line pc (At (pos pc +ℤ n)) ≡ true
within pc line n f same = rw (offset_is pc n, same n) (i4_fits n f)

table_gives : (pc op : ℕ) (offset low high : ℤ) (n : ℕ) (pad text : List ℕ) → operands_of op ≡ operands.Table → pc < 2 ^ 32 → FitsSigned w32 offset → FitsSigned w32 low → FitsSigned w32 high → high -ℤ low ≡ pos n
    → AreBytes text → length text ≡ 4 * suc n → pad ≡ padding pc
    → gives pc (switch_line true op (record { otherwise = pos pc +ℤ offset; rows = rows (suc n) (table_row pc low text) })) (op ∷ (pad ++ (i4 offset ++ (i4 low ++ (i4 high ++ text))))) ≡ true
unfolding rows encoded is_good has_shape shape_of
table_gives pc op offset low high n pad text e small fo fl fh span are size padded =
    let f = table_row pc low text in
    let ts = goals f 0 (suc n) in
    let line = Table op low ts (At (pos pc +ℤ offset)) in
    let line_is : switch_line true op (record { otherwise = pos pc +ℤ offset; rows = rows (suc n) f }) ≡ line = ap (λ (l : ℤ). Table op l ts (At (pos pc +ℤ offset))) (lowest_is low) in
    let top : highest low ts ≡ high = ap (λ (k : ℕ). (low +ℤ pos k) -ℤ pos 1) (goals_length f 0 (suc n)) ∙ highest_is low high n span in
    let words : flat_map (λ t. i4 (own_place t -ℤ pos pc)) ts ≡ text = goals_words pc low text 0 (suc n) ∙ words_again text 0 (suc n) are (size ∙ ap (λ (k : ℕ). 4 * k) (let z : suc n ≡ 0 + suc n = omega arith in z)) in
    let places : list_all is_good_place ts ≡ true = all_goals f is_good_place 0 (suc n) (λ i. target_short pc (word text i) small (word_fits text i)) in
    let good : is_good (lines.Instruction line) ≡ true = rw e (and_again _ _ refl (and_again _ _ (i4_short low fl) (and_again _ _ places (target_short pc offset small fo)))) in
    let fitting : (is_i4 low && is_i4 (highest low ts)) ≡ true = rw top (and_again _ _ (i4_fits low fl) (i4_fits high fh)) in
    let targets : list_all (is_within line pc) (At (pos pc +ℤ offset) ∷ ts) ≡ true = and_again _ _ (within pc line offset fo (λ z. refl)) (all_goals f (is_within line pc) 0 (suc n) (λ i. within pc line (word text i) (word_fits text i) (λ z. refl))) in
    let made : encoded own_place pc line ≡ op ∷ (pad ++ (i4 offset ++ (i4 low ++ (i4 high ++ text)))) = rw (offset_is pc offset, top, words, padded) refl in
    subst (λ (l : Line). gives pc l (op ∷ (pad ++ (i4 offset ++ (i4 low ++ (i4 high ++ text))))) ≡ true) (sym line_is) (gives_again pc line _ good fitting refl targets made)

counted_is : (z : ℤ) (count : ℕ) → counted z ≡ Ok count → (n : ℕ) × (z ≡ pos n) × (suc n ≡ count)
counted_is (pos n) count h = let e : n + 1 ≡ count = ok_is (n + 1) count h in (n, refl, omega (arith, e))
counted_is (negsuc n) count h = absurd cc

-- the padding, which stands behind the opcode, is zero
padding_is : (pc : ℕ) (pad rest : List ℕ) → length pad ≡ 3 - pc % 4 → bytes_eq (take (3 - pc % 4) (pad ++ rest)) (padding pc) ≡ true → pad ≡ padding pc
padding_is pc pad rest n u =
    let e : take (3 - pc % 4) (pad ++ rest) ≡ padding pc = (bytes_eq-Decides _ _).0 u in
    sym (take_at pad rest (3 - pc % 4) n) ∙ e

-- the bytes of a switch's line have a padding of zeros
usual_front : (pc op : ℕ) (rest : List ℕ) → bytes_eq (take (3 - pc % 4) (drop 1 (op ∷ (padding pc ++ rest)))) (padding pc) ≡ true
usual_front pc op rest = (bytes_eq-Decides _ _).1 (take_at (padding pc) rest (3 - pc % 4) (length-replicate (3 - pc % 4) 0))

usual_switch : (b : Bool) (pc op : ℕ) (x : SwitchParts) (bytes : List ℕ) → gives pc (switch_line b op x) bytes ≡ true → is_usual pc (insn.Choice op x) bytes ≡ true
unfolding encoded
usual_switch true pc op x bytes h = subst (λ (t : List ℕ). bytes_eq (take (3 - pc % 4) (drop 1 t)) (padding pc) ≡ true) (encoded_is pc (switch_line true op x) bytes h) (usual_front pc op _)
usual_switch false pc op x bytes h = subst (λ (t : List ℕ). bytes_eq (take (3 - pc % 4) (drop 1 t)) (padding pc) ≡ true) (encoded_is pc (switch_line false op x) bytes h) (usual_front pc op _)

-- the bytes in front of a switch, and what follows
record Padded (pc : ℕ) (p : Reading) (q : Reading) : Type 0 where
  pad : List ℕ
  front : Front p pad q
  size : length pad ≡ 3 - pc % 4

padded_is : (pc : ℕ) (p q : Reading) → AreBytes p.rest → aligned pc p ≡ Ok q → Padded pc p q
padded_is pc p q b h =
    let a = bound (bytes (3 - pc % 4) p) _ q h in
    let r = bytes_read (3 - pc % 4) p a.0 b a.1 in
    subst (Padded pc p) (ok_is a.0.1 q a.2) (record { pad = a.0.0; front = r.front; size = r.size })

pub table_named : (pc op : ℕ) (p : Reading) (y : Insn × Reading) → AreBytes p.rest → pc < 2 ^ 32 → operands_of op ≡ operands.Table → chosen op (table pc p) ≡ Ok y → Named pc op p y
unfolding table table_parts table_rows line_of
table_named pc op p y b small e h = by (table pc p) refl h
  where
    by : (r : Result (SwitchParts × Reading) InsnFault) → table pc p ≡ r → chosen op r ≡ Ok y → Named pc op p y
    by (Err fault) k c = absurd cc
    by (Ok x) k c =
        let a = bound (aligned pc p) (table_parts pc) x k in
        let pad = padded_is pc p a.0 b a.1 in
        let o = bound (signed 4 w32 a.0) _ x a.2 in
        let one = i4_read a.0 o.0 pad.front.left o.1 in
        let l = bound (signed 4 w32 o.0.1) _ x o.2 in
        let two = i4_read o.0.1 l.0 one.0.left l.1 in
        let t = bound (signed 4 w32 l.0.1) _ x l.2 in
        let three = i4_read l.0.1 t.0 two.0.left t.1 in
        let c1 = bound (counted (t.0.0 -ℤ l.0.0)) _ x t.2 in
        let n = counted_is (t.0.0 -ℤ l.0.0) c1.0 c1.1 in
        let w = bound (bytes (4 * c1.0) t.0.1) _ x c1.2 in
        let four = bytes_read (4 * c1.0) t.0.1 w.0 three.0.left w.1 in
        let text = i4 o.0.0 ++ (i4 l.0.0 ++ (i4 t.0.0 ++ w.0.0)) in
        let front : Front p (pad.pad ++ text) w.0.1 =
        front_on p a.0 w.0.1 pad.pad text pad.front (
        front_on a.0 o.0.1 w.0.1 (i4 o.0.0) (i4 l.0.0 ++ (i4 t.0.0 ++ w.0.0)) one.0 (
        front_on o.0.1 l.0.1 w.0.1 (i4 l.0.0) (i4 t.0.0 ++ w.0.0) two.0 (front_on l.0.1 t.0.1 w.0.1 (i4 t.0.0) w.0.0 three.0 four.front))) in
        let parts : SwitchParts = record { otherwise = pos pc +ℤ o.0.0; rows = rows c1.0 (table_row pc l.0.0 w.0.0) } in
        let size : length w.0.0 ≡ 4 * suc n.0 = four.size ∙ ap (λ (k : ℕ). 4 * k) (sym n.2) in
        let made : Named pc op p (insn.Choice op parts, w.0.1) = record {
          text = pad.pad ++ text;
          front = front;
          usual = λ g. usual_switch (is_table (operands_of op)) pc op parts (op ∷ (pad.pad ++ text)) g;
          named = λ u. rw e (subst (λ (k : ℕ). gives pc (switch_line true op (record { otherwise = pos pc +ℤ o.0.0; rows = rows k (table_row pc l.0.0 w.0.0) })) (op ∷ (pad.pad ++ text)) ≡ true) n.2
              (table_gives pc op o.0.0 l.0.0 t.0.0 n.0 pad.pad w.0.0 e small one.1 two.1 three.1 n.1 four.are size (padding_is pc pad.pad text pad.size u)));
        } in
        let end : Named pc op p (insn.Choice op x.0, x.1) = subst (λ (z : SwitchParts × Reading). Named pc op p (insn.Choice op z.0, z.1)) (ok_is (parts, w.0.1) x w.2) made in
        subst (Named pc op p) (ok_is (insn.Choice op x.0, x.1) y c) end

-- ---- lookupswitch

lookup_gives : (pc op : ℕ) (offset : ℤ) (n : ℕ) (pad text : List ℕ) → operands_of op ≡ operands.Lookup → pc < 2 ^ 32 → FitsSigned w32 offset → AreBytes text → length text ≡ 8 * n → pad ≡ padding pc
    → gives pc (switch_line false op (record { otherwise = pos pc +ℤ offset; rows = rows n (lookup_row pc text) })) (op ∷ (pad ++ (i4 offset ++ (u4 n ++ text)))) ≡ true
unfolding rows encoded is_good has_shape shape_of
lookup_gives pc op offset n pad text e small fo are size padded =
    let f = lookup_row pc text in
    let rs = keyed f 0 n in
    let line = Lookup op rs (At (pos pc +ℤ offset)) in
    let words : flat_map (λ row. i4 row.key ++ i4 (own_place row.target -ℤ pos pc)) rs ≡ text = keyed_words pc text 0 n ∙ pairs_again text 0 n are (size ∙ ap (λ (k : ℕ). 8 * k) (let z : n ≡ 0 + n = omega arith in z)) in
    let count : length rs ≡ n = keyed_length f 0 n in
    let good_rows : list_all is_good_row rs ≡ true = all_keyed f is_good_row 0 n (λ i. and_again _ _ (i4_short (word text (2 * i)) (word_fits text (2 * i))) (target_short pc (word text (2 * i + 1)) small (word_fits text (2 * i + 1)))) in
    let good : is_good (lines.Instruction line) ≡ true = rw e (and_again _ _ refl (and_again _ _ good_rows (target_short pc offset small fo))) in
    let fitting : list_all (λ row. is_i4 row.key) rs ≡ true = all_keyed f (λ row. is_i4 row.key) 0 n (λ i. i4_fits (word text (2 * i)) (word_fits text (2 * i))) in
    let targets : list_all (is_within line pc) (At (pos pc +ℤ offset) ∷ map (λ row. row.target) rs) ≡ true = and_again _ _ (within pc line offset fo (λ z. refl))
    (keyed_goals f (is_within line pc) 0 n (λ i. within pc line (word text (2 * i + 1)) (word_fits text (2 * i + 1)) (λ z. refl))) in
    let made : encoded own_place pc line ≡ op ∷ (pad ++ (i4 offset ++ (u4 n ++ text))) = rw (offset_is pc offset, count, words, padded) refl in
    gives_again pc line _ good fitting refl targets made

sorted_is : (c : Bool) (z x : SwitchParts × Reading) → sorted c z ≡ Ok x → z ≡ x
sorted_is true z x h = ok_is z x h
sorted_is false z x h = absurd cc

passed : (c : Bool) (r : Result (SwitchParts × Reading) InsnFault) (x : SwitchParts × Reading) → cond c r (Err Switch) ≡ Ok x → r ≡ Ok x
passed true r x h = h
passed false r x h = absurd cc

pub lookup_named : (pc op : ℕ) (p : Reading) (y : Insn × Reading) → AreBytes p.rest → pc < 2 ^ 32 → operands_of op ≡ operands.Lookup → chosen op (lookup pc p) ≡ Ok y → Named pc op p y
unfolding lookup lookup_parts lookup_rows line_of
lookup_named pc op p y b small e h = by (lookup pc p) refl h
  where
    by : (r : Result (SwitchParts × Reading) InsnFault) → lookup pc p ≡ r → chosen op r ≡ Ok y → Named pc op p y
    by (Err fault) k c = absurd cc
    by (Ok x) k c =
        let a = bound (aligned pc p) (lookup_parts pc) x k in
        let pad = padded_is pc p a.0 b a.1 in
        let o = bound (signed 4 w32 a.0) _ x a.2 in
        let one = i4_read a.0 o.0 pad.front.left o.1 in
        let n = bound (number 4 o.0.1) _ x o.2 in
        let two = u4_read o.0.1 n.0 one.0.left n.1 in
        let inner = passed (nat_lt n.0.0 (2 ^ 31)) _ x n.2 in
        let w = bound (bytes (8 * n.0.0) n.0.1) _ x inner in
        let three = bytes_read (8 * n.0.0) n.0.1 w.0 two.front.left w.1 in
        let text = i4 o.0.0 ++ (u4 n.0.0 ++ w.0.0) in
        let front : Front p (pad.pad ++ text) w.0.1 =
        front_on p a.0 w.0.1 pad.pad text pad.front (
        front_on a.0 o.0.1 w.0.1 (i4 o.0.0) (u4 n.0.0 ++ w.0.0) one.0 (front_on o.0.1 n.0.1 w.0.1 (u4 n.0.0) w.0.0 two.front three.front)) in
        let parts : SwitchParts = record { otherwise = pos pc +ℤ o.0.0; rows = rows n.0.0 (lookup_row pc w.0.0) } in
        let made : Named pc op p (insn.Choice op parts, w.0.1) = record {
          text = pad.pad ++ text;
          front = front;
          usual = λ g. usual_switch (is_table (operands_of op)) pc op parts (op ∷ (pad.pad ++ text)) g;
          named = λ u. rw e (lookup_gives pc op o.0.0 n.0.0 pad.pad w.0.0 e small one.1 three.are three.size (padding_is pc pad.pad text pad.size u));
        } in
        let end : Named pc op p (insn.Choice op x.0, x.1) = subst (λ (z : SwitchParts × Reading). Named pc op p (insn.Choice op z.0, z.1)) (sorted_is _ (parts, w.0.1) x w.2) made in
        subst (Named pc op p) (ok_is (insn.Choice op x.0, x.1) y c) end
