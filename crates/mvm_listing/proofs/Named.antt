-- Instructions in their usual spelling have lines of their own: those but the switches.
use Rattle.std.proofs.Common.{◌≡◌, ℕ, suc, ◌%◌, ◌<◌, ◌^◌, Bool, true, false, cond, not, List, [], ◌∷◌, ◌++◌, Ok, Err, refl, sym, ap, subst, ◌∙◌, arith}
use Rattle.std.specs.Prelude.{◌==◌, ◌||◌, ℤ, pos, negsuc, ◌+ℤ◌, ◌-ℤ◌, FitsSigned, nat_lt, nat_le}
use Rattle.std.specs.Int.{w8, w16, w32}
use Rattle.std.specs.List.{list_all}
use Rattle.std.proofs.Math.IntN.{+ℤ-neg_ℤ_cancel, +ℤ_comm}
use Rattle.std.proofs.lemmas.Bool.{eqb-true, eq-eqb, lt-ltb, le-ltb, le-leb, ltb-false}
use Rattle.std.proofs.lemmas.Int.{ints}
use Rattle.std.proofs.lemmas.Slice.Eq.{bytes_eq-Decides}
use borrow.Author.Differences.{fits_out}
use Rattle.mvm_base.specs.Bytes.{AreBytes}
use Rattle.mvm_base.specs.Place.{Place}
use Rattle.mvm_classfile.specs.Kept.{IsU1, IsU2}
use Rattle.mvm_insn.specs.Opcodes.{names_local, operands_of}
use Rattle.mvm_insn.specs.Readers.{number, signed}
use Rattle.mvm_insn.specs.Insns.{byte_number, short_number, byte_pool, short_pool, byte_local, short_local, increment, wide_increment, short_jump, long_jump, invocation, items, dimensions, widened_by, widened}
use Rattle.mvm_insn.specs.declared.fault.InsnFault.{InsnFault}
use Rattle.mvm_insn.specs.declared.fault.InsnFault.TheVariants.{Unknown, Unsupported}
use Rattle.mvm_insn.specs.declared.insn.Insn.{Insn}
use Rattle.mvm_insn.specs.declared.insn.Insn.TheVariants as insn
use Rattle.mvm_insn.specs.declared.opcodes.TheConstants as jvm
use Rattle.mvm_insn.specs.declared.table.Operands.TheVariants as operands
use Rattle.mvm_statement.specs.Numbers.{is_short}
use Rattle.mvm_statement.specs.Words.{shape_of}
use Rattle.mvm_statement.specs.Instructions.{has_shape}
use Rattle.mvm_statement.specs.Statements.{is_good}
use Rattle.mvm_statement.specs.declared.operand.Reference.TheVariants as references
use Rattle.mvm_statement.specs.declared.operand.Member.TheVariants as members
use Rattle.mvm_statement.specs.declared.operand.Loadable.TheVariants as loadables
use Rattle.mvm_statement.specs.declared.operand.LongConstant.TheVariants as longs
use Rattle.mvm_statement.specs.declared.operand.Place.TheVariants.{At}
use Rattle.mvm_statement.specs.declared.instruction.Instruction.{Instruction as Line}
use Rattle.mvm_statement.specs.declared.instruction.Instruction.TheVariants.{Plain, Push, Load, LoadLong, OfClass, OfMember, Local, Increment, Jump, Invocation, Items, Dimensions}
use Rattle.mvm_statement.specs.declared.statement.Statement.TheVariants as lines
use Rattle.mvm_listing.specs.declared.piece.Piece.TheVariants.{Own}
use Rattle.mvm_listing.specs.Range.{fits, takes_wide}
use Rattle.mvm_listing.specs.Encoding.{u1, u2, i1, i2, i4, encoded, targets_of}
use Rattle.mvm_listing.specs.Disassembly.{own_place, is_indexed, is_within, gives, pool_line, line_of}
use Rattle.mvm_listing.specs.Laws.{is_usual}
use Rattle.mvm_listing.proofs.Tests.{parts, and_again, append_none}
use Rattle.mvm_listing.proofs.Numbers.{u1_fits, u2_fits, i1_fits, i2_fits, i4_fits, u1_short, u2_short, i1_short, i2_short}
use Rattle.mvm_listing.proofs.Fronts.{Front, front_on, front_here, ok_is, bound, u1_read, u2_read, i1_read, i2_read, i4_read}
use Rattle.mvm_listing.proofs.Opcodes.{op_agrees, names_local_is, increment_is}

-- the bytes behind an opcode; the line of the instruction is assembled to them exactly where they are in their usual spelling
pub record Named (pc op : ℕ) (p : Place) (y : Insn × Place) : Type 0 where
  pub text : List ℕ
  pub front : Front p text y.1
  pub named : is_usual pc y.0 (op ∷ text) ≡ true → gives pc (line_of y.0) (op ∷ text) ≡ true
  pub usual : gives pc (line_of y.0) (op ∷ text) ≡ true → is_usual pc y.0 (op ∷ text) ≡ true

pub gives_again : (at : ℕ) (line : Line) (bytes : List ℕ) → is_good (lines.Instruction line) ≡ true → fits [] (lines.Instruction line) ≡ true → is_indexed line ≡ true
    → list_all (is_within line at) (targets_of (Own line)) ≡ true → encoded own_place at line ≡ bytes → gives at line bytes ≡ true
unfolding gives
gives_again at line bytes g f i t e = and_again _ _ g (and_again _ _ f (and_again _ _ i (and_again _ _ t ((bytes_eq-Decides (encoded own_place at line) bytes).1 e))))

-- what a line that gives some bytes is assembled to
pub encoded_is : (at : ℕ) (line : Line) (bytes : List ℕ) → gives at line bytes ≡ true → encoded own_place at line ≡ bytes
unfolding gives
encoded_is at line bytes h =
    let a = parts (is_good (lines.Instruction line)) _ h in
    let b = parts (fits [] (lines.Instruction line)) _ a.1 in
    let c = parts (is_indexed line) _ b.1 in
    let d = parts (list_all (is_within line at) (targets_of (Own line))) _ c.1 in
    (bytes_eq-Decides (encoded own_place at line) bytes).0 d.1

-- of five bytes the last
last_byte : (a b c d x y : ℕ) → a ∷ b ∷ c ∷ d ∷ x ∷ [] ≡ a ∷ b ∷ c ∷ d ∷ y ∷ [] → x ≡ y
last_byte a b c d x y e = cc

pub u1_is : (n : ℕ) → IsU1 n → u1 n ≡ n ∷ []
u1_is n h = ap (λ (k : ℕ). k ∷ []) (let e : n % 256 ≡ n = omega arith in e)

-- ---- alone, and numbers

pub alone : (pc op : ℕ) (p : Place) → AreBytes p.rest → operands_of op ≡ operands.Alone → Named pc op p (insn.Plain op, p)
unfolding line_of encoded is_good has_shape shape_of
alone pc op p b e = record { text = []; front = front_here p b; usual = λ g. refl; named = λ u. gives_again pc (Plain op) (op ∷ []) (rw e refl) refl refl refl refl }

pub byte_number_named : (pc op : ℕ) (p : Place) (y : Insn × Place) → AreBytes p.rest → operands_of op ≡ operands.ByteNumber → byte_number op p ≡ Ok y → Named pc op p y
unfolding byte_number line_of encoded is_good has_shape shape_of
byte_number_named pc op p y b e h =
    let r = bound (signed 1 w8 p) _ y h in
    let n = i1_read p r.0 b r.1 in
    let made : Named pc op p (insn.Number op r.0.0, r.0.1) = record {
      text = i1 r.0.0;
      front = n.0;
      usual = λ g. refl;
      named = λ u. gives_again pc (Push op r.0.0) (op ∷ i1 r.0.0) (rw e (i1_short r.0.0 n.1)) (rw e (i1_fits r.0.0 n.1)) refl refl (rw e refl);
    } in
    subst (Named pc op p) (ok_is _ y r.2) made

pub short_number_named : (pc op : ℕ) (p : Place) (y : Insn × Place) → AreBytes p.rest → operands_of op ≡ operands.ShortNumber → short_number op p ≡ Ok y → Named pc op p y
unfolding short_number line_of encoded is_good has_shape shape_of
short_number_named pc op p y b e h =
    let r = bound (signed 2 w16 p) _ y h in
    let n = i2_read p r.0 b r.1 in
    let made : Named pc op p (insn.Number op r.0.0, r.0.1) = record {
      text = i2 r.0.0;
      front = n.0;
      usual = λ g. refl;
      named = λ u. gives_again pc (Push op r.0.0) (op ∷ i2 r.0.0) (rw e (i2_short r.0.0 n.1)) (rw e (i2_fits r.0.0 n.1)) refl refl (rw e refl);
    } in
    subst (Named pc op p) (ok_is _ y r.2) made

-- ---- entries of the constant pool

ldc_gives : (pc op n : ℕ) → IsU1 n → operands_of op ≡ operands.BytePool → gives pc (pool_line op n) (op ∷ u1 n) ≡ true
unfolding encoded is_good has_shape shape_of
ldc_gives pc op n h e =
    let l : pool_line op n ≡ Load op (loadables.Indexed (pos n)) = rw (op_agrees op operands.BytePool e) refl in
    subst (λ (line : Line). gives pc line (op ∷ u1 n) ≡ true) (sym l) (gives_again pc (Load op (loadables.Indexed (pos n))) (op ∷ u1 n) (rw e (u1_short n h)) (rw e (u1_fits n h)) refl refl (rw e refl))

pub byte_pool_named : (pc op : ℕ) (p : Place) (y : Insn × Place) → AreBytes p.rest → operands_of op ≡ operands.BytePool → byte_pool op p ≡ Ok y → Named pc op p y
unfolding byte_pool line_of
byte_pool_named pc op p y b e h =
    let r = bound (number 1 p) _ y h in
    let n = u1_read p r.0 b r.1 in
    let made : Named pc op p (insn.Pool op r.0.0, r.0.1) = record { text = u1 r.0.0; front = n.front; usual = λ g. refl; named = λ u. ldc_gives pc op r.0.0 n.low e } in
    subst (Named pc op p) (ok_is _ y r.2) made

not_true : (b : Bool) → not b ≡ true → b ≡ false
not_true true h = absurd cc
not_true false h = refl

pool_gives : (pc op n : ℕ) → IsU2 n → operands_of op ≡ operands.ShortPool → (op == jvm.LDC) ≡ false → gives pc (pool_line op n) (op ∷ u2 n) ≡ true
unfolding encoded is_good has_shape shape_of
pool_gives pc op n h e plain = by (op == jvm.LDC_W) refl (op == jvm.LDC2_W) refl (op == jvm.NEW || op == jvm.ANEWARRAY || op == jvm.CHECKCAST || op == jvm.INSTANCEOF) refl
  where
    of_line : (line : Line) → pool_line op n ≡ line → gives pc line (op ∷ u2 n) ≡ true → gives pc (pool_line op n) (op ∷ u2 n) ≡ true
    of_line line l g = subst (λ (z : Line). gives pc z (op ∷ u2 n) ≡ true) (sym l) g

    by : (a : Bool) → (op == jvm.LDC_W) ≡ a → (b : Bool) → (op == jvm.LDC2_W) ≡ b → (c : Bool) → (op == jvm.NEW || op == jvm.ANEWARRAY || op == jvm.CHECKCAST || op == jvm.INSTANCEOF) ≡ c → gives pc (pool_line op n) (op ∷ u2 n) ≡ true
    by true t b u c v = of_line (Load op (loadables.Indexed (pos n))) (rw (plain, t) refl) (gives_again pc (Load op (loadables.Indexed (pos n))) (op ∷ u2 n) (rw (e, t) (u2_short n h)) (rw e (u2_fits n h)) refl refl (rw e refl))
    by false t true u c v = of_line (LoadLong op (longs.Indexed (pos n))) (rw (plain, t, u) refl) (gives_again pc (LoadLong op (longs.Indexed (pos n))) (op ∷ u2 n) (rw (e, t, u) (u2_short n h)) (u2_fits n h) refl refl refl)
    by false t false u true v = of_line (OfClass op (references.Indexed (pos n))) (rw (plain, t, u, v) refl) (gives_again pc (OfClass op (references.Indexed (pos n))) (op ∷ u2 n) (rw (e, t, u, v) (u2_short n h)) (u2_fits n h) refl refl refl)
    by false t false u false v = of_line (OfMember op (members.Indexed (pos n))) (rw (plain, t, u, v) refl) (gives_again pc (OfMember op (members.Indexed (pos n))) (op ∷ u2 n) (rw (e, t, u, v) (u2_short n h)) (u2_fits n h) refl refl refl)

pub short_pool_named : (pc op : ℕ) (p : Place) (y : Insn × Place) → AreBytes p.rest → operands_of op ≡ operands.ShortPool → short_pool op p ≡ Ok y → Named pc op p y
unfolding short_pool line_of
short_pool_named pc op p y b e h =
    let r = bound (number 2 p) _ y h in
    let n = u2_read p r.0 b r.1 in
    let made : Named pc op p (insn.Pool op r.0.0, r.0.1) = record { text = u2 r.0.0; front = n.front; usual = λ g. refl; named = λ u. pool_gives pc op r.0.0 n.low e (not_true _ (op_agrees op operands.ShortPool e)) } in
    subst (Named pc op p) (ok_is _ y r.2) made

-- ---- local variables

narrow : (n : ℕ) → IsU1 n → nat_lt 255 n ≡ false
narrow n h = le-ltb 255 n (let l : n < 256 = h in omega arith)

u1_u2 : (n : ℕ) → IsU1 n → IsU2 n
u1_u2 n h = omega arith

-- an index that wants it, or one that has it without need
wide_taken : (n : ℕ) → takes_wide (nat_le n 255) (pos n) ≡ true
wide_taken n = by (nat_lt 255 n) refl
  where
    by : (b : Bool) → nat_lt 255 n ≡ b → (nat_le n 255 || b) ≡ true
    by true t = or_true (nat_le n 255)
      where
        or_true : (c : Bool) → (c || true) ≡ true
        or_true true = refl
        or_true false = refl
    by false t = rw (le-leb n 255 (ltb-false 255 n t)) refl

pub byte_local_named : (pc op : ℕ) (p : Place) (y : Insn × Place) → AreBytes p.rest → operands_of op ≡ operands.ByteLocal → byte_local op p ≡ Ok y → Named pc op p y
unfolding byte_local line_of encoded is_good has_shape shape_of
byte_local_named pc op p y b e h =
    let r = bound (number 1 p) _ y h in
    let n = u1_read p r.0 b r.1 in
    let l : IsU1 r.0.0 = n.low in
    let made : Named pc op p (insn.Local op r.0.0 false, r.0.1) = record {
      text = u1 r.0.0;
      front = n.front;
      usual = λ g. refl;
      named = λ u. gives_again pc (Local op (pos r.0.0) false) (op ∷ u1 r.0.0) (rw e (u1_short r.0.0 l)) (u2_fits r.0.0 (u1_u2 r.0.0 l)) refl refl (rw (narrow r.0.0 l) (ap (λ (xs : List ℕ). op ∷ xs) (append_none (u1 r.0.0))));
    } in
    subst (Named pc op p) (ok_is _ y r.2) made

pub increment_named : (pc op : ℕ) (p : Place) (y : Insn × Place) → AreBytes p.rest → operands_of op ≡ operands.Increment → increment p ≡ Ok y → Named pc op p y
unfolding increment line_of encoded is_good has_shape shape_of
increment_named pc op p y b e h =
    let o : op ≡ jvm.IINC = eqb-true _ _ (op_agrees op operands.Increment e) in
    let r = bound (number 1 p) _ y h in
    let n = u1_read p r.0 b r.1 in
    let s = bound (signed 1 w8 r.0.1) _ y r.2 in
    let m = i1_read r.0.1 s.0 n.front.left s.1 in
    let l : IsU1 r.0.0 = n.low in
    let made : Named pc jvm.IINC p (insn.Inc r.0.0 s.0.0 false, s.0.1) = record {
      text = u1 r.0.0 ++ i1 s.0.0;
      front = front_on p r.0.1 s.0.1 (u1 r.0.0) (i1 s.0.0) n.front m.0;
      usual = λ g. refl;
      named = λ u. gives_again pc (Increment jvm.IINC (pos r.0.0) s.0.0 false) (jvm.IINC ∷ (u1 r.0.0 ++ i1 s.0.0)) (rw increment_is (and_again _ _ (u1_short r.0.0 l) (i1_short s.0.0 m.1)))
          (rw (narrow r.0.0 l) (and_again _ _ (u2_fits r.0.0 (u1_u2 r.0.0 l)) (i1_fits s.0.0 m.1))) refl refl (rw (narrow r.0.0 l) refl);
    } in
    subst (λ (k : ℕ). Named pc k p y) (sym o) (subst (Named pc jvm.IINC p) (ok_is _ y s.2) made)

-- what stands behind wide
wide_local : (pc : ℕ) (op : ℕ) (p : Place) (y : Insn × Place) → AreBytes p.rest → operands_of op ≡ operands.ByteLocal → short_local op p ≡ Ok y
    → (text : List ℕ) × Front p text y.1 × (gives pc (line_of y.0) (jvm.WIDE ∷ op ∷ text) ≡ true) × (is_usual pc y.0 (jvm.WIDE ∷ op ∷ text) ≡ true)
unfolding short_local line_of encoded is_good has_shape shape_of
wide_local pc op p y b e h =
    let r = bound (number 2 p) _ y h in
    let n = u2_read p r.0 b r.1 in
    let l : IsU2 r.0.0 = n.low in
    let g : gives pc (Local op (pos r.0.0) (nat_le r.0.0 255)) (jvm.WIDE ∷ op ∷ u2 r.0.0) ≡ true = gives_again pc (Local op (pos r.0.0) (nat_le r.0.0 255)) (jvm.WIDE ∷ op ∷ u2 r.0.0) (rw e (u2_short r.0.0 l)) (u2_fits r.0.0 l) refl refl
    (rw (wide_taken r.0.0) (ap (λ (xs : List ℕ). jvm.WIDE ∷ op ∷ xs) (append_none (u2 r.0.0)))) in
    subst (λ (z : Insn × Place). (text : List ℕ) × Front p text z.1 × (gives pc (line_of z.0) (jvm.WIDE ∷ op ∷ text) ≡ true) × (is_usual pc z.0 (jvm.WIDE ∷ op ∷ text) ≡ true)) (ok_is _ y r.2) (u2 r.0.0, n.front, g, refl)

wide_inc : (pc : ℕ) (p : Place) (y : Insn × Place) → AreBytes p.rest → wide_increment p ≡ Ok y → (text : List ℕ) × Front p text y.1 × (gives pc (line_of y.0) (jvm.WIDE ∷ jvm.IINC ∷ text) ≡ true) × (is_usual pc y.0 (jvm.WIDE ∷ jvm.IINC ∷ text) ≡ true)
unfolding wide_increment line_of encoded is_good has_shape shape_of
wide_inc pc p y b h =
    let r = bound (number 2 p) _ y h in
    let n = u2_read p r.0 b r.1 in
    let s = bound (signed 2 w16 r.0.1) _ y r.2 in
    let m = i2_read r.0.1 s.0 n.front.left s.1 in
    let l : IsU2 r.0.0 = n.low in
    let line = Increment jvm.IINC (pos r.0.0) s.0.0 (nat_le r.0.0 255) in
    let g : gives pc line (jvm.WIDE ∷ jvm.IINC ∷ (u2 r.0.0 ++ i2 s.0.0)) ≡ true = gives_again pc line (jvm.WIDE ∷ jvm.IINC ∷ (u2 r.0.0 ++ i2 s.0.0)) (rw increment_is (and_again _ _ (u2_short r.0.0 l) (i2_short s.0.0 m.1)))
    (rw (wide_taken r.0.0) (and_again _ _ (u2_fits r.0.0 l) (i2_fits s.0.0 m.1))) refl refl (rw (wide_taken r.0.0) refl) in
    subst (λ (z : Insn × Place). (text : List ℕ) × Front p text z.1 × (gives pc (line_of z.0) (jvm.WIDE ∷ jvm.IINC ∷ text) ≡ true) × (is_usual pc z.0 (jvm.WIDE ∷ jvm.IINC ∷ text) ≡ true)) (ok_is _ y s.2) (u2 r.0.0 ++ i2 s.0.0, front_on p r.0.1 s.0.1 (u2 r.0.0) (i2 s.0.0) n.front m.0, g, refl)

wide_any : (pc op : ℕ) (p : Place) (y : Insn × Place) → AreBytes p.rest → widened_by op p ≡ Ok y → (text : List ℕ) × Front p text y.1 × (gives pc (line_of y.0) (jvm.WIDE ∷ op ∷ text) ≡ true) × (is_usual pc y.0 (jvm.WIDE ∷ op ∷ text) ≡ true)
unfolding widened_by
wide_any pc op p y b h = by (names_local op) refl (op == jvm.IINC) refl h
  where
    refused : (c : Bool) (one other : InsnFault) → cond c (Err one) (Err other) ≡ Ok y → ⊥
    refused true one other k = cc
    refused false one other k = cc

    by : (a : Bool) → names_local op ≡ a → (c : Bool) → (op == jvm.IINC) ≡ c → cond a (short_local op p) (cond c (wide_increment p) (cond (op == jvm.FLOAD || op == jvm.DLOAD || op == jvm.FSTORE || op == jvm.DSTORE || op == jvm.RET) (Err (Unsupported op)) (Err (Unknown op)))) ≡ Ok y
        → (text : List ℕ) × Front p text y.1 × (gives pc (line_of y.0) (jvm.WIDE ∷ op ∷ text) ≡ true) × (is_usual pc y.0 (jvm.WIDE ∷ op ∷ text) ≡ true)
    by true t c u k = wide_local pc op p y b (names_local_is op t) k
    by false t true u k = subst (λ (o : ℕ). (text : List ℕ) × Front p text y.1 × (gives pc (line_of y.0) (jvm.WIDE ∷ o ∷ text) ≡ true) × (is_usual pc y.0 (jvm.WIDE ∷ o ∷ text) ≡ true)) (sym (eqb-true op jvm.IINC u)) (wide_inc pc p y b k)
    by false t false u k = absurd (refused _ (Unsupported op) (Unknown op) k)

pub widened_named : (pc op : ℕ) (p : Place) (y : Insn × Place) → AreBytes p.rest → operands_of op ≡ operands.Widened → widened p ≡ Ok y → Named pc op p y
unfolding widened
widened_named pc op p y b e h =
    let o : op ≡ jvm.WIDE = eqb-true _ _ (op_agrees op operands.Widened e) in
    let r = bound (number 1 p) _ y h in
    let n = u1_read p r.0 b r.1 in
    let w = wide_any pc r.0.0 r.0.1 y n.front.left r.2 in
    let one : Front p (r.0.0 ∷ []) r.0.1 = subst (λ (t : List ℕ). Front p t r.0.1) (u1_is r.0.0 n.low) n.front in
    let made : Named pc jvm.WIDE p y = record { text = r.0.0 ∷ w.0; front = front_on p r.0.1 y.1 (r.0.0 ∷ []) w.0 one w.1; named = λ u. w.2; usual = λ g. w.3 } in
    subst (λ (k : ℕ). Named pc k p y) (sym o) made

-- ---- jumps

-- an offset from a place, and back
pub offset_is : (pc : ℕ) (n : ℤ) → (pos pc +ℤ n) -ℤ pos pc ≡ n
offset_is pc n = ap (λ (z : ℤ). z -ℤ pos pc) (+ℤ_comm (pos pc) n) ∙ +ℤ-neg_ℤ_cancel n (pos pc)

short_sum : (z n : ℤ) (pc : ℕ) → z ≡ pos pc +ℤ n → pc < 2 ^ 32 → FitsSigned w32 n → is_short z ≡ true
short_sum (pos m) n pc e h f = lt-ltb m (2 ^ 64) (omega (arith, ints, fits_out w32 n f))
short_sum (negsuc m) n pc e h f = lt-ltb (suc m) (2 ^ 64) (omega (arith, ints, fits_out w32 n f))

pub target_short : (pc : ℕ) (n : ℤ) → pc < 2 ^ 32 → FitsSigned w32 n → is_short (pos pc +ℤ n) ≡ true
target_short pc n h f = short_sum (pos pc +ℤ n) n pc refl h f

i2_i4 : (n : ℤ) → FitsSigned w16 n → FitsSigned w32 n
i2_i4 n h = let l = h.sfits in record { sfits = omega (arith, l) }

pub short_jump_named : (pc op : ℕ) (p : Place) (y : Insn × Place) → AreBytes p.rest → pc < 2 ^ 32 → operands_of op ≡ operands.ShortJump → short_jump pc op p ≡ Ok y → Named pc op p y
unfolding short_jump line_of encoded is_good has_shape shape_of
short_jump_named pc op p y b low e h =
    let r = bound (signed 2 w16 p) _ y h in
    let n = i2_read p r.0 b r.1 in
    let o = offset_is pc r.0.0 in
    let made : Named pc op p (insn.Jump op (pos pc +ℤ r.0.0), r.0.1) = record {
      text = i2 r.0.0;
      front = n.0;
      usual = λ g. refl;
      named = λ u. gives_again pc (Jump op (At (pos pc +ℤ r.0.0))) (op ∷ i2 r.0.0) (rw e (target_short pc r.0.0 low (i2_i4 r.0.0 n.1))) refl refl (rw (e, o, i2_fits r.0.0 n.1) refl) (rw (e, o) refl);
    } in
    subst (Named pc op p) (ok_is _ y r.2) made

pub long_jump_named : (pc op : ℕ) (p : Place) (y : Insn × Place) → AreBytes p.rest → pc < 2 ^ 32 → operands_of op ≡ operands.LongJump → long_jump pc op p ≡ Ok y → Named pc op p y
unfolding long_jump line_of encoded is_good has_shape shape_of
long_jump_named pc op p y b low e h =
    let r = bound (signed 4 w32 p) _ y h in
    let n = i4_read p r.0 b r.1 in
    let o = offset_is pc r.0.0 in
    let made : Named pc op p (insn.Jump op (pos pc +ℤ r.0.0), r.0.1) = record {
      text = i4 r.0.0;
      front = n.0;
      usual = λ g. refl;
      named = λ u. gives_again pc (Jump op (At (pos pc +ℤ r.0.0))) (op ∷ i4 r.0.0) (rw e (target_short pc r.0.0 low n.1)) refl refl (rw (e, o, i4_fits r.0.0 n.1) refl) (rw (e, o) refl);
    } in
    subst (Named pc op p) (ok_is _ y r.2) made

-- ---- with counts

pub invocation_named : (pc op : ℕ) (p : Place) (y : Insn × Place) → AreBytes p.rest → operands_of op ≡ operands.Invocation → invocation p ≡ Ok y → Named pc op p y
unfolding invocation line_of encoded is_good has_shape shape_of
invocation_named pc op p y b e h =
    let o : op ≡ jvm.INVOKEINTERFACE = eqb-true _ _ (op_agrees op operands.Invocation e) in
    let k : operands_of jvm.INVOKEINTERFACE ≡ operands.Invocation = ap operands_of (sym o) ∙ e in
    let r = bound (number 2 p) _ y h in
    let n = u2_read p r.0 b r.1 in
    let s = bound (number 1 r.0.1) _ y r.2 in
    let m = u1_read r.0.1 s.0 n.front.left s.1 in
    let t = bound (number 1 s.0.1) _ y s.2 in
    let z = u1_read s.0.1 t.0 m.front.left t.1 in
    let line = Invocation jvm.INVOKEINTERFACE (members.Indexed (pos r.0.0)) (pos s.0.0) in
    let bytes = u2 r.0.0 ++ (u1 s.0.0 ++ u1 t.0.0) in
    let made : Named pc jvm.INVOKEINTERFACE p (insn.Interface r.0.0 s.0.0 t.0.0, t.0.1) = record {
      text = bytes;
      front = front_on p r.0.1 t.0.1 (u2 r.0.0) (u1 s.0.0 ++ u1 t.0.0) n.front (front_on r.0.1 s.0.1 t.0.1 (u1 s.0.0) (u1 t.0.0) m.front z.front);
      usual = λ g. (
          let same : 0 ≡ t.0.0 % 256 = last_byte _ _ _ _ _ _ (encoded_is pc line (jvm.INVOKEINTERFACE ∷ bytes) g) in
          let low : t.0.0 < 256 = z.low in
          eq-eqb t.0.0 0 (omega arith));
      named = λ u. (
          let last : t.0.0 ≡ 0 = eqb-true t.0.0 0 u in
          gives_again pc line (jvm.INVOKEINTERFACE ∷ bytes) (rw k (and_again _ _ (u2_short r.0.0 n.low) (u1_short s.0.0 m.low))) (and_again _ _ (u2_fits r.0.0 n.low) (u1_fits s.0.0 m.low)) refl refl (rw last refl));
    } in
    subst (λ (x : ℕ). Named pc x p y) (sym o) (subst (Named pc jvm.INVOKEINTERFACE p) (ok_is _ y t.2) made)

pub items_named : (pc op : ℕ) (p : Place) (y : Insn × Place) → AreBytes p.rest → operands_of op ≡ operands.Items → items p ≡ Ok y → Named pc op p y
unfolding items line_of encoded is_good has_shape shape_of
items_named pc op p y b e h =
    let o : op ≡ jvm.NEWARRAY = eqb-true _ _ (op_agrees op operands.Items e) in
    let k : operands_of jvm.NEWARRAY ≡ operands.Items = ap operands_of (sym o) ∙ e in
    let r = bound (number 1 p) _ y h in
    let n = u1_read p r.0 b r.1 in
    let made : Named pc jvm.NEWARRAY p (insn.NewArray r.0.0, r.0.1) = record {
      text = u1 r.0.0;
      front = n.front;
      usual = λ g. refl;
      named = λ u. gives_again pc (Items jvm.NEWARRAY (pos r.0.0)) (jvm.NEWARRAY ∷ u1 r.0.0) (rw k (u1_short r.0.0 n.low)) (u1_fits r.0.0 n.low) refl refl refl;
    } in
    subst (λ (x : ℕ). Named pc x p y) (sym o) (subst (Named pc jvm.NEWARRAY p) (ok_is _ y r.2) made)

pub dimensions_named : (pc op : ℕ) (p : Place) (y : Insn × Place) → AreBytes p.rest → operands_of op ≡ operands.Dimensions → dimensions p ≡ Ok y → Named pc op p y
unfolding dimensions line_of encoded is_good has_shape shape_of
dimensions_named pc op p y b e h =
    let o : op ≡ jvm.MULTIANEWARRAY = eqb-true _ _ (op_agrees op operands.Dimensions e) in
    let k : operands_of jvm.MULTIANEWARRAY ≡ operands.Dimensions = ap operands_of (sym o) ∙ e in
    let r = bound (number 2 p) _ y h in
    let n = u2_read p r.0 b r.1 in
    let s = bound (number 1 r.0.1) _ y r.2 in
    let m = u1_read r.0.1 s.0 n.front.left s.1 in
    let made : Named pc jvm.MULTIANEWARRAY p (insn.Multi r.0.0 s.0.0, s.0.1) = record {
      text = u2 r.0.0 ++ u1 s.0.0;
      front = front_on p r.0.1 s.0.1 (u2 r.0.0) (u1 s.0.0) n.front m.front;
      usual = λ g. refl;
      named = λ u. gives_again pc (Dimensions jvm.MULTIANEWARRAY (references.Indexed (pos r.0.0)) (pos s.0.0)) (jvm.MULTIANEWARRAY ∷ (u2 r.0.0 ++ u1 s.0.0)) (rw k (and_again _ _ (u2_short r.0.0 n.low) (u1_short s.0.0 m.low)))
          (and_again _ _ (u2_fits r.0.0 n.low) (u1_fits s.0.0 m.low)) refl refl refl;
    } in
    subst (λ (x : ℕ). Named pc x p y) (sym o) (subst (Named pc jvm.MULTIANEWARRAY p) (ok_is _ y s.2) made)
