-- An instruction takes a byte at least, and ends inside the code.
use Rattle.std.proofs.Common.{◌≡◌, ℕ, ◌+◌, ◌-◌, ◌*◌, ◌%◌, ◌<◌, ◌≤◌, Bool, true, false, if◌then◌else◌, List, length, Result, Ok, Err, refl, sym, ap, subst, ◌∙◌, arith}
use Rattle.std.specs.Prelude.{ℤ, ◌-ℤ◌, take, drop, nat_lt}
use Rattle.std.specs.Int.{Width, w8, w16, w32}
use Rattle.std.proofs.lemmas.Bool.Decides.{nat_tests}
use Rattle.std.proofs.lemmas.List.{length-drop}
use Rattle.mvm_base.specs.Answers.{◌>>=◌}
use Rattle.mvm_base.specs.Place.{Place, run, numbered}
use Rattle.mvm_insn.specs.Readers.{whole, bytes, number, signed}
use Rattle.mvm_insn.specs.Rows.{SwitchParts}
use Rattle.mvm_insn.specs.Opcodes.{operands_of}
use Rattle.mvm_insn.specs.Insns.{Read, byte_number, short_number, byte_pool, short_pool, byte_local, short_local, increment, wide_increment, short_jump, long_jump, invocation, items, dimensions, widened_by, widened, counted, aligned, table_rows, table_parts, table, sorted, lookup_rows, lookup_parts, lookup, chosen, operands, located, read_at, insn}
use Rattle.mvm_insn.specs.declared.fault.InsnFault.{InsnFault}
use Rattle.mvm_insn.specs.declared.insn.At.{At}
use Rattle.mvm_insn.specs.declared.insn.Insn.{Insn}
use Rattle.mvm_insn.specs.declared.table.Operands.{Operands}
use Rattle.mvm_insn.specs.declared.table.Operands.TheVariants.{Alone, ByteNumber, ShortNumber, BytePool, ShortPool, ByteLocal, Increment, ShortJump, LongJump, Table, Lookup, Invocation, Items, Dimensions, Widened, Foreign, Absent}

-- a later place in the same bytes: what was read is gone from what is left
pub record Onward (p q : Place) : Type 0 where
  pub forward : p.at ≤ q.at
  pub same : p.at + length p.rest ≡ q.at + length q.rest

pub onward-here : (p : Place) → Onward p p
onward-here p = record { forward = omega arith; same = refl }

pub onward-on : (p q r : Place) → Onward p q → Onward q r → Onward p r
onward-on p q r one two = record { forward = omega (arith, one.forward, two.forward); same = one.same ∙ two.same }

-- whatever is read, the place behind it is a later one
abbrev pub Reads : {A : Type 0} → Place → Result (A × Place) InsnFault → Type 0
Reads p r = (x : _ × Place) → r ≡ Ok x → Onward p x.1

given : {A : Type 0} (y : A) (p : Place) → Reads p (Ok (y, p))
given y p x e = let here : p ≡ x.1 = cc in subst (Onward p) here (onward-here p)

fails : {A : Type 0} (fault : InsnFault) (p : Place) → Reads {A = A} p (Err fault)
fails fault p x e = absurd cc

-- one reader, and then another
next : {A B : Type 0} (p : Place) (r : Result (A × Place) InsnFault) (f : A × Place → Result (B × Place) InsnFault) → Reads p r → ((y : A × Place) → Reads y.1 (f y)) → Reads p (r >>= f)
next p (Ok y) f one two x e = onward-on p y.1 x.1 (one y refl) (two y x e)
next p (Err fault) f one two x e = absurd cc

-- a test of what was read, and then a reader
after : {A B : Type 0} (p : Place) (r : Result A InsnFault) (f : A → Result (B × Place) InsnFault) → ((y : A) → Reads p (f y)) → Reads p (r >>= f)
after p (Ok y) f two x e = two y x e
after p (Err fault) f two x e = absurd cc

choose : {A : Type 0} (p : Place) (b : Bool) (r s : Result (A × Place) InsnFault) → Reads p r → Reads p s → Reads p (if b then r else s)
choose p true r s one two = one
choose p false r s one two = two

-- ---- so many bytes

-- they were there, and the place behind them is so many further
ran : (n : ℕ) (p : Place) (x : List ℕ × Place) → run n p ≡ Ok x → (n ≤ length p.rest) × (x.1.at ≡ p.at + n) × (length x.1.rest ≡ length p.rest - n)
unfolding run
ran n p x e = by (nat_lt (length p.rest) n) refl e
  where
    by : (b : Bool) → nat_lt (length p.rest) n ≡ b → (if b then Err p.at else Ok (take n p.rest, record { at = p.at + n; rest = drop n p.rest })) ≡ Ok x → (n ≤ length p.rest) × (x.1.at ≡ p.at + n) × (length x.1.rest ≡ length p.rest - n)
    by true h k = absurd cc
    by false h k =
        let place : x.1 ≡ record { at = p.at + n; rest = drop n p.rest } = cc in
        (grind (arith, nat_tests), ap (λ (q : Place). q.at) place, ap (λ (q : Place). length q.rest) place ∙ length-drop n p.rest)

run-on : (n : ℕ) (p : Place) (y : List ℕ × Place) → run n p ≡ Ok y → Onward p y.1
run-on n p y h = let g = ran n p y h in record { forward = omega (arith, g.0, g.1); same = omega (arith, g.0, g.1, g.2) }

bytes-on : (n : ℕ) (p : Place) → Reads p (bytes n p)
bytes-on n p x e = by (run n p) refl e
  where
    by : (r : Result (List ℕ × Place) ℕ) → run n p ≡ r → whole r ≡ Ok x → Onward p x.1
    by (Ok y) h k = let z : y.1 ≡ x.1 = cc in subst (Onward p) z (run-on n p y h)
    by (Err at) h k = absurd cc

number-on : (n : ℕ) (p : Place) → Reads p (number n p)
number-on n p x e = by (run n p) refl e
  where
    by : (r : Result (List ℕ × Place) ℕ) → run n p ≡ r → whole (numbered n r) ≡ Ok x → Onward p x.1
    by (Ok y) h k = let z : y.1 ≡ x.1 = cc in subst (Onward p) z (run-on n p y h)
    by (Err at) h k = absurd cc

signed-on : (n : ℕ) (w : Width) (p : Place) → Reads p (signed n w p)
signed-on n w p = next p (number n p) _ (number-on n p) (λ x. given _ x.1)

-- a number that was read took its bytes
number-takes : (n : ℕ) (p : Place) (x : ℕ × Place) → number n p ≡ Ok x → (x.1.at ≡ p.at + n) × (p.at + length p.rest ≡ x.1.at + length x.1.rest)
number-takes n p x e = by (run n p) refl e
  where
    by : (r : Result (List ℕ × Place) ℕ) → run n p ≡ r → whole (numbered n r) ≡ Ok x → (x.1.at ≡ p.at + n) × (p.at + length p.rest ≡ x.1.at + length x.1.rest)
    by (Ok y) h k = let z : y.1 ≡ x.1 = cc in let g = ran n p y h in let place : x.1.at ≡ y.1.at = ap (λ (q : Place). q.at) (sym z) in (place ∙ g.1, omega (arith, g.0, g.1, g.2, place, ap (λ (q : Place). length q.rest) z))
    by (Err at) h k = absurd cc

-- ---- the operands

byte_number-on : (op : ℕ) (p : Place) → Reads p (byte_number op p)
unfolding byte_number
byte_number-on op p = next p (signed 1 w8 p) _ (signed-on 1 w8 p) (λ n. given _ n.1)

short_number-on : (op : ℕ) (p : Place) → Reads p (short_number op p)
unfolding short_number
short_number-on op p = next p (signed 2 w16 p) _ (signed-on 2 w16 p) (λ n. given _ n.1)

byte_pool-on : (op : ℕ) (p : Place) → Reads p (byte_pool op p)
unfolding byte_pool
byte_pool-on op p = next p (number 1 p) _ (number-on 1 p) (λ n. given _ n.1)

short_pool-on : (op : ℕ) (p : Place) → Reads p (short_pool op p)
unfolding short_pool
short_pool-on op p = next p (number 2 p) _ (number-on 2 p) (λ n. given _ n.1)

byte_local-on : (op : ℕ) (p : Place) → Reads p (byte_local op p)
unfolding byte_local
byte_local-on op p = next p (number 1 p) _ (number-on 1 p) (λ n. given _ n.1)

short_local-on : (op : ℕ) (p : Place) → Reads p (short_local op p)
unfolding short_local
short_local-on op p = next p (number 2 p) _ (number-on 2 p) (λ n. given _ n.1)

increment-on : (p : Place) → Reads p (increment p)
unfolding increment
increment-on p = next p (number 1 p) _ (number-on 1 p) (λ n. next n.1 (signed 1 w8 n.1) _ (signed-on 1 w8 n.1) (λ by. given _ by.1))

wide_increment-on : (p : Place) → Reads p (wide_increment p)
unfolding wide_increment
wide_increment-on p = next p (number 2 p) _ (number-on 2 p) (λ n. next n.1 (signed 2 w16 n.1) _ (signed-on 2 w16 n.1) (λ by. given _ by.1))

short_jump-on : (pc op : ℕ) (p : Place) → Reads p (short_jump pc op p)
unfolding short_jump
short_jump-on pc op p = next p (signed 2 w16 p) _ (signed-on 2 w16 p) (λ n. given _ n.1)

long_jump-on : (pc op : ℕ) (p : Place) → Reads p (long_jump pc op p)
unfolding long_jump
long_jump-on pc op p = next p (signed 4 w32 p) _ (signed-on 4 w32 p) (λ n. given _ n.1)

invocation-on : (p : Place) → Reads p (invocation p)
unfolding invocation
invocation-on p =
    next p (number 2 p) _ (number-on 2 p) (λ n.
    next n.1 (number 1 n.1) _ (number-on 1 n.1) (λ count.
    next count.1 (number 1 count.1) _ (number-on 1 count.1) (λ last. given _ last.1)))

items-on : (p : Place) → Reads p (items p)
unfolding items
items-on p = next p (number 1 p) _ (number-on 1 p) (λ kind. given _ kind.1)

dimensions-on : (p : Place) → Reads p (dimensions p)
unfolding dimensions
dimensions-on p = next p (number 2 p) _ (number-on 2 p) (λ n. next n.1 (number 1 n.1) _ (number-on 1 n.1) (λ dims. given _ dims.1))

widened_by-on : (op : ℕ) (p : Place) → Reads p (widened_by op p)
unfolding widened_by
widened_by-on op p =
    choose p _ _ _ (short_local-on op p)
    (choose p _ _ _ (wide_increment-on p)
    (choose p _ _ _ (fails _ p) (fails _ p)))

widened-on : (p : Place) → Reads p (widened p)
unfolding widened
widened-on p = next p (number 1 p) _ (number-on 1 p) (λ op. widened_by-on op.0 op.1)

-- ---- the switches

table_rows-on : (pc : ℕ) (otherwise low high : ℤ) (p : Place) → Reads p (table_rows pc otherwise low high p)
unfolding table_rows
table_rows-on pc otherwise low high p = after p (counted (high -ℤ low)) _ (λ count. next p (bytes (4 * count) p) _ (bytes-on (4 * count) p) (λ text. given _ text.1))

table_parts-on : (pc : ℕ) (p : Place) → Reads p (table_parts pc p)
unfolding table_parts
table_parts-on pc p =
    next p (signed 4 w32 p) _ (signed-on 4 w32 p) (λ offset.
    next offset.1 (signed 4 w32 offset.1) _ (signed-on 4 w32 offset.1) (λ low.
    next low.1 (signed 4 w32 low.1) _ (signed-on 4 w32 low.1) (λ high. table_rows-on pc _ low.0 high.0 high.1)))

-- the bytes in front of the operands of a switch, and then those
aligned-on : {A : Type 0} (pc : ℕ) (p : Place) (f : Place → Result (A × Place) InsnFault) → ((q : Place) → Reads q (f q)) → Reads p (aligned pc p >>= f)
aligned-on pc p f two x e = by (bytes (3 - pc % 4) p) refl e
  where
    by : (r : Result (List ℕ × Place) InsnFault) → bytes (3 - pc % 4) p ≡ r → ((r >>= λ text. Ok text.1) >>= f) ≡ Ok x → Onward p x.1
    by (Ok y) h k = onward-on p y.1 x.1 (bytes-on (3 - pc % 4) p y h) (two y.1 x k)
    by (Err fault) h k = absurd cc

table-on : (pc : ℕ) (p : Place) → Reads p (table pc p)
unfolding table
table-on pc p = aligned-on pc p (table_parts pc) (table_parts-on pc)

sorted-on : (b : Bool) (y : SwitchParts) (p : Place) → Reads p (sorted b (y, p))
sorted-on true y p = given y p
sorted-on false y p = fails _ p

lookup_rows-on : (pc : ℕ) (otherwise : ℤ) (count : ℕ) (p : Place) → Reads p (lookup_rows pc otherwise count p)
unfolding lookup_rows
lookup_rows-on pc otherwise count p =
    choose p _ _ _ (next p (bytes (8 * count) p) _ (bytes-on (8 * count) p) (λ text. sorted-on _ _ text.1)) (fails _ p)

lookup_parts-on : (pc : ℕ) (p : Place) → Reads p (lookup_parts pc p)
unfolding lookup_parts
lookup_parts-on pc p =
    next p (signed 4 w32 p) _ (signed-on 4 w32 p) (λ offset.
    next offset.1 (number 4 offset.1) _ (number-on 4 offset.1) (λ count. lookup_rows-on pc _ count.0 count.1))

lookup-on : (pc : ℕ) (p : Place) → Reads p (lookup pc p)
unfolding lookup
lookup-on pc p = aligned-on pc p (lookup_parts pc) (lookup_parts-on pc)

chosen-on : (op : ℕ) (p : Place) (r : Result (SwitchParts × Place) InsnFault) → Reads p r → Reads p (chosen op r)
chosen-on op p (Ok y) one x e = let z : y.1 ≡ x.1 = cc in subst (Onward p) z (one y refl)
chosen-on op p (Err fault) one x e = absurd cc

-- ---- the whole

operands-on : (pc op : ℕ) (shape : Operands) (p : Place) → Reads p (operands pc op shape p)
unfolding operands
operands-on pc op Alone p = given _ p
operands-on pc op ByteNumber p = byte_number-on op p
operands-on pc op ShortNumber p = short_number-on op p
operands-on pc op BytePool p = byte_pool-on op p
operands-on pc op ShortPool p = short_pool-on op p
operands-on pc op ByteLocal p = byte_local-on op p
operands-on pc op Increment p = increment-on p
operands-on pc op ShortJump p = short_jump-on pc op p
operands-on pc op LongJump p = long_jump-on pc op p
operands-on pc op Table p = chosen-on op p (table pc p) (table-on pc p)
operands-on pc op Lookup p = chosen-on op p (lookup pc p) (lookup-on pc p)
operands-on pc op Invocation p = invocation-on p
operands-on pc op Items p = items-on p
operands-on pc op Dimensions p = dimensions-on p
operands-on pc op Widened p = widened-on p
operands-on pc op Foreign p = fails _ p
operands-on pc op Absent p = fails _ p

-- behind the opcode's one byte
read_at-inside : (pc : ℕ) (p : Place) (x : Insn × Place) → read_at pc p ≡ Ok x → (p.at < x.1.at) × (p.at + length p.rest ≡ x.1.at + length x.1.rest) × (0 < length p.rest)
unfolding read_at
read_at-inside pc p x e = by (number 1 p) refl e
  where
    by : (r : Result (ℕ × Place) InsnFault) → number 1 p ≡ r → (r >>= λ op. operands pc op.0 (operands_of op.0) op.1) ≡ Ok x → (p.at < x.1.at) × (p.at + length p.rest ≡ x.1.at + length x.1.rest) × (0 < length p.rest)
    by (Ok op) h k =
        let one = number-takes 1 p op h in
        let on = operands-on pc op.0 (operands_of op.0) op.1 x k in
        (omega (arith, one.0, on.forward), one.1 ∙ on.same, omega (arith, one.0, one.1))
    by (Err fault) h k = absurd cc

-- what an instruction's place says of the code
located-is : (r : Read) (x : At) → located r ≡ Ok x → (y : Insn × Place) × (r ≡ Ok y) × (x.insn ≡ y.0) × (x.next ≡ y.1.at)
located-is (Ok y) x e = let z : x ≡ record { insn = y.0; next = y.1.at } = cc in (y, refl, ap (λ (a : At). a.insn) z, ap (λ (a : At). a.next) z)
located-is (Err fault) x e = absurd cc

pub insn-inside : (code : List ℕ) (pc : ℕ) (x : At) → insn code pc ≡ Ok x → (pc < x.next) × (x.next ≤ length code)
unfolding insn
insn-inside code pc x e =
    let here : Place = record { at = pc; rest = drop pc code } in
    let read = located-is (read_at pc here) x e in
    let on = read_at-inside pc here read.0 read.1 in
    let left = length-drop pc code in
    (omega (arith, on.0, read.3), omega (arith, on.1, on.2, left, read.3))
