-- The keys of a switch rise from row to row.
use Rattle.std.proofs.Common.{◌≡◌, ℕ, ◌-◌, ◌*◌, ◌<◌, Bool, true, false, if◌then◌else◌, List, length, Some, Result, Ok, Err, refl, subst, arith}
use Rattle.std.specs.Prelude.{ℤ, ◌-ℤ◌, ◌<ℤ◌, slice_get, drop, nat_lt, ◌^◌}
use Rattle.std.proofs.lemmas.Int.{ints}
use Rattle.std.proofs.lemmas.Option.{slice_get_within}
use Rattle.std.specs.Int.{w8, w16, w32}
use Rattle.mvm_base.specs.Answers.{◌>>=◌}
use Rattle.mvm_base.specs.Place.{Place}
use Rattle.mvm_insn.specs.Readers.{bytes, number, signed}
use Rattle.mvm_insn.specs.Opcodes.{operands_of}
use Rattle.mvm_insn.specs.Insns.{Read, byte_number, short_number, byte_pool, short_pool, byte_local, short_local, increment, wide_increment, short_jump, long_jump, invocation, items, dimensions, widened_by, widened, counted, aligned, table_rows, table_parts, table, sorted, lookup_rows, lookup_parts, lookup, chosen, operands, located, read_at, insn}
use Rattle.mvm_insn.specs.declared.fault.InsnFault.{InsnFault}
use Rattle.mvm_insn.specs.declared.insn.At.{At}
use Rattle.mvm_insn.specs.declared.insn.Insn.{Insn}
use Rattle.mvm_insn.specs.declared.insn.Insn.TheVariants.{Choice}
use Rattle.mvm_insn.specs.declared.table.Operands.{Operands}
use Rattle.mvm_insn.specs.declared.table.Operands.TheVariants.{Alone, ByteNumber, ShortNumber, BytePool, ShortPool, ByteLocal, Increment, ShortJump, LongJump, Table, Lookup, Invocation, Items, Dimensions, Widened, Foreign, Absent}
use Rattle.mvm_insn.specs.Rows.{SwitchParts, KeysRise, rows, rising, word, table_row, lookup_row}
use Rattle.mvm_insn.specs.declared.switch_rows.SwitchRow.{SwitchRow}
use Rattle.mvm_insn.proofs.RowLaws.{length_rows, get_rows, rising-below}

-- a row that a list of rows has is the one of its place
row_is : (n i : ℕ) (f : ℕ → SwitchRow) (r : SwitchRow) → slice_get (rows n f) i ≡ Some r → (i < n) × (r ≡ f i)
row_is n i f r e =
    let inside : i < length (rows n f) = slice_get_within (rows n f) i r e in
    let here : i < n = omega (arith, inside, length_rows n f) in
    let found = get_rows n i f here in
    (here, cc)

-- rows whose keys are below the later ones, by their places
rise : (n : ℕ) (f : ℕ → SwitchRow) → ((i j : ℕ) → i < j → j < n → (f i).key <ℤ (f j).key) → KeysRise (rows n f)
rise n f below i j first second h one two =
    let a = row_is n i f first one in
    let b = row_is n j f second two in
    rw (a.1, b.1) (below i j h b.0)

-- keys that are counted from the lowest
pub table-rise : (n at : ℕ) (low : ℤ) (text : List ℕ) → KeysRise (rows n (table_row at low text))
table-rise n at low text = rise n (table_row at low text) (λ i j h k. omega (arith, ints))

-- keys that were tested
pub lookup-rise : (n at : ℕ) (text : List ℕ) → rising (n - 1) (λ i. word text (2 * i)) ≡ true → KeysRise (rows n (lookup_row at text))
lookup-rise n at text r = rise n (lookup_row at text) (λ i j h k. rising-below (λ i. word text (2 * i)) (n - 1) i j r h (omega arith))

-- ---- a switch that is read has such keys

abbrev pub Rises : Result (SwitchParts × Place) InsnFault → Type 0
Rises r = (x : SwitchParts × Place) → r ≡ Ok x → KeysRise x.0.rows

-- whatever was read in front of it
behind : {A : Type 0} (r : Result A InsnFault) (f : A → Result (SwitchParts × Place) InsnFault) → ((y : A) → Rises (f y)) → Rises (r >>= f)
behind (Ok y) f all x e = all y x e
behind (Err fault) f all x e = absurd cc

has : (y : SwitchParts) (p : Place) → KeysRise y.rows → Rises (Ok (y, p))
has y p h x e = let z : y ≡ x.0 = cc in subst (λ (s : SwitchParts). KeysRise s.rows) z h

table_rows-rise : (pc : ℕ) (otherwise low high : ℤ) (p : Place) → Rises (table_rows pc otherwise low high p)
unfolding table_rows
table_rows-rise pc otherwise low high p = behind (counted (high -ℤ low)) _ (λ count. behind (bytes (4 * count) p) _ (λ text. has _ text.1 (table-rise count pc low text.0)))

table-rises : (pc : ℕ) (p : Place) → Rises (table pc p)
unfolding table table_parts
table-rises pc p =
    behind (aligned pc p) _ (λ q.
    behind (signed 4 w32 q) _ (λ offset.
    behind (signed 4 w32 offset.1) _ (λ low.
    behind (signed 4 w32 low.1) _ (λ high. table_rows-rise pc _ low.0 high.0 high.1))))

sorted-rise : (b : Bool) (y : SwitchParts) (p : Place) → (b ≡ true → KeysRise y.rows) → Rises (sorted b (y, p))
sorted-rise true y p h = has y p (h refl)
sorted-rise false y p h = λ x e. absurd cc

few : (b : Bool) (r s : Result (SwitchParts × Place) InsnFault) → Rises r → Rises s → Rises (if b then r else s)
few true r s one two = one
few false r s one two = two

lookup_rows-rise : (pc : ℕ) (otherwise : ℤ) (count : ℕ) (p : Place) → Rises (lookup_rows pc otherwise count p)
unfolding lookup_rows
lookup_rows-rise pc otherwise count p =
    few (nat_lt count (2 ^ 31)) _ _ (behind (bytes (8 * count) p) _ (λ text. sorted-rise _ _ text.1 (lookup-rise count pc text.0))) (λ x e. absurd cc)

lookup-rises : (pc : ℕ) (p : Place) → Rises (lookup pc p)
unfolding lookup lookup_parts
lookup-rises pc p =
    behind (aligned pc p) _ (λ q.
    behind (signed 4 w32 q) _ (λ offset.
    behind (number 4 offset.1) _ (λ count. lookup_rows-rise pc _ count.0 count.1)))

-- ---- an instruction that is a switch

abbrev pub Orders : Read → Type 0
Orders r = (x : Insn × Place) (op : ℕ) (rows : SwitchParts) → r ≡ Ok x → x.0 ≡ Choice op rows → KeysRise rows.rows

after : {A : Type 0} (r : Result A InsnFault) (f : A → Read) → ((y : A) → Orders (f y)) → Orders (r >>= f)
after (Ok y) f all x op rows e k = all y x op rows e k
after (Err fault) f all x op rows e k = absurd cc

-- it is another instruction
other : (y : Insn) (p : Place) → ((op : ℕ) (rows : SwitchParts) → y ≡ Choice op rows → ⊥) → Orders (Ok (y, p))
other y p none x op rows e k = absurd (none op rows cc)

fault-orders : (fault : InsnFault) → Orders (Err fault)
fault-orders fault x op rows e k = absurd cc

either : (b : Bool) (r s : Read) → Orders r → Orders s → Orders (if b then r else s)
either true r s one two = one
either false r s one two = two

chosen-orders : (op : ℕ) (r : Result (SwitchParts × Place) InsnFault) → Rises r → Orders (chosen op r)
chosen-orders op (Ok y) rise x o rows e k =
    let z : y.0 ≡ rows = cc in
    subst (λ (s : SwitchParts). KeysRise s.rows) z (rise y refl)
chosen-orders op (Err fault) rise x o rows e k = absurd cc

short_local-orders : (op : ℕ) (p : Place) → Orders (short_local op p)
unfolding short_local
short_local-orders op p = after (number 2 p) _ (λ n. other _ n.1 (λ o rows k. absurd cc))

wide_increment-orders : (p : Place) → Orders (wide_increment p)
unfolding wide_increment
wide_increment-orders p = after (number 2 p) _ (λ n. after (signed 2 w16 n.1) _ (λ by. other _ by.1 (λ o rows k. absurd cc)))

widened-orders : (p : Place) → Orders (widened p)
unfolding widened widened_by
widened-orders p =
    after (number 1 p) _ (λ op.
    either _ _ _ (short_local-orders op.0 op.1)
    (either _ _ _ (wide_increment-orders op.1)
    (either _ _ _ (fault-orders _) (fault-orders _))))

operands-orders : (pc op : ℕ) (shape : Operands) (p : Place) → Orders (operands pc op shape p)
unfolding operands byte_number short_number byte_pool short_pool byte_local increment short_jump long_jump invocation items dimensions
operands-orders pc op Alone p = other _ p (λ o rows k. absurd cc)
operands-orders pc op ByteNumber p = after (signed 1 w8 p) _ (λ n. other _ n.1 (λ o rows k. absurd cc))
operands-orders pc op ShortNumber p = after (signed 2 w16 p) _ (λ n. other _ n.1 (λ o rows k. absurd cc))
operands-orders pc op BytePool p = after (number 1 p) _ (λ n. other _ n.1 (λ o rows k. absurd cc))
operands-orders pc op ShortPool p = after (number 2 p) _ (λ n. other _ n.1 (λ o rows k. absurd cc))
operands-orders pc op ByteLocal p = after (number 1 p) _ (λ n. other _ n.1 (λ o rows k. absurd cc))
operands-orders pc op Increment p = after (number 1 p) _ (λ n. after (signed 1 w8 n.1) _ (λ by. other _ by.1 (λ o rows k. absurd cc)))
operands-orders pc op ShortJump p = after (signed 2 w16 p) _ (λ n. other _ n.1 (λ o rows k. absurd cc))
operands-orders pc op LongJump p = after (signed 4 w32 p) _ (λ n. other _ n.1 (λ o rows k. absurd cc))
operands-orders pc op Table p = chosen-orders op (table pc p) (table-rises pc p)
operands-orders pc op Lookup p = chosen-orders op (lookup pc p) (lookup-rises pc p)
operands-orders pc op Invocation p = after (number 2 p) _ (λ n. after (number 1 n.1) _ (λ count. after (number 1 count.1) _ (λ last. other _ last.1 (λ o rows k. absurd cc))))
operands-orders pc op Items p = after (number 1 p) _ (λ n. other _ n.1 (λ o rows k. absurd cc))
operands-orders pc op Dimensions p = after (number 2 p) _ (λ n. after (number 1 n.1) _ (λ dims. other _ dims.1 (λ o rows k. absurd cc)))
operands-orders pc op Widened p = widened-orders p
operands-orders pc op Foreign p = fault-orders _
operands-orders pc op Absent p = fault-orders _

located-orders : (r : Read) (x : At) (op : ℕ) (rows : SwitchParts) → Orders r → located r ≡ Ok x → x.insn ≡ Choice op rows → KeysRise rows.rows
located-orders (Ok y) x op rows all e k = all y op rows refl cc
located-orders (Err fault) x op rows all e k = absurd cc

pub insn-keys : (code : List ℕ) (pc op : ℕ) (rows : SwitchParts) (x : At) → insn code pc ≡ Ok x → x.insn ≡ Choice op rows → KeysRise rows.rows
unfolding insn read_at
insn-keys code pc op rows x e k =
    let here : Place = record { at = pc; rest = drop pc code } in
    located-orders (read_at pc here) x op rows (after (number 1 here) _ (λ code. operands-orders pc code.0 (operands_of code.0) code.1)) e k
