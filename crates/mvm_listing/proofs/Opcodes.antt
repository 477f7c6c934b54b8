-- The opcodes that alone have what stands behind them, by the table of the instructions.
use Rattle.std.proofs.Common.{◌≡◌, ℕ, zero, suc, ◌+◌, Bool, true, false, List, [], ◌∷◌, refl, ap, subst, ◌∙◌, arith}
use Rattle.std.specs.Prelude.{◌==◌, ◌&&◌, ◌||◌, not, slice_get, unwrap_or}
use Rattle.std.proofs.lemmas.Bool.{eqb-true}
use Rattle.mvm_insn.specs.Opcodes.{names_local, all_operands, operands_of}
use Rattle.mvm_insn.specs.declared.opcodes.TheConstants as jvm
use Rattle.mvm_insn.specs.declared.table.Operands.{Operands}
use Rattle.mvm_insn.specs.declared.table.Operands.TheVariants.{BytePool, ShortPool, ByteLocal, Increment, Invocation, Items, Dimensions, Widened, Absent}
use Rattle.mvm_listing.proofs.Tests.{parts}

abbrev pub agrees : ℕ → Operands → Bool
agrees op BytePool = op == jvm.LDC
agrees op ShortPool = not (op == jvm.LDC)
agrees op Increment = op == jvm.IINC
agrees op Invocation = op == jvm.INVOKEINTERFACE
agrees op Items = op == jvm.NEWARRAY
agrees op Dimensions = op == jvm.MULTIANEWARRAY
agrees op Widened = op == jvm.WIDE
agrees op _ = true

abbrev all_agree : ℕ → List Operands → Bool
all_agree op [] = true
all_agree op (o ∷ os) = agrees op o && all_agree (op + 1) os

table_agrees : all_agree 0 all_operands ≡ true
table_agrees = refl

agrees_at : (op : ℕ) (os : List Operands) (n : ℕ) → all_agree op os ≡ true → agrees (op + n) (unwrap_or (slice_get os n) Absent) ≡ true
agrees_at op [] n h = refl
agrees_at op (o ∷ os) zero h = let k : op + 0 ≡ op = omega arith in rw k (parts (agrees op o) _ h).0
agrees_at op (o ∷ os) (suc n) h = let k : op + suc n ≡ (op + 1) + n = omega arith in rw k (agrees_at (op + 1) os n (parts (agrees op o) _ h).1)

-- the opcode of what stands behind it
pub op_agrees : (op : ℕ) (o : Operands) → operands_of op ≡ o → agrees op o ≡ true
unfolding operands_of
op_agrees op o e = subst (λ (x : Operands). agrees op x ≡ true) e (let z : 0 + op ≡ op = omega arith in subst (λ (k : ℕ). agrees k (unwrap_or (slice_get all_operands op) Absent) ≡ true) z (agrees_at 0 all_operands op table_agrees))

either : {P : Type 0} (a b : Bool) → (a || b) ≡ true → (a ≡ true → P) → (b ≡ true → P) → P
either true b h f g = f refl
either false b h f g = g h

is_local : (op k : ℕ) → operands_of k ≡ ByteLocal → (op == k) ≡ true → operands_of op ≡ ByteLocal
is_local op k e h = ap operands_of (eqb-true op k h) ∙ e

iload : operands_of jvm.ILOAD ≡ ByteLocal
unfolding operands_of
iload = refl

lload : operands_of jvm.LLOAD ≡ ByteLocal
unfolding operands_of
lload = refl

aload : operands_of jvm.ALOAD ≡ ByteLocal
unfolding operands_of
aload = refl

istore : operands_of jvm.ISTORE ≡ ByteLocal
unfolding operands_of
istore = refl

lstore : operands_of jvm.LSTORE ≡ ByteLocal
unfolding operands_of
lstore = refl

astore : operands_of jvm.ASTORE ≡ ByteLocal
unfolding operands_of
astore = refl

-- the loads and stores that may stand behind wide
pub names_local_is : (op : ℕ) → names_local op ≡ true → operands_of op ≡ ByteLocal
names_local_is op h =
    either _ (op == jvm.ASTORE) h (λ h. either _ (op == jvm.LSTORE) h (λ h. either _ (op == jvm.ISTORE) h (λ h. either _ (op == jvm.ALOAD) h (λ h. either (op == jvm.ILOAD) (op == jvm.LLOAD) h
    (is_local op jvm.ILOAD iload) (is_local op jvm.LLOAD lload)) (is_local op jvm.ALOAD aload)) (is_local op jvm.ISTORE istore)) (is_local op jvm.LSTORE lstore)) (is_local op jvm.ASTORE astore)

pub increment_is : operands_of jvm.IINC ≡ Increment
unfolding operands_of
increment_is = refl
