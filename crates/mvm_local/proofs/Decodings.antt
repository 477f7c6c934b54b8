-- What an attempt comes to, by the row of the opcode and the bytes behind it.
use Rattle.std.proofs.Common.{◌≡◌, ℕ, ◌+◌, List, slice_get, Option, Some, None, refl}
use Rattle.std.specs.Prelude.{ℤ, pos, ◌+ℤ◌, Ok}
use Rattle.std.specs.Int.{w8, w16, cast_signed}
use Rattle.mvm_base.specs.declared.value.Kind.{Kind}
use Rattle.mvm_insn.specs.Opcodes.{operands_of}
use Rattle.mvm_insn.specs.Insns.{insn, read_at, operands, byte_local, byte_number, short_number, short_jump, short_pool, increment as read_increment}
use Rattle.mvm_insn.specs.declared.table.Operands.TheVariants.{Alone, ByteNumber, ShortNumber, ShortPool, ByteLocal, Increment, ShortJump}
use Rattle.mvm_local.specs.declared.action.Action.{Action}
use Rattle.mvm_local.specs.declared.action.Action.TheVariants as action
use Rattle.mvm_local.specs.declared.action.Operation.{Operation}
use Rattle.mvm_local.specs.declared.action.Test.{Test}
use Rattle.mvm_local.specs.declared.beyond.Beyond.TheVariants.{Plain, Pool}
use Rattle.mvm_local.specs.Rows.{action_of, action_at}
use Rattle.mvm_local.specs.Bytes.{Stands}
use Rattle.mvm_local.specs.Body.{Body}
use Rattle.mvm_local.specs.Groups.{operated, number, load, store, increment, branch}
use Rattle.mvm_local.specs.Attempts.{plain, with_local, jump, performed, fetched, attempt, beyond}
use Rattle.mvm_local.proofs.CodeBytes.{one_byte}
use Rattle.mvm_local.proofs.Shapes.{Opcode, opcode, shape_is}

-- ---- nothing behind the opcode

pub operated_is : (code : List ℕ) (pc op : ℕ) (x : Operation) (b : Body) → b.pc ≡ pc → slice_get code pc ≡ Some op → action_of op ≡ action.Operate x → attempt code b ≡ operated x op (pc + 1) b
unfolding attempt fetched insn read_at operands performed plain
operated_is code pc op x b at e acts = rw (at, (one_byte code pc op e).read, shape_is op (action.Operate x) Alone acts refl, acts) refl

pub load_from_is : (code : List ℕ) (pc op n : ℕ) (k : Kind) (b : Body) → b.pc ≡ pc → slice_get code pc ≡ Some op → action_of op ≡ action.LoadFrom k n → attempt code b ≡ load k n (pc + 1) b
unfolding attempt fetched insn read_at operands performed plain
load_from_is code pc op n k b at e acts = rw (at, (one_byte code pc op e).read, shape_is op (action.LoadFrom k n) Alone acts refl, acts) refl

pub store_to_is : (code : List ℕ) (pc op n : ℕ) (k : Kind) (b : Body) → b.pc ≡ pc → slice_get code pc ≡ Some op → action_of op ≡ action.StoreTo k n → attempt code b ≡ store k n (pc + 1) b
unfolding attempt fetched insn read_at operands performed plain
store_to_is code pc op n k b at e acts = rw (at, (one_byte code pc op e).read, shape_is op (action.StoreTo k n) Alone acts refl, acts) refl

pub beyond_is : (code : List ℕ) (pc op : ℕ) (b : Body) → b.pc ≡ pc → slice_get code pc ≡ Some op → action_of op ≡ action.Beyond → operands_of op ≡ Alone → attempt code b ≡ beyond (Plain op) (pc + 1) b
unfolding attempt fetched insn read_at operands performed plain
beyond_is code pc op b at e acts shape = rw (at, (one_byte code pc op e).read, shape, acts) refl

-- ---- one byte or two behind it

pub load_is : (code : List ℕ) (pc n : ℕ) (k : Kind) (b : Body) → b.pc ≡ pc → action_at pc code ≡ action.Load k → Stands 1 (pc + 1) code n → attempt code b ≡ load k n (pc + 1 + 1) b
unfolding attempt fetched insn read_at operands byte_local performed with_local
load_is code pc n k b at acts byte = (let o = opcode code pc (action.Load k) ByteLocal refl acts in rw (at, o.stands.read, o.shape, byte.read, o.acts) refl)

pub store_is : (code : List ℕ) (pc n : ℕ) (k : Kind) (b : Body) → b.pc ≡ pc → action_at pc code ≡ action.Store k → Stands 1 (pc + 1) code n → attempt code b ≡ store k n (pc + 1 + 1) b
unfolding attempt fetched insn read_at operands byte_local performed with_local
store_is code pc n k b at acts byte = (let o = opcode code pc (action.Store k) ByteLocal refl acts in rw (at, o.stands.read, o.shape, byte.read, o.acts) refl)

pub push_byte_is : (code : List ℕ) (pc n : ℕ) (b : Body) → b.pc ≡ pc → action_at pc code ≡ action.PushByte → Stands 1 (pc + 1) code n → attempt code b ≡ number (cast_signed w8 n) (pc + 1 + 1) b
unfolding attempt fetched insn read_at operands byte_number performed
push_byte_is code pc n b at acts byte = (let o = opcode code pc action.PushByte ByteNumber refl acts in rw (at, o.stands.read, o.shape, byte.read) refl)

pub push_short_is : (code : List ℕ) (pc n : ℕ) (b : Body) → b.pc ≡ pc → action_at pc code ≡ action.PushShort → Stands 2 (pc + 1) code n → attempt code b ≡ number (cast_signed w16 n) (pc + 1 + 2) b
unfolding attempt fetched insn read_at operands short_number performed
push_short_is code pc n b at acts bytes = (let o = opcode code pc action.PushShort ShortNumber refl acts in rw (at, o.stands.read, o.shape, bytes.read) refl)

pub increment_is : (code : List ℕ) (pc n by : ℕ) (b : Body) → b.pc ≡ pc → action_at pc code ≡ action.Increment → Stands 1 (pc + 1) code n → Stands 1 (pc + 1 + 1) code by → attempt code b ≡ increment n (cast_signed w8 by) (pc + 1 + 1 + 1) b
unfolding attempt fetched insn read_at operands read_increment performed
increment_is code pc n by b at acts local byte = (let o = opcode code pc action.Increment Increment refl acts in rw (at, o.stands.read, o.shape, local.read, byte.read) refl)

pub branch_is : (code : List ℕ) (pc n : ℕ) (test : Test) (b : Body) → b.pc ≡ pc → action_at pc code ≡ action.Branch test → Stands 2 (pc + 1) code n → attempt code b ≡ branch test (pos pc +ℤ cast_signed w16 n) (pc + 1 + 2) b
unfolding attempt fetched insn read_at operands short_jump performed jump
branch_is code pc n test b at acts bytes = (let o = opcode code pc (action.Branch test) ShortJump refl acts in rw (at, o.stands.read, o.shape, bytes.read, o.acts) refl)

pub pool_is : (code : List ℕ) (pc op n : ℕ) (b : Body) → b.pc ≡ pc → slice_get code pc ≡ Some op → operands_of op ≡ ShortPool → Stands 2 (pc + 1) code n → attempt code b ≡ beyond (Pool op n) (pc + 1 + 2) b
unfolding attempt fetched insn read_at operands short_pool performed
pool_is code pc op n b at e shape bytes = rw (at, (one_byte code pc op e).read, shape, bytes.read) refl
