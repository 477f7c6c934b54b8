-- What the instructions of one frame do, group by group (JVM Specification 6.5). Of two operands the second one is on top.
use Rattle.std.specs.Prelude.{ℕ, ◌^◌, ℤ, pos, negsuc, ◌+ℤ◌, List, Bool, true, false, not, nat_lt, if◌then◌else◌, Option, Some, None, Result, Ok, Err, unwrap_or}
use Rattle.std.specs.Int.{w32}
use Rattle.mvm_base.specs.Answers.{◌>>=◌}
use Rattle.mvm_base.specs.declared.value.Kind.{Kind}
use Rattle.mvm_base.specs.declared.value.Kind.TheVariants as kind
use Rattle.mvm_base.specs.declared.value.Word.TheVariants as word
use Rattle.mvm_insn.specs.Rows.{SwitchParts, target_in}
use Rattle.mvm_arith.specs.Numbers.{reduced, compared}
use Rattle.mvm_frame.specs.declared.slot.Slot.{Slot}
use Rattle.mvm_frame.specs.declared.shuffle_rows.Shuffle.{Shuffle as Move}
use Rattle.mvm_frame.specs.ShuffleRows.{shuffle_of}
use Rattle.mvm_frame.specs.Parts.{Operands}
use Rattle.mvm_frame.specs.Calls.{shuffle_slots}
use Rattle.mvm_local.specs.declared.action.Operation.{Operation}
use Rattle.mvm_local.specs.declared.action.Operation.TheVariants.{Nothing, PushNull, PushInt, PushLong, Shuffle, Ints, NegateInt, Longs, NegateLong, ShiftLong, Convert, Compare}
use Rattle.mvm_local.specs.declared.action.Test.{Test}
use Rattle.mvm_local.specs.declared.action.Test.TheVariants.{Always, Zero, Ints as TwoInts, Same, Different, Null, NonNull}
use Rattle.mvm_local.specs.declared.action.Condition.{Condition}
use Rattle.mvm_local.specs.declared.beyond.BeyondAt.{BeyondAt}
use Rattle.mvm_local.specs.declared.fault.Fault.{Fault}
use Rattle.mvm_local.specs.declared.fault.Fault.TheVariants.{Verify}
use Rattle.mvm_local.specs.Values.{int_of, long_of, shifted_long, word_of, holds, is_same, is_null}
use Rattle.mvm_local.specs.Body.{Body, verified, pushed, popped, popped_int, popped_long, variable, int_variable, stored}

-- ---- the operands alone

abbrev pub shuffled_by : Option Move → Operands → Result Operands Fault
shuffled_by (Some shuffle) o = verified (shuffle_slots shuffle o)
shuffled_by None o = Err Verify

-- `pop` to `swap`
unfoldable pub shuffle : ℕ → Operands → Result Operands Fault
shuffle op o = shuffled_by (shuffle_of op) o

-- `iadd` to `ixor`: two ints are popped, and what is computed of them is pushed
unfoldable pub ints : ℕ → Operands → Result Operands Fault
ints op o = do
  y ← popped_int o
  x ← popped_int y.1
  n ← int_of op x.0 y.0
  pushed (word.Int n) x.1

-- `ineg`
unfoldable pub negate_int : ℕ → Operands → Result Operands Fault
negate_int op o = do
  x ← popped_int o
  n ← int_of op x.0 (pos 0)
  pushed (word.Int n) x.1

-- `ladd` to `lxor`, but the shifts
unfoldable pub longs : ℕ → Operands → Result Operands Fault
longs op o = do
  y ← popped_long o
  x ← popped_long y.1
  n ← long_of op x.0 y.0
  pushed (word.Long n) x.1

-- `lneg`
unfoldable pub negate_long : ℕ → Operands → Result Operands Fault
negate_long op o = do
  x ← popped_long o
  n ← long_of op x.0 (pos 0)
  pushed (word.Long n) x.1

-- `lshl`, `lshr`, `lushr`: an int, the distance, is popped, and then the long
unfoldable pub shift_long : ℕ → Operands → Result Operands Fault
shift_long op o = do
  distance ← popped_int o
  x ← popped_long distance.1
  n ← shifted_long op x.0 distance.0
  pushed (word.Long n) x.1

-- `i2l`, `l2i`, `i2b`, `i2c`, `i2s`
unfoldable pub convert : Kind → ℕ → Operands → Result Operands Fault
convert k op o = do
  x ← popped k o
  w ← word_of op x.0
  pushed w x.1

-- `lcmp`
unfoldable pub compare : Operands → Result Operands Fault
compare o = do
  y ← popped_long o
  x ← popped_long y.1
  pushed (word.Int (compared x.0 y.0)) x.1

unfoldable pub operate : Operation → ℕ → Operands → Result Operands Fault
operate Nothing op o = Ok o
operate PushNull op o = pushed word.Null o
operate (PushInt n) op o = pushed (word.Int n) o
operate (PushLong n) op o = pushed (word.Long n) o
operate Shuffle op o = shuffle op o
operate Ints op o = ints op o
operate NegateInt op o = negate_int op o
operate Longs op o = longs op o
operate NegateLong op o = negate_long op o
operate ShiftLong op o = shift_long op o
operate (Convert k) op o = convert k op o
operate Compare op o = compare o

-- ---- tests: whether a branch is taken

unfoldable pub zero_test : Condition → Operands → Result (Bool × Operands) Fault
zero_test condition o = do
  x ← popped_int o
  Ok (holds condition x.0 (pos 0), x.1)

unfoldable pub ints_test : Condition → Operands → Result (Bool × Operands) Fault
ints_test condition o = do
  y ← popped_int o
  x ← popped_int y.1
  Ok (holds condition x.0 y.0, x.1)

unfoldable pub same_test : Operands → Result (Bool × Operands) Fault
same_test o = do
  y ← popped kind.Ref o
  x ← popped kind.Ref y.1
  Ok (is_same x.0 y.0, x.1)

unfoldable pub null_test : Operands → Result (Bool × Operands) Fault
null_test o = do
  x ← popped kind.Ref o
  Ok (is_null x.0, x.1)

abbrev pub turned : Bool × Operands → Result (Bool × Operands) Fault
turned t = Ok (not t.0, t.1)

unfoldable pub tested : Test → Operands → Result (Bool × Operands) Fault
tested Always o = Ok (true, o)
tested (Zero condition) o = zero_test condition o
tested (TwoInts condition) o = ints_test condition o
tested Same o = same_test o
tested Different o = same_test o >>= turned
tested Null o = null_test o
tested NonNull o = null_test o >>= turned

-- a target as a place in the code; no instruction stands before the code or 2^32 bytes into it
unfoldable pub place_of : ℤ → Result ℕ Fault
place_of (pos n) = if nat_lt n (2 ^ 32) then Ok n else Err Verify
place_of (negsuc n) = Err Verify

unfoldable pub place_after : Bool → ℤ → ℕ → Result ℕ Fault
place_after true target next = place_of target
place_after false target next = Ok next

-- ---- whole instructions; `next` is the place behind the instruction

-- an instruction that reaches beyond its frame, or none, and the frame that is left
abbrev pub Attempted : Type 0
Attempted = Result (Option BeyondAt × Body) Fault

-- the instruction is done: the next one is at a place
abbrev pub done : ℕ → List Slot → Operands → Attempted
done place locals o = Ok (None, record { pc = place; locals = locals; operands = o })

unfoldable pub operated : Operation → ℕ → ℕ → Body → Attempted
operated operation op next b = do
  o ← operate operation op b.operands
  done next b.locals o

-- `bipush`, `sipush`
unfoldable pub number : ℤ → ℕ → Body → Attempted
number n next b = do
  o ← pushed (word.Int n) b.operands
  done next b.locals o

-- `iload`, `lload`, `aload` and their short forms
unfoldable pub load : Kind → ℕ → ℕ → Body → Attempted
load k n next b = do
  w ← variable k n b.locals
  o ← pushed w b.operands
  done next b.locals o

-- `istore`, `lstore`, `astore` and their short forms
unfoldable pub store : Kind → ℕ → ℕ → Body → Attempted
store k n next b = do
  w ← popped k b.operands
  locals ← stored n w.0 b.locals
  done next locals w.1

-- `iinc`: the sum is reduced to 32 bits (2.3.1)
unfoldable pub increment : ℕ → ℤ → ℕ → Body → Attempted
increment n by next b = do
  x ← int_variable n b.locals
  locals ← stored n (word.Int (reduced w32 (x +ℤ by))) b.locals
  done next locals b.operands

-- a branch to a target
unfoldable pub branch : Test → ℤ → ℕ → Body → Attempted
branch test target next b = do
  t ← tested test b.operands
  place ← place_after t.0 target next
  done place b.locals t.1

-- `tableswitch`, `lookupswitch`: to the target of the row whose key is on top, or where no row has it, the one for such keys
unfoldable pub switch : SwitchParts → Body → Attempted
switch parts b = do
  key ← popped_int b.operands
  place ← place_of (unwrap_or (target_in parts.rows key.0) parts.otherwise)
  done place b.locals key.1
