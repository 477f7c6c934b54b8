-- The frames of a thread, by names (JVM Specification 2.6).
use Rattle.std.specs.Prelude.{ℕ, ◌+◌, ◌-◌, List, [], ◌∷◌, ◌++◌, length, take, drop, reverse, replicate, Bool, ◌&&◌, nat_lt, nat_le, if◌then◌else◌, Option, Some, None, Result, Ok, Err}
use Rattle.mvm_base.specs.Answers.{◌>>=◌}
use Rattle.mvm_base.specs.declared.value.Kind.{Kind}
use Rattle.mvm_base.specs.declared.value.Word.{Word}
use Rattle.mvm_frame.specs.Calls.{push, pop}
use Rattle.mvm_frame.specs.Parts.{Operands}
use Rattle.mvm_frame.specs.declared.refused.Refused.{Refused}
use Rattle.mvm_frame.specs.declared.slot.Slot.{Slot}
use Rattle.mvm_frame.specs.declared.slot.Slot.TheVariants.{Unset}
use Rattle.mvm_history.specs.declared.limits.Limits.{Limits}
use Rattle.mvm_isolate.specs.Isolate.{Isolate, stopped}
use Rattle.mvm_isolate.specs.declared.stop.Stop.{Stop}
use Rattle.mvm_local.specs.Body.{Body}
use Rattle.mvm_native.specs.declared.out.Thrown.TheVariants.{VerifyError, StackOverflowError}
use Rattle.mvm_current.specs.declared.limits.TheConstants.{MOST_FRAME_WORDS}

-- what a frame is for
pub data Runs : Type 0 where
  -- the method of this name and descriptor that the class of this name declares
  method : List ℕ → List ℕ → List ℕ → Runs
  -- the start of the thread
  starting : Runs
  -- the initialisation of the class of this name (5.5): in stage 1 its supers come first, in stage 2 its `<clinit>` was called
  initialising : List ℕ → Runs

pub record Frame : Type 0 where
  pub runs : Runs
  -- the object whose monitor the call entered
  pub lock : Option ℕ
  -- the pc, which of an initialisation is its stage; the local variables; the operand stack
  pub body : Body

abbrev pub SUPERS : ℕ
SUPERS = 1

abbrev pub LAST : ℕ
LAST = 2

-- ---- the values of one frame: each refusal is a VerifyError

abbrev pub verified : {A : Type 0} → Result A Refused → Result A Stop
verified (Ok x) = Ok x
verified (Err refused) = stopped VerifyError

abbrev pub with_operands : Operands → Frame → Frame
with_operands operands f = record f { body = record f.body { operands = operands } }

unfoldable pub pushed : Word → Frame → Result Frame Stop
pushed word f = verified (push word f.body.operands) >>= λ operands. Ok (with_operands operands f)

unfoldable pub popped : Kind → Frame → Result (Word × Frame) Stop
popped kind f = verified (pop kind f.body.operands) >>= λ x. Ok (x.0, with_operands x.1 f)

-- the frame goes on at this place
abbrev pub at_place : ℕ → Frame → Frame
at_place pc f = record f { body = record f.body { pc = pc } }

-- ---- how many frames there may be

-- how many local variables and operands a frame has room for
abbrev pub reach : Frame → ℕ
reach f = f.body.operands.depth + length f.body.locals

abbrev pub reached : List Frame → ℕ
reached [] = 0
reached (f ∷ fs) = reach f + reached fs

-- one frame more, of so many local variables and operands, is within the limits of the thread
unfoldable pub has_room : Limits → ℕ → ℕ → List Frame → Bool
has_room limits locals depth fs = nat_lt (length fs) limits.frames && nat_le (reached fs + locals + depth) MOST_FRAME_WORDS

abbrev pub if_room : Limits → Frame → List Frame → Result (List Frame) Stop
if_room limits f fs = if has_room limits (length f.body.locals) f.body.operands.depth fs then Ok (f ∷ fs) else stopped StackOverflowError

-- ---- new frames

-- the frame of a call: its first local variables are the slots that were on top of the caller's operands, the lowest of them first
abbrev pub called_frame : Runs → Option ℕ → ℕ → ℕ → ℕ → List Slot → Frame
called_frame runs lock locals depth count slots = record {
  runs = runs;
  lock = lock;
  body = record {
    pc = 0;
    locals = reverse (take count slots) ++ replicate (locals - count) Unset;
    operands = record { depth = depth; slots = [] };
  };
}

-- the caller without so many slots; its pc stays at the call
abbrev pub without : ℕ → Frame → Frame
without count f = with_operands (record f.body.operands { slots = drop count f.body.operands.slots }) f

-- the frame of an initialisation, or of a start: it has neither local variables nor operands
abbrev pub bare_frame : Runs → ℕ → Frame
bare_frame runs pc = record { runs = runs; lock = None; body = record { pc = pc; locals = []; operands = record { depth = 0; slots = [] } } }
