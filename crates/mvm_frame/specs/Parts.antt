-- The frames of a thread (JVM Specification 2.6).
use Rattle.std.specs.Prelude.{ℕ, List, [], ◌∷◌, Option, Some, None}
use Rattle.mvm_frame.specs.declared.slot.Slot.{Slot}
use Rattle.mvm_frame.specs.declared.key.FrameKey.{FrameKey}

-- an operand stack: how many slots it may hold, and those that it holds, the top first
pub record Operands : Type 0 where
  pub depth : ℕ
  pub slots : List Slot

pub record Frame : Type 0 where
  pub key : FrameKey
  pub pc : ℕ
  pub locals : List Slot
  pub operands : Operands

-- what lies below the top frame's values: its key, if there is a frame, the callers, the nearest first, and how many frames
-- and words there may be
pub record Below : Type 0 where
  pub key : Option FrameKey
  pub callers : List Frame
  pub most : ℕ
  pub words : ℕ

-- all but the operands of the top frame
pub record Rest : Type 0 where
  pub pc : ℕ
  pub locals : List Slot
  pub below : Below

-- A stack of frames. Without a frame there is no local variable, and no operand fits.
pub record StackParts : Type 0 where
  pub operands : Operands
  pub rest : Rest

-- ---- the stack as the list of its frames, the top one first, within so many frames and so many words

abbrev pub frames_by : Option FrameKey → StackParts → List Frame
frames_by None s = []
frames_by (Some key) s = record { key = key; pc = s.rest.pc; locals = s.rest.locals; operands = s.operands } ∷ s.rest.below.callers

abbrev pub frames_of : StackParts → List Frame
frames_of s = frames_by s.rest.below.key s

abbrev pub stack_with : List Frame → ℕ → ℕ → StackParts
stack_with [] most words = record {
  operands = record { depth = 0; slots = [] };
  rest = record { pc = 0; locals = []; below = record { key = None; callers = []; most = most; words = words } };
}
stack_with (f ∷ fs) most words = record {
  operands = f.operands;
  rest = record { pc = f.pc; locals = f.locals; below = record { key = Some f.key; callers = fs; most = most; words = words } };
}
