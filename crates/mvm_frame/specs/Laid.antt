-- Where the frames lie in the array.
use Rattle.std.specs.Prelude.{◌≡◌, ℕ, ◌-◌, ◌<◌, ◌≤◌, ◌^◌, List, [], ◌∷◌, length, take, drop, Option, Some, None}
use Rattle.mvm_frame.specs.declared.slot.Slot.{Slot}
use Rattle.mvm_frame.specs.declared.key.FrameKey.{FrameKey}
use Rattle.mvm_frame.specs.declared.rows.Row.{Row}
use Rattle.mvm_frame.specs.RowsParts.{RowsParts}
use Rattle.mvm_frame.specs.Parts.{Operands, Frame, StackParts}

-- the slots from one place up to another
unfoldable pub part : ℕ → ℕ → List Slot → List Slot
part from to slots = take (to - from) (drop from slots)

abbrev pub operands_of : Row → List Slot → Operands
operands_of r slots = record { depth = r.bottom - r.floor; slots = part r.sp r.bottom slots }

abbrev pub frame_of : Row → List Slot → Frame
frame_of r slots = record { key = r.key; pc = r.pc; locals = part r.bottom r.base slots; operands = operands_of r slots }

-- the last row is that of no frame
unfoldable pub callers_of : List Row → List Slot → List Frame
callers_of [] slots = []
callers_of (r ∷ []) slots = []
callers_of (r ∷ s ∷ rs) slots = frame_of r slots ∷ callers_of (s ∷ rs) slots

abbrev pub key_of : FrameKey → List Row → Option FrameKey
key_of key [] = None
key_of key (r ∷ rs) = Some key

abbrev pub pc_of : ℕ → List Row → ℕ
pc_of pc [] = 0
pc_of pc (r ∷ rs) = pc

abbrev pub stack_of : Row → RowsParts → List Slot → StackParts
stack_of top callers slots = record {
  operands = operands_of top slots;
  rest = record {
    pc = pc_of top.pc callers.rows;
    locals = part top.bottom top.base slots;
    below = record {
      key = key_of top.key callers.rows;
      callers = callers_of callers.rows slots;
      most = callers.most;
      words = length slots;
    };
  };
}

pub record InOrder (r : Row) (n : ℕ) : Type 0 where
  pub floor : r.floor ≤ r.sp
  pub sp : r.sp ≤ r.bottom
  pub bottom : r.bottom ≤ r.base
  pub base : r.base ≤ n

-- each frame ends where its caller begins, and the last row stands for no frame
unfoldable pub Beneath : ℕ → ℕ → List Row → ℕ → Type 0
Beneath floor base [] n = floor ≡ n
Beneath floor base (r ∷ rs) n = (base ≡ r.floor) × InOrder r n × Beneath r.floor r.base rs n

pub record Stands (top : Row) (rows : List Row) (slots : List Slot) : Type 0 where
  pub few : length slots < 2 ^ 32
  pub order : InOrder top (length slots)
  pub beneath : Beneath top.floor top.base rows (length slots)
