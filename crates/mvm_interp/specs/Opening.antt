-- What an isolate begins with, part by part.
use Rattle.std.specs.Prelude.{◌≡◌, ℕ, [], ◌∷◌, ◌++◌, false, None}
use Rattle.mvm_frame.specs.Parts.{stack_with}
use Rattle.mvm_heap.specs.Heap.{free}
use Rattle.mvm_isolate.specs.Isolate.{Isolate}
use Rattle.mvm_isolate.specs.Thrown.{name_of_thrown}
use Rattle.mvm_isolate.specs.Types.{of_class}
use Rattle.mvm_current.specs.declared.limits.TheConstants.{MOST_FRAME_WORDS}
use Rattle.mvm_native.specs.declared.env.LinkUse.{LinkUse}
use Rattle.mvm_native.specs.declared.out.Thrown.{Thrown}
use Rattle.mvm_object.specs.declared.state.ThreadState.TheVariants.{Ended}
use Rattle.mvm_thread.specs.State as begun
use Rattle.mvm_interp.specs.declared.row.ThreadRow.{ThreadRow}

-- a link on which no thread sends or receives, and that is not closed
abbrev pub unused : LinkUse
unused = record { closed = false; sender = None; receiver = None }

-- nobody has used the row
pub record IsUnused (frames : ℕ) (row : ThreadRow) : Type 0 where
  pub stack : row.stack ≡ stack_with [] frames MOST_FRAME_WORDS
  pub state : row.state ≡ Ended

-- the isolate with one more object, of this class, which is set aside
abbrev pub with_set_aside : Thrown → Isolate → Isolate
with_set_aside thrown s = record s {
  heap = record s.heap { objects = s.heap.objects ++ begun.set_aside ∷ []; monitors = s.heap.monitors ++ free ∷ [] };
  types = s.types ++ of_class (name_of_thrown thrown) ∷ [];
}
