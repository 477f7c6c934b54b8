-- Whether an array may hold the reference that is stored, by operands that are read in place (JVM Specification 6.5, aastore).
use Rattle.std.specs.Prelude.{ℕ, List, Bool, true, Option, Some, slice_get}
use Rattle.mvm_frame.specs.declared.slot.Slot.{Slot}
use Rattle.mvm_frame.specs.declared.slot.Slot.TheVariants.{Ref}
use Rattle.mvm_isolate.specs.Isolate.{Isolate}
use Rattle.mvm_isolate.specs.Look.{Look}
use Rattle.mvm_isolate.specs.Receivers.{is_element}

abbrev pub held_value : Look → Isolate → ℕ → Option Slot → Bool
held_value look s array (Some (Ref object)) = is_element look s array object
held_value look s array _ = true

abbrev pub held_by : Look → Isolate → Option Slot → Option Slot → Bool
held_by look s (Some (Ref array)) value = held_value look s array value
held_by look s _ value = true

-- the array stands below the index, and that below the value; null is held, and what is no reference is refused elsewhere
abbrev pub held_on : Look → Isolate → List Slot → Bool
held_on look s slots = held_by look s (slice_get slots 2) (slice_get slots 0)
