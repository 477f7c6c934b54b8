-- How links stand on the side of an isolate, once a thread of it waits for the other end of one.
use Rattle.std.specs.Prelude.{ℕ, List, nat_lt, if◌then◌else◌, Option, Some, None, slice_get, slice_set}
use Rattle.mvm_native.specs.declared.env.LinkUse.{LinkUse}
use Rattle.mvm_object.specs.declared.state.ThreadState.{ThreadState}
use Rattle.mvm_object.specs.declared.state.ThreadState.TheVariants as state

-- the lower of the two numbers
abbrev pub earliest : ℕ → Option ℕ → ℕ
earliest thread (Some other) = if nat_lt other thread then other else thread
earliest thread None = thread

abbrev pub sending_use : ℕ → LinkUse → LinkUse
sending_use thread use_of = record use_of { sender = Some (earliest thread use_of.sender) }

abbrev pub receiving_use : ℕ → LinkUse → LinkUse
receiving_use thread use_of = record use_of { receiver = Some (earliest thread use_of.receiver) }

abbrev pub updated : ℕ → (LinkUse → LinkUse) → Option LinkUse → List LinkUse → List LinkUse
updated link change (Some use_of) links = slice_set links link (change use_of)
updated link change None links = links

-- the links as they stand once the thread of a number does this
abbrev pub linked : ℕ → ThreadState → List LinkUse → List LinkUse
linked thread (state.Sending link) links = updated link (sending_use thread) (slice_get links link) links
linked thread (state.Receiving link) links = updated link (receiving_use thread) (slice_get links link) links
linked thread _ links = links
