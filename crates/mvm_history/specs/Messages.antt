-- How much a message counts.
use Rattle.std.specs.Prelude.{ℕ, ◌+◌, ◌*◌, List, [], ◌∷◌, length}
use Rattle.mvm_history.specs.declared.entry.Entry.{Entry}
use Rattle.mvm_history.specs.declared.event.Event.{Event}
use Rattle.mvm_history.specs.declared.event.Event.TheVariants.{Offer, Receipt}
use Rattle.mvm_history.specs.declared.message.Message.{Message}
use Rattle.mvm_history.specs.declared.message.Message.TheVariants.{Ints, Longs, Bytes, Text}

-- the bytes of a message: 4 for an int, 8 for a long, 1 for a byte, 2 for a unit of a text
unfoldable pub size_of : Message → ℕ
size_of (Ints items) = 4 * length items
size_of (Longs items) = 8 * length items
size_of (Bytes items) = length items
size_of (Text units) = 2 * length units

-- the bytes that an event sends or receives
abbrev pub bytes_in : Event → ℕ
bytes_in (Offer link thread message) = size_of message
bytes_in (Receipt link thread message sent) = size_of message
bytes_in _ = 0

-- the bytes that a history sends and receives
unfoldable pub message_bytes : List Entry → ℕ
message_bytes [] = 0
message_bytes (e ∷ es) = bytes_in e.what + message_bytes es
