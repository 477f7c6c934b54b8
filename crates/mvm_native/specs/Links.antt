-- What the methods of Link do. Their tests come in this order: whether the isolate is the right end of the link; null; how many
-- elements there are; whether the link is closed; whether another thread is at it.
use Rattle.std.specs.Prelude.{◌≡◌, ◌<◌, ℕ, ℤ, pos, negsuc, List, length, map, Bool, false, true, ◌||◌, ◌==◌, nat_lt, slice_get, slice_index_or, Option, Some, None, if◌then◌else◌}
use Rattle.mvm_base.specs.declared.value.Word.{Word}
use Rattle.mvm_base.specs.declared.value.Word.TheVariants.{Ref}
use Rattle.mvm_heap.specs.Heap.{object_at}
use Rattle.mvm_heap.specs.Objects.{Object}
use Rattle.mvm_heap.specs.Sorts.{item_of}
use Rattle.mvm_heap.specs.declared.kind.ItemKind.TheVariants as item
use Rattle.mvm_heap.specs.declared.kind.ObjectKind.{ObjectKind}
use Rattle.mvm_heap.specs.declared.kind.ObjectKind.TheVariants.{Array, Text}
use Rattle.mvm_history.specs.declared.ask.Ask.TheVariants.{Close}
use Rattle.mvm_history.specs.declared.launch.Launch.{Launch}
use Rattle.mvm_history.specs.declared.launch.LinkRow.{LinkRow}
use Rattle.mvm_history.specs.declared.message.TheConstants.{MOST_ELEMENTS}
use Rattle.mvm_history.specs.declared.message.Message.{Message}
use Rattle.mvm_history.specs.declared.message.Message.TheVariants as message
use Rattle.mvm_native.specs.declared.env.LinkUse.{LinkUse}
use Rattle.mvm_native.specs.declared.link.End.{End}
use Rattle.mvm_native.specs.declared.link.End.TheVariants as end
use Rattle.mvm_native.specs.declared.link.Sendable.{Sendable}
use Rattle.mvm_native.specs.declared.link.Sendable.TheVariants as what
use Rattle.mvm_native.specs.declared.out.Out.{Out}
use Rattle.mvm_native.specs.declared.out.Out.TheVariants.{Throw, Act}
use Rattle.mvm_native.specs.declared.out.Act.TheVariants.{Offer, Receive, Ask}
use Rattle.mvm_native.specs.declared.out.Thrown.TheVariants.{ClosedLinkException, IllegalArgumentException, IllegalStateException, NullPointerException}
use Rattle.mvm_native.specs.Arguments.{int_of, long_of}
use Rattle.mvm_native.specs.Machine.{Machine}

-- ---- links by number

-- the isolate sends over the link, or receives over it, or either
abbrev pub is_end : End → ℕ → LinkRow → Bool
is_end end.Sending isolate row = row.from == isolate
is_end end.Receiving isolate row = row.to == isolate
is_end end.Either isolate row = row.from == isolate || row.to == isolate

abbrev pub link_if : End → ℕ → ℕ → Option LinkRow → Option ℕ
link_if end isolate link None = None
link_if end isolate link (Some row) = if is_end end isolate row then Some link else None

-- the link of a number, where there is one and the isolate is such an end of it
abbrev pub link_at : End → ℤ → Launch → Option ℕ
link_at end (pos link) launch = link_if end launch.number link (slice_get launch.links link)
link_at end (negsuc link) launch = None

abbrev pub unused : LinkUse
unused = record { closed = false; sender = None; receiver = None }

-- how a link stands on this side
abbrev pub use_of : List LinkUse → ℕ → LinkUse
use_of uses link = slice_index_or uses link unused

abbrev pub is_another : ℕ → Option ℕ → Bool
is_another thread None = false
is_another thread (Some user) = if user == thread then false else true

-- ---- send

-- an item of an array as a load gives it
abbrev pub int_in : ℕ → ℤ
int_in n = int_of (item_of item.Int n)

abbrev pub long_in : ℕ → ℤ
long_in n = long_of (item_of item.Long n)

abbrev pub byte_in : ℕ → ℤ
byte_in n = int_of (item_of item.Byte n)

-- a copy of what is sent
abbrev pub message_of : Sendable → List ℕ → Message
message_of what.Ints items = message.Ints (map int_in items)
message_of what.Longs items = message.Longs (map long_in items)
message_of what.Bytes items = message.Bytes (map byte_in items)
message_of what.Units items = message.Text items

abbrev pub offered : Sendable → ℕ → List ℕ → LinkUse → ℕ → Out
offered kind link items state thread =
    if nat_lt MOST_ELEMENTS (length items) then Throw IllegalArgumentException else (
    if state.closed then Throw ClosedLinkException else (
    if is_another thread state.sender then Throw IllegalStateException else
    Act (Offer link (message_of kind items))))

abbrev pub sent_over : Sendable → Option ℕ → Word → Machine → Out
sent_over kind None word m = Throw IllegalArgumentException
sent_over kind (Some link) (Ref n) m = offered kind link (object_at m.heap.objects n).contents (use_of m.links link) m.thread
sent_over kind (Some link) _ m = Throw NullPointerException

unfoldable pub send : Sendable → ℤ → Word → Machine → Out
send kind link word m = sent_over kind (link_at end.Sending link m.launch) word m

-- the sort of what is sent
abbrev pub sort_of : Sendable → ObjectKind
sort_of what.Ints = Array item.Int
sort_of what.Longs = Array item.Long
sort_of what.Bytes = Array item.Byte
sort_of what.Units = Text

abbrev pub IsSendable : Sendable → List Object → Word → Type 0
IsSendable kind os (Ref n) = (n < length os) × ((object_at os n).sort ≡ sort_of kind)
IsSendable kind os _ = Unit {0}

-- ---- receive and close

abbrev pub received : ℕ → LinkUse → ℕ → Out
received link state thread =
    if state.closed then Throw ClosedLinkException else (
    if is_another thread state.receiver then Throw IllegalStateException else
    Act (Receive link))

abbrev pub received_over : Option ℕ → Machine → Out
received_over None m = Throw IllegalArgumentException
received_over (Some link) m = received link (use_of m.links link) m.thread

unfoldable pub receive : ℤ → Machine → Out
receive link m = received_over (link_at end.Receiving link m.launch) m

abbrev pub closed_over : Option ℕ → Out
closed_over None = Throw IllegalArgumentException
closed_over (Some link) = Act (Ask (Close link))

unfoldable pub close : ℤ → Machine → Out
close link m = closed_over (link_at end.Either link m.launch)
