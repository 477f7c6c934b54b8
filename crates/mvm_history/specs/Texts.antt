-- An entry as text.
use Rattle.std.specs.Prelude.{ℕ, List, ◌++◌, codes, decimal}
use Rattle.mvm_history.specs.declared.entry.Entry.{Entry}
use Rattle.mvm_history.specs.declared.event.Event.{Event}
use Rattle.mvm_history.specs.declared.event.Event.TheVariants.{Started, Turn, Offer, Receipt, Took, Closed, Ask as Asks, Answer, Halted, Stalled}

-- the name of an event
abbrev pub name_of : Event → List ℕ
name_of (Started by seen) = codes "Started"
name_of (Turn thread steps) = codes "Turn"
name_of (Offer link thread message) = codes "Offer"
name_of (Receipt link thread message sent) = codes "Receipt"
name_of (Took link thread received) = codes "Took"
name_of (Closed link seen) = codes "Closed"
name_of (Asks thread ask) = codes "Ask"
name_of (Answer thread value seen) = codes "Answer"
name_of (Halted by status) = codes "Halted"
name_of (Stalled seen) = codes "Stalled"

-- the name of its event, a blank and its stamp
abbrev pub text : Entry → List ℕ
text e = name_of e.what ++ codes " " ++ decimal e.stamp
