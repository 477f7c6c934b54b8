-- The stamps of a history: each is greater than the one before it and than the one that its event names or has seen.
use Rattle.std.specs.Prelude.{ℕ, ◌+◌, ◌≤◌, ◌≡◌, max, List, [], ◌∷◌}
use Rattle.std.specs.List.{AllByRecursion}
use Rattle.mvm_history.specs.declared.entry.Entry.{Entry}
use Rattle.mvm_history.specs.declared.event.Event.{Event}
use Rattle.mvm_history.specs.declared.event.Event.TheVariants.{Started, Turn, Offer, Receipt, Took, Closed, Ask as Asks, Answer, Halted, Stalled}

-- the stamp that an event names or has seen, or 0
abbrev pub named : Event → ℕ
named (Started by seen) = seen
named (Turn thread steps) = 0
named (Offer link thread message) = 0
named (Receipt link thread message sent) = sent
named (Took link thread received) = received
named (Closed link seen) = seen
named (Asks thread ask) = 0
named (Answer thread value seen) = seen
named (Halted by status) = by.stamp
named (Stalled seen) = seen

-- the stamp of the last entry, or this one where there is none
unfoldable pub last_from : ℕ → List Entry → ℕ
last_from stamp [] = stamp
last_from stamp (e ∷ es) = last_from e.stamp es

-- the stamp of the last entry, or 0
abbrev pub last_stamp : List Entry → ℕ
last_stamp es = last_from 0 es

-- the stamp of an event behind an entry with this one
abbrev pub next_stamp : ℕ → Event → ℕ
next_stamp stamp event = max stamp (named event) + 1

-- the entry of an event behind these ones
abbrev pub entry_of : List Entry → Event → Entry
entry_of before event = record { stamp = next_stamp (last_stamp before) event; what = event }

-- each entry has the stamp that it must
abbrev pub AreStampedFrom : ℕ → List Entry → Type 0
AreStampedFrom stamp [] = Unit {0}
AreStampedFrom stamp (e ∷ es) = (e.stamp ≡ next_stamp stamp e.what) × AreStampedFrom e.stamp es

abbrev pub AreStamped : List Entry → Type 0
AreStamped es = AreStampedFrom 0 es

-- no stamp is below one before it
abbrev pub IsRising : List Entry → Type 0
IsRising [] = Unit {0}
IsRising (e ∷ es) = AllByRecursion (λ f. e.stamp ≤ f.stamp) es × IsRising es
