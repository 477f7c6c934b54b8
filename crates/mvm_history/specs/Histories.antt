-- What stands in a history, the entries of one isolate in their order.
use Rattle.std.specs.Prelude.{ℕ, ◌≡◌, ◌⊎◌, List, [], ◌∷◌, filter_map, ◌==◌, if◌then◌else◌, Option, Some, None}
use Rattle.mvm_history.specs.declared.ask.Ask.{Ask}
use Rattle.mvm_history.specs.declared.entry.Entry.{Entry}
use Rattle.mvm_history.specs.declared.event.Cause.{Cause}
use Rattle.mvm_history.specs.declared.event.Event.{Event}
use Rattle.mvm_history.specs.declared.event.Event.TheVariants.{Started, Turn, Offer, Receipt, Took, Closed, Ask as Asks, Halted, Stalled}
use Rattle.mvm_history.specs.declared.message.Message.{Message}

-- ---- where an entry stands

-- some entry passes
abbrev pub Has : (Entry → Type 0) → List Entry → Type 0
Has P [] = ⊥
Has P (e ∷ es) = P e ⊎ Has P es

-- there is a first entry, and it passes
abbrev pub IsFirst : (Entry → Type 0) → List Entry → Type 0
IsFirst P [] = ⊥
IsFirst P (e ∷ es) = P e

-- the first entry passes, if there is one
abbrev pub IfFirst : (Entry → Type 0) → List Entry → Type 0
IfFirst P [] = Unit {0}
IfFirst P (e ∷ es) = P e

-- there is a last entry, and it passes
abbrev pub IsLast : (Entry → Type 0) → List Entry → Type 0
IsLast P [] = ⊥
IsLast P (e ∷ []) = P e
IsLast P (e ∷ f ∷ es) = IsLast P (f ∷ es)

-- ---- sorts of events

abbrev pub IsStarted : Event → Type 0
IsStarted (Started by seen) = Unit {0}
IsStarted _ = ⊥

abbrev pub IsStartedBy : Option Cause → Event → Type 0
IsStartedBy cause (Started by seen) = by ≡ cause
IsStartedBy cause _ = ⊥

abbrev pub IsHaltedBy : Cause → Event → Type 0
IsHaltedBy cause (Halted by status) = by ≡ cause
IsHaltedBy cause _ = ⊥

abbrev pub IsAsk : Ask → Event → Type 0
IsAsk wanted (Asks thread ask) = ask ≡ wanted
IsAsk wanted _ = ⊥

abbrev pub IsAskOf : ℕ → Event → Type 0
IsAskOf wanted (Asks thread ask) = thread ≡ wanted
IsAskOf wanted _ = ⊥

abbrev pub IsClosed : ℕ → Event → Type 0
IsClosed wanted (Closed link seen) = link ≡ wanted
IsClosed wanted _ = ⊥

abbrev pub IsStalled : Event → Type 0
IsStalled (Stalled seen) = Unit {0}
IsStalled _ = ⊥

abbrev pub IsTurn : Event → Type 0
IsTurn (Turn thread steps) = Unit {0}
IsTurn _ = ⊥

-- ---- the last Ask of a thread, with its stamp

abbrev pub ask_in : ℕ → Option (ℕ × Ask) → ℕ → Event → Option (ℕ × Ask)
ask_in wanted found stamp (Asks thread ask) = if thread == wanted then Some (stamp, ask) else found
ask_in wanted found stamp _ = found

abbrev pub last_ask_from : ℕ → Option (ℕ × Ask) → List Entry → Option (ℕ × Ask)
last_ask_from thread found [] = found
last_ask_from thread found (e ∷ es) = last_ask_from thread (ask_in thread found e.stamp e.what) es

abbrev pub last_ask : ℕ → List Entry → Option (ℕ × Ask)
last_ask thread es = last_ask_from thread None es

-- ---- what a history says of a link

-- a message, with the stamp of its Offer
pub record Sent : Type 0 where
  pub stamp : ℕ
  pub message : Message

abbrev pub offer_in : ℕ → ℕ → Event → Option Sent
offer_in wanted stamp (Offer link thread message) = if link == wanted then Some (record { stamp = stamp; message = message }) else None
offer_in wanted stamp _ = None

abbrev pub receipt_in : ℕ → Event → Option Sent
receipt_in wanted (Receipt link thread message sent) = if link == wanted then Some (record { stamp = sent; message = message }) else None
receipt_in wanted _ = None

abbrev pub receipt_stamp_in : ℕ → ℕ → Event → Option ℕ
receipt_stamp_in wanted stamp (Receipt link thread message sent) = if link == wanted then Some stamp else None
receipt_stamp_in wanted stamp _ = None

abbrev pub took_in : ℕ → Event → Option ℕ
took_in wanted (Took link thread received) = if link == wanted then Some received else None
took_in wanted _ = None

-- its Offers
unfoldable pub offers : ℕ → List Entry → List Sent
offers link es = filter_map (λ (e : Entry). offer_in link e.stamp e.what) es

-- its Receipts, each as what it received
unfoldable pub receipts : ℕ → List Entry → List Sent
receipts link es = filter_map (λ (e : Entry). receipt_in link e.what) es

-- the stamps of its Receipts
unfoldable pub receipt_stamps : ℕ → List Entry → List ℕ
receipt_stamps link es = filter_map (λ (e : Entry). receipt_stamp_in link e.stamp e.what) es

-- the stamps that its Tooks name
unfoldable pub tooks : ℕ → List Entry → List ℕ
tooks link es = filter_map (λ (e : Entry). took_in link e.what) es
