-- Laws over entries alone.
use Rattle.std.specs.Prelude.{ℕ, ◌<◌, ◌≤◌, ◌≡◌, ◌⊎◌, false, List, [], ◌∷◌, ◌++◌, length, slice_get, Some}
use Rattle.std.specs.List.Sorted.{IsPermutation}
use Rattle.mvm_history.specs.declared.entry.Entry.{Entry}
use Rattle.mvm_history.specs.declared.event.Event.{Event}
use Rattle.mvm_history.specs.declared.event.Event.TheVariants.{Offer, Receipt, Took}
use Rattle.mvm_history.specs.declared.message.Message.{Message}
use Rattle.mvm_history.specs.Histories.{Sent, offers, receipts, receipt_stamps, tooks}
use Rattle.mvm_history.specs.Links.{IsExchange}
use Rattle.mvm_history.specs.Merged.{Item, is_before, IsOrdered, IsMerge, items, merge, history_of}
use Rattle.mvm_history.specs.Stamps.{last_stamp, entry_of, AreStamped, IsRising}

-- ---- the merge

-- it has all entries, each once
abbrev pub WholeMerge : Type 0
WholeMerge = (hs : List (List Entry)) → IsPermutation (items hs) (merge hs)

-- in the order
abbrev pub OrderedMerge : Type 0
OrderedMerge = (hs : List (List Entry)) → IsOrdered (merge hs)

-- by stamp, and of equal stamps by isolate
abbrev pub OrderInWords : Type 0
OrderInWords =
    (x y : Item) → is_before y x ≡ false → (x.entry.stamp < y.entry.stamp) ⊎ (x.entry.stamp ≡ y.entry.stamp) × (x.isolate ≤ y.isolate)

-- and is the one list that has them so
abbrev pub OnlyMerge : Type 0
OnlyMerge = (hs : List (List Entry)) (xs : List Item) → IsPermutation (items hs) xs → IsOrdered xs → xs ≡ merge hs

-- where no stamp is below one before it in its history, each isolate's entries keep their order
abbrev pub EachMerge : Type 0
EachMerge = (hs : List (List Entry)) → ((isolate : ℕ) → IsRising (history_of hs isolate)) → IsMerge hs (merge hs)

-- ---- stamps

-- they rise
abbrev pub RisingStamps : Type 0
RisingStamps = (es : List Entry) → AreStamped es → IsRising es

-- one entry more with the next stamp
abbrev pub PushedStamps : Type 0
PushedStamps = (es : List Entry) (event : Event) → AreStamped es → AreStamped (es ++ entry_of es event ∷ [])

-- and a history's beginning
abbrev pub FrontStamps : Type 0
FrontStamps = (es fs : List Entry) → AreStamped (es ++ fs) → AreStamped es

abbrev pub LastPushed : Type 0
LastPushed = (es : List Entry) (e : Entry) → last_stamp (es ++ e ∷ []) ≡ e.stamp

-- ---- the two sides of a link, where one gets an entry more

-- an Offer, where every one before it was received
abbrev pub OfferKeeps : Type 0
OfferKeeps =
    (link stamp thread : ℕ) (message : Message) (sender receiver : List Entry) → IsExchange link sender receiver →
    length (offers link sender) ≡ length (receipts link receiver) →
    IsExchange link (sender ++ record { stamp = stamp; what = Offer link thread message } ∷ []) receiver

-- a Receipt of the next Offer
abbrev pub ReceiptKeeps : Type 0
ReceiptKeeps =
    (link stamp thread : ℕ) (sent : Sent) (sender receiver : List Entry) → IsExchange link sender receiver →
    slice_get (offers link sender) (length (receipts link receiver)) ≡ Some sent →
    IsExchange link sender (receiver ++ record { stamp = stamp; what = Receipt link thread sent.message sent.stamp } ∷ [])

-- a Took of the next Receipt
abbrev pub TookKeeps : Type 0
TookKeeps =
    (link stamp thread received : ℕ) (sender receiver : List Entry) → IsExchange link sender receiver →
    slice_get (receipt_stamps link receiver) (length (tooks link sender)) ≡ Some received →
    IsExchange link (sender ++ record { stamp = stamp; what = Took link thread received } ∷ []) receiver
