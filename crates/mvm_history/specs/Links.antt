-- How the histories of the two sides of a link agree.
use Rattle.std.specs.Prelude.{ℕ, ◌+◌, ◌≤◌, ◌≡◌, List, [], ◌∷◌, ◌++◌, length}
use mathlib.Core.List.{IsPrefix}
use Rattle.mvm_history.specs.declared.entry.Entry.{Entry}
use Rattle.mvm_history.specs.Histories.{IsClosed, offers, receipts, receipt_stamps, tooks}

-- the sender's and the receiver's history agree on a link, but for its closing
pub record IsExchange (link : ℕ) (sender receiver : List Entry) : Type 0 where
  -- each Receipt is of the Offer at its place: it names its stamp and has its message
  pub received : IsPrefix (receipts link receiver) (offers link sender)
  -- each Took names the Receipt at its place
  pub taken : IsPrefix (tooks link sender) (receipt_stamps link receiver)
  -- at most one message is on its way
  pub one_more : length (offers link sender) ≤ length (receipts link receiver) + 1

-- and behind a Closed a history has no Offer, Receipt or Took of the link
abbrev pub IsSilent : ℕ → List Entry → Type 0
IsSilent link es = (offers link es ≡ []) × (receipts link es ≡ []) × (tooks link es ≡ [])

abbrev pub IsClosedForGood : ℕ → List Entry → Type 0
IsClosedForGood link es =
    (before after : List Entry) (e : Entry) → es ≡ before ++ e ∷ after → IsClosed link e.what → IsSilent link after

-- the sender took each Receipt before it closed the link
abbrev pub AreTakenFirst : ℕ → List Entry → List Entry → Type 0
AreTakenFirst link sender receiver =
    (before after : List Entry) (e : Entry) → sender ≡ before ++ e ∷ after → IsClosed link e.what →
    length (receipts link receiver) ≤ length (tooks link before)

-- they agree on a link
pub record IsAgreed (link : ℕ) (sender receiver : List Entry) : Type 0 where
  pub exchange : IsExchange link sender receiver
  pub sender_closed : IsClosedForGood link sender
  pub receiver_closed : IsClosedForGood link receiver
  pub all_taken : AreTakenFirst link sender receiver
