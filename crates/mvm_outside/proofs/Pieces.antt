-- Bytes that go piece by piece.
use Rattle.std.proofs.Common.{◌≡◌, ℕ, ◌+◌, ◌≤◌, List, ◌++◌, length, length-append, take, drop, Option, Some, None, sym, ap, ◌∙◌, append_assoc, take-add}
use Rattle.std.proofs.lemmas.List.{take-append-drop, drop-drop}
use Rattle.std.specs.Io.KnownBytes.{Appends, Consumes}
use Rattle.mvm_outside.specs.Causes.{LosesAtMost}

-- the front of some bytes was taken, and then the front of those that were left
pub appended_next : (before between after : Option (List ℕ)) (bytes : List ℕ) (done count : ℕ) → Appends before between (take done bytes) → Appends between after (take count (drop done bytes)) → Appends before after (take (done + count) bytes)
appended_next None between after bytes done count front next = tt
appended_next (Some x) None after bytes done count front next = absurd front
appended_next (Some x) (Some y) None bytes done count front next = absurd next
appended_next (Some x) (Some y) (Some z) bytes done count front next =
    next ∙ rw front (append_assoc x (take done bytes) (take count (drop done bytes))) ∙ ap (λ (t : List ℕ). x ++ t) (sym (take-add done count bytes))

-- of what is left from a place on, the front was copied, and the rest is left behind it
pub front_and_rest : (bytes all left to : List ℕ) (at count : ℕ) → drop at bytes ≡ all → left ≡ drop at bytes → take count to ≡ take count left → all ≡ take count to ++ drop (at + count) bytes
front_and_rest bytes all left to at count whole is front = cc (take-append-drop count (drop at bytes), drop-drop count at bytes)

-- the front of some bytes was lost, and then the front of those that were left
pub consumed_next : (before between after : Option (List ℕ)) (front next : List ℕ) → Consumes before between front → Consumes between after next → Consumes before after (front ++ next)
consumed_next None between after front next first second = tt
consumed_next (Some x) None after front next first second = absurd first
consumed_next (Some x) (Some y) None front next first second = absurd second
consumed_next (Some x) (Some y) (Some z) front next first second = cc (append_assoc front next z)

-- the same, with a bound on both together
pub lost_next : (before between after : Option (List ℕ)) (front next : List ℕ) (most : ℕ) → Consumes before between front → Consumes between after next → length front + length next ≤ most → LosesAtMost before after most
lost_next before between after front next most first second within =
    (front ++ next, consumed_next before between after front next first second, rw (length-append front next) within)
