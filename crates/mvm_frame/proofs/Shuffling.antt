-- When a shuffle is refused.
use Rattle.std.proofs.Common.{◌≡◌, ◌+◌, ◌<◌, ◌≤◌, List, [], ◌∷◌, length, refl, arith}
use Rattle.std.specs.Prelude.{IsSome, false, nat_lt, Result, Ok, Err}
use Rattle.std.proofs.lemmas.Bool.Decides.{nat_tests}
use Rattle.mvm_frame.specs.declared.slot.Slot.{Slot}
use Rattle.mvm_frame.specs.declared.refused.Refused.{Refused}
use Rattle.mvm_frame.specs.declared.refused.Refused.TheVariants.{Underflow}
use Rattle.mvm_frame.specs.declared.shuffle_rows.Shuffle.{Shuffle}
use Rattle.mvm_frame.specs.declared.shuffle_rows.Shuffle.TheVariants.{Pop, Pop2, Dup, DupX1, DupX2, Dup2, Dup2X1, Dup2X2, Swap}
use Rattle.mvm_frame.specs.Parts.{Operands, Below}
use Rattle.mvm_base.specs.Answers.{Does}
use Rattle.mvm_frame.specs.Calls.{framed, refusal, shuffle_slots, shuffled, grown, needed}
use Rattle.mvm_frame.proofs.Framed.{framed_fault, framed_some}

pub needs_one : (op : Shuffle) → 0 < needed op
needs_one Pop = omega arith
needs_one Pop2 = omega arith
needs_one Dup = omega arith
needs_one DupX1 = omega arith
needs_one DupX2 = omega arith
needs_one Dup2 = omega arith
needs_one Dup2X1 = omega arith
needs_one Dup2X2 = omega arith
needs_one Swap = omega arith

too_few : (op : Shuffle) (slots : List Slot) → length slots < needed op → shuffled op slots ≡ Err Underflow
too_few Pop [] h = refl
too_few Pop (a ∷ r) h = absurd (omega arith)
too_few Dup [] h = refl
too_few Dup (a ∷ r) h = absurd (omega arith)
too_few Pop2 [] h = refl
too_few Pop2 (a ∷ []) h = refl
too_few Pop2 (a ∷ b ∷ r) h = absurd (omega arith)
too_few DupX1 [] h = refl
too_few DupX1 (a ∷ []) h = refl
too_few DupX1 (a ∷ b ∷ r) h = absurd (omega arith)
too_few Dup2 [] h = refl
too_few Dup2 (a ∷ []) h = refl
too_few Dup2 (a ∷ b ∷ r) h = absurd (omega arith)
too_few Swap [] h = refl
too_few Swap (a ∷ []) h = refl
too_few Swap (a ∷ b ∷ r) h = absurd (omega arith)
too_few DupX2 [] h = refl
too_few DupX2 (a ∷ []) h = refl
too_few DupX2 (a ∷ b ∷ []) h = refl
too_few DupX2 (a ∷ b ∷ c ∷ r) h = absurd (omega arith)
too_few Dup2X1 [] h = refl
too_few Dup2X1 (a ∷ []) h = refl
too_few Dup2X1 (a ∷ b ∷ []) h = refl
too_few Dup2X1 (a ∷ b ∷ c ∷ r) h = absurd (omega arith)
too_few Dup2X2 [] h = refl
too_few Dup2X2 (a ∷ []) h = refl
too_few Dup2X2 (a ∷ b ∷ []) h = refl
too_few Dup2X2 (a ∷ b ∷ c ∷ []) h = refl
too_few Dup2X2 (a ∷ b ∷ c ∷ d ∷ r) h = absurd (omega arith)

roomy : (op : Shuffle) (o : Operands) → length o.slots + grown op ≤ o.depth → nat_lt o.depth (length o.slots + grown op) ≡ false
roomy op o h = grind (arith, nat_tests)

pub shuffle_few : (below : Below) (op : Shuffle) (o : Operands) → length o.slots + grown op ≤ o.depth → length o.slots < needed op → framed below (shuffle_slots op o) ≡ Err (refusal below Underflow)
unfolding shuffle_slots
shuffle_few below op o room few = rw (roomy op o room, too_few op o.slots few) (framed_fault below Underflow)

does_moved : {T : Type 0} (r : Result T Refused) (op : Shuffle) (o new : Operands) → length o.slots + grown op ≤ o.depth → new.depth ≡ o.depth → Does r (shuffled op o.slots) new.slots → Does r (shuffle_slots op o) new
unfolding shuffle_slots
does_moved (Ok x) op o new room same h = rw (roomy op o room, h, ← same) refl
does_moved (Err e) op o new room same h = rw (roomy op o room, h) refl

pub shuffle_moved : {T : Type 0} (r : Result T Refused) (below : Below) (op : Shuffle) (o new : Operands) → IsSome below.key → length o.slots + grown op ≤ o.depth → new.depth ≡ o.depth → Does r (shuffled op o.slots) new.slots → Does r (framed below (shuffle_slots op o)) new
shuffle_moved r below op o new some room same h = rw (framed_some below (shuffle_slots op o) some) (does_moved r op o new room same h)
