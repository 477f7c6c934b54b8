-- What fits on the operands where the arguments of a call are taken off.
use Rattle.std.proofs.Common.{◌≡◌, ℕ, ◌+◌, ◌-◌, ◌≤◌, List, length, drop, refl, ap, ◌∙◌, arith}
use Rattle.std.specs.Prelude.{nat_le}
use Rattle.std.proofs.lemmas.List.{length-drop}
use Rattle.std.proofs.lemmas.Bool.Decides.{nat_tests}
use Rattle.mvm_frame.specs.declared.slot.Slot.{Slot}

room_by : (size slots wide depth : ℕ) → size ≤ depth → slots ≤ size → nat_le ((size - slots) + wide) depth ≡ nat_le (wide - (depth - size)) slots
room_by size slots wide depth within there = grind (arith, nat_tests)

pub room_without : (operands : List Slot) (slots wide depth : ℕ) → length operands ≤ depth → slots ≤ length operands → nat_le (length (drop slots operands) + wide) depth ≡ nat_le (wide - (depth - length operands)) slots
room_without operands slots wide depth within there = ap (λ (size : ℕ). nat_le (size + wide) depth) (length-drop slots operands) ∙ room_by (length operands) slots wide depth within there
