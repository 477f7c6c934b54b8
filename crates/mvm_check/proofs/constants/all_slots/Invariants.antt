use Rattle.std.proofs.Common.{◌≡◌, take}
use Rattle.std.specs.Prelude.{map}
use Rattle.mvm_check.specs.Operands.{slots_of_item}
use Rattle.mvm_check.proofs.constants.all_slots.Given as goal

abbrev pub invariant-loop-i : goal.invariant-loop-i
invariant-loop-i l = l.all ≡ map slots_of_item (take l.i l.items)
