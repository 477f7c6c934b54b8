use Rattle.mvm_mirror.proofs.Slots.{slot_is_count, slot_is_before, slot_below}
use Rattle.mvm_mirror.proofs.laws.slot_law.Goals as goal

pub returns-clause-place : goal.returns-clause-place
returns-clause-place c = slot_is_count

pub returns-clause-counted : goal.returns-clause-counted
returns-clause-counted c = slot_is_before

pub returns-clause-within : goal.returns-clause-within
returns-clause-within c = slot_below
