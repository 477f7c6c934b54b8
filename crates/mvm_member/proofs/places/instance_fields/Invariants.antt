use Rattle.std.proofs.Common.{◌≡◌, ◌+◌, drop}
use Rattle.mvm_table.specs.Slots.{instance_fields}
use Rattle.mvm_member.proofs.places.instance_fields.Given as goal

abbrev pub invariant-loop-i : goal.invariant-loop-i
invariant-loop-i l = l.count + instance_fields (drop l.i l.owns) ≡ instance_fields l.owns
