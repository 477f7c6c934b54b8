use Rattle.std.proofs.Common.{◌≡◌, ◌+◌, ◌*◌, ◌≤◌, drop}
use Rattle.mvm_base.specs.Descriptor.{slots}
use Rattle.mvm_base.proofs.descriptor.MethodShape.slots.Given as goal

abbrev pub invariant-loop-i : goal.invariant-loop-i
invariant-loop-i l = record {
  counts : l.slots + slots (drop l.i l.params) ≡ slots l.params;
  few : l.slots ≤ 255 * l.i;
}
