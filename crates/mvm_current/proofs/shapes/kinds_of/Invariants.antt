use Rattle.std.proofs.Common.{◌≡◌, ◌≤◌, ◌+◌, ◌++◌, length, map, take}
use Rattle.mvm_current.specs.Arguments.{receiver_kinds, kind_of_shape}
use Rattle.mvm_current.proofs.shapes.kinds_of.Given as goal

abbrev pub invariant-loop-i : goal.invariant-loop-i
invariant-loop-i l = record {
  kinds : l.kinds ≡ receiver_kinds l.is_static ++ map kind_of_shape (take l.i l.shape.params);
  few : length l.kinds ≤ l.i + 1;
}
