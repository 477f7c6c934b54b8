use Rattle.std.proofs.Common.{◌≡◌, ◌++◌, length, take}
use Rattle.std.specs.List.{flat_map}
use Rattle.mvm_classfile.specs.Writing.{u2}
use Rattle.mvm_classfile.proofs.write.push_interfaces.Given as goal

abbrev pub invariant-loop-index : goal.invariant-loop-index
invariant-loop-index l = l.bytes.items ≡ l.fn.bytes.items ++ (u2 (length l.interfaces) ++ flat_map u2 (take l.index-index l.interfaces))
