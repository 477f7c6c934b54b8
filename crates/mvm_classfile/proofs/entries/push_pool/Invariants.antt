use Rattle.std.proofs.Common.{◌≡◌, ◌+◌, ◌++◌, length, take}
use Rattle.std.specs.List.{flat_map}
use Rattle.mvm_classfile.specs.Writing.{u2, written_item}
use Rattle.mvm_classfile.proofs.entries.push_pool.Given as goal

abbrev pub invariant-loop-item : goal.invariant-loop-item
invariant-loop-item l = l.bytes.items ≡ l.fn.bytes.items ++ (u2 (length l.pool + 1) ++ flat_map written_item (take l.item-index l.pool))
