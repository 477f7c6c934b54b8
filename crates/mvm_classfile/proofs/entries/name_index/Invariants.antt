use Rattle.std.proofs.Common.{◌≡◌, ◌+◌, drop}
use Rattle.mvm_classfile.specs.Writing.{index_from}
use Rattle.mvm_classfile.proofs.entries.name_index.Given as goal

abbrev pub invariant-loop-i : goal.invariant-loop-i
invariant-loop-i l = index_from (l.i + 1) l.name (drop l.i l.pool) ≡ index_from 1 l.name l.pool
