use Rattle.std.proofs.Common.{◌≡◌, ◌++◌, drop}
use Rattle.std.specs.Prelude.{All}
use Rattle.mvm_set.specs.Over.{enumerated_of}
use Rattle.mvm_set.specs.Seen.{joined, IsOnce}
use Rattle.mvm_set.proofs.join.add_enumerated.Given as goal

abbrev pub invariant-loop-i : goal.invariant-loop-i
invariant-loop-i l = record {
  joined : joined l.lists.items ++ enumerated_of (drop l.i l.classes) ≡ joined l.initial.lists.items ++ enumerated_of l.classes;
  once : All IsOnce l.initial.lists.items → All IsOnce l.lists.items;
}
