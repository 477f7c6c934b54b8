use Rattle.std.proofs.Common.{◌≡◌, ◌++◌, map, drop}
use Rattle.mvm_table.specs.Sources.{first_of}
use Rattle.mvm_table.proofs.sources.firsts_of.Given as goal

abbrev pub invariant-loop-i : goal.invariant-loop-i
invariant-loop-i l = l.firsts.items ++ map (first_of l.sources) (drop l.i l.sources) ≡ map (first_of l.sources) l.sources
