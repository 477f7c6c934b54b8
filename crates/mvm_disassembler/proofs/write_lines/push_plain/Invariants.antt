use Rattle.std.proofs.Common.{◌≡◌, ◌++◌, map, take}
use Rattle.mvm_listing.specs.LaidOut.{plain}
use Rattle.mvm_disassembler.proofs.write_lines.push_plain.Given as goal

abbrev pub invariant-loop-unit : goal.invariant-loop-unit
invariant-loop-unit l = l.out ≡ l.initial.out ++ map plain (take l.unit-index l.units)
