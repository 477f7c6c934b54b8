use Rattle.std.proofs.Common.{◌≡◌, ◌++◌, take}
use Rattle.mvm_disassembler.specs.Steps.{cut}
use Rattle.mvm_disassembler.proofs.remark.push_each.Given as goal

-- the units so far are added, while there was room
abbrev pub invariant-loop-unit : goal.invariant-loop-unit
invariant-loop-unit l = l.out ≡ cut (l.initial.out ++ take l.unit-index l.units)
