use Rattle.std.proofs.Common.{◌≡◌, ◌++◌, take}
use Rattle.std.specs.Prelude.{flat_map}
use Rattle.mvm_disassembler.specs.Steps.{interface_text}
use Rattle.mvm_disassembler.proofs.write_class.push_interfaces.Given as goal

-- the superinterfaces so far are written
abbrev pub invariant-loop-index : goal.invariant-loop-index
invariant-loop-index l = l.out ≡ l.initial.out ++ flat_map (interface_text l.pool) (take l.index-index l.interfaces)
