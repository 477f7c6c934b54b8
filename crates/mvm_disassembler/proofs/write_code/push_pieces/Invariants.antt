use Rattle.std.proofs.Common.{◌≡◌, ◌++◌}
use Rattle.std.specs.Prelude.{flat_map}
use Rattle.mvm_disassembler.specs.Steps.{piece_text}
use Rattle.mvm_disassembler.proofs.write_code.push_pieces.Given as goal

-- the pieces so far are written
abbrev pub invariant-loop-at : goal.invariant-loop-at
invariant-loop-at l = l.out ≡ l.initial.out ++ flat_map (piece_text l.pool l.targets l.begins) l.yielded
