use Rattle.std.proofs.Common.{◌≡◌, ◌-◌, ◌≤◌, ◌++◌, length}
use Rattle.mvm_listing.specs.Disassembly.{pieces, standard}
use Rattle.mvm_disassembler.specs.Steps.{pieces_from}
use Rattle.mvm_disassembler.proofs.pieces.pieces.Given as goal

-- with the pieces of what is left they are all
abbrev pub invariant-loop-at : goal.invariant-loop-at
invariant-loop-at l = record {
  within : l.at ≤ length l.code;
  added : l.all.items ++ pieces_from l.code l.at ≡ pieces standard (length l.code) 0 l.code;
}

abbrev pub decreases-loop-at : goal.decreases-loop-at
decreases-loop-at l = length l.code - l.at
