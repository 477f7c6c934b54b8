use Rattle.std.proofs.Common.{◌≡◌, ℕ, ◌+◌, ◌≤◌, max, length, map}
use Rattle.std.specs.Option.{option_copied}
use Rattle.mvm_statement.specs.Statements.{line_says}
use Rattle.mvm_listing.specs.Assembly.{start, run, judged, lines_of}
use Rattle.mvm_asm.specs.Cutting.{lines_behind, room}
use Rattle.mvm_asm.specs.Going.{continued}
use Rattle.mvm_asm.proofs.going.Going.over.Given as goal

-- the lines that are left make what all lines make
abbrev pub invariant-loop-rest : goal.invariant-loop-rest
invariant-loop-rest l = record {
  goes : (total : ℕ) → judged total (continued l.going (map line_says (lines_behind (option_copied l.rest)))) ≡ judged total (run 1 (map line_says (lines_of l.text)) start);
  count : l.going.count + length (lines_behind (option_copied l.rest)) ≡ length (lines_of l.text);
  short : l.going.count + room (option_copied l.rest) ≤ max (length l.text) 1;
}

abbrev pub decreases-loop-rest : goal.decreases-loop-rest
decreases-loop-rest l = room (option_copied l.rest)
