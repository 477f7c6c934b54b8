use Rattle.std.proofs.Common.{◌≡◌, ◌+◌, drop}
use Rattle.mvm_asm.specs.Cutting.{line_length}
use Rattle.mvm_asm.proofs.cut.line_length.Given as goal

abbrev pub invariant-loop-i : goal.invariant-loop-i
invariant-loop-i l = l.i + line_length (drop l.i l.text) ≡ line_length l.text
