use Rattle.std.proofs.Common.{◌≡◌, ◌++◌, take}
use Rattle.mvm_asm.proofs.growing.push_lines.Given as goal

abbrev pub invariant-loop-line : goal.invariant-loop-line
invariant-loop-line l = l.all ≡ l.fn.all ++ take l.line-index l.lines
