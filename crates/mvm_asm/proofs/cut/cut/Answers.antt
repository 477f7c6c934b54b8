use Rattle.std.proofs.Common.{arith}
use Rattle.mvm_asm.proofs.Cuts.{cut_more, cut_last}
use Rattle.mvm_asm.proofs.cut.cut.Goals as goal

pub returns-then-text-end-gt1-clause-lines : goal.returns-then-text-end-gt1-clause-lines
returns-then-text-end-gt1-clause-lines c = cut_more _ _ c.line_length-end.ensures.value (omega arith)

pub returns-else-text-end-gt1-clause-lines : goal.returns-else-text-end-gt1-clause-lines
returns-else-text-end-gt1-clause-lines c = cut_last _ _ c.line_length-end.ensures.value (omega arith)
