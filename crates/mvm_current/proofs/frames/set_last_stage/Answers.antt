use Rattle.std.proofs.Common.{arith}
use Rattle.mvm_current.proofs.KeyLaws.{stage_set}
use Rattle.mvm_current.proofs.frames.set_last_stage.Goals as goal

pub returns-clause-does : goal.returns-clause-does
returns-clause-does c n = stage_set n 2 c.args.stack.now c.set_pc.new.self c.set_pc.ensures.operands c.set_pc.ensures.rest c.requires.stage (omega arith)
