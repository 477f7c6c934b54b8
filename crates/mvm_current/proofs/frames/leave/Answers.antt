use Rattle.mvm_current.proofs.Entering.{left_frames, left_keys}
use Rattle.mvm_current.proofs.frames.leave.Goals as goal

pub returns-clause-does : goal.returns-clause-does
returns-clause-does c n = left_frames n c.args.stack.now c.leave.new.self c.in-Some.ensures.some

pub returns-clause-keys : goal.returns-clause-keys
returns-clause-keys c n keys = left_keys n c.args.stack.now c.leave.new.self c.in-Some.ensures.some keys
