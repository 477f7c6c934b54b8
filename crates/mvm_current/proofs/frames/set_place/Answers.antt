use Rattle.mvm_current.proofs.KeyLaws.{place_set}
use Rattle.mvm_current.proofs.frames.set_place.Goals as goal

pub returns-clause-does : goal.returns-clause-does
returns-clause-does c n = place_set n c.args.pc c.args.stack.now c.set_pc.new.self c.set_pc.ensures.operands c.set_pc.ensures.rest c.requires.method
