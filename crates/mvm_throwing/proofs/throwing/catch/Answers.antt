use Rattle.std.proofs.Common.{◌∙◌}
use Rattle.mvm_throwing.proofs.Going.{caught_as}
use Rattle.mvm_throwing.proofs.throwing.catch.Goals as goal

pub returns-clause-does : goal.returns-clause-does
returns-clause-does c n = caught_as n c.args.stack.now c.set_pc.new.self c.args.handler c.args.object (rw c.put_alone.ensures.rest at c.set_pc.ensures.rest) (c.set_pc.ensures.operands ∙ c.put_alone.ensures.operands) c.requires.method
