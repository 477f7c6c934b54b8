use Rattle.mvm_frame.proofs.Placing.{part_none}
use Rattle.mvm_frame.proofs.stack.Stack.clear.Goals as goal

pub returns-clause-operands : goal.returns-clause-operands
returns-clause-operands c = rw (part_none c.self.inside.top.bottom c.self.inside.slots.items, ← c.self.view_is)
