use Rattle.std.proofs.Common.{sym, ◌∙◌}
use Rattle.mvm_frame.proofs.Placing.{count_is}
use Rattle.mvm_frame.proofs.stack.Stack.frames.Goals as goal

pub returns-clause-is : goal.returns-clause-is
returns-clause-is c = rw (← c.self.view_is) (c.len.ensures.is ∙ sym (count_is c.self.inside.top c.self.inside.callers c.self.inside.slots.items))
