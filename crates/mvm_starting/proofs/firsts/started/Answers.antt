use Rattle.mvm_current.specs.Keys.{callers_named, frames_named}
use Rattle.mvm_starting.specs.Starting.{first_frame}
use Rattle.mvm_starting.proofs.Taking.{first_named, left_with}
use Rattle.std.proofs.Common.{◌∷◌}
use Rattle.mvm_starting.proofs.firsts.started.Goals as goal

pub returns-clause-does : goal.returns-clause-does
returns-clause-does c context n m is =
    left_with n (first_frame m c.args.lock c.args.first.head c.args.object ∷ callers_named n c.args.stack.now) (frames_named n c.set_argument.new.stack) context.object
    (first_named n m c.args.first c.args.lock c.args.object c.args.stack.now c.enter_first.new.stack c.set_argument.new.stack is c.enter_first.ensures c.set_argument.ensures.operands c.set_argument.ensures.rest)
