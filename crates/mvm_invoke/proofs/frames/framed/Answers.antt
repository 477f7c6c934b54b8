use Rattle.mvm_invoke.proofs.Framing.{framed_named}
use Rattle.mvm_invoke.proofs.frames.framed.Goals as goal

pub returns-clause-does : goal.returns-clause-does
returns-clause-does c context n member object is runs =
    framed_named context n member c.args.size c.args.key c.args.slots c.args.stack.now c.enter_method.new.stack c.left.result c.args.told.object (c.in-Ok.ensures.does n n.env.launch.limits is) runs object c.left.ensures.object c.left.ensures.after
