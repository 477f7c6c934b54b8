use Rattle.mvm_mirror.proofs.Changed.{state_is}
use Rattle.mvm_mirror.proofs.mirrors.Mirrors.state.Goals as goal

pub returns : goal.returns
returns c = rw (← c.self.view_is) (λ name k. state_is c.self.inside.mirrors.items c.args.mirror c.at.result.now name (rw c.deref.ensures.value at c.at.ensures) k)
