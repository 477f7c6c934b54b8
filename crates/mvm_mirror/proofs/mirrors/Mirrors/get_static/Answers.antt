use Rattle.mvm_mirror.proofs.Changed.{static_is}
use Rattle.mvm_mirror.proofs.mirrors.Mirrors.get_static.Goals as goal

pub returns : goal.returns
returns c = rw (← c.self.view_is) (λ name field desc i. static_is c.self.inside.mirrors.items c.args.mirror c.args.slot c.at.result.now c.word.result name field desc (rw c.deref.ensures.value at c.at.ensures) c.word.ensures i)
