use Rattle.mvm_mirror.proofs.Changed.{class_numbered}
use Rattle.mvm_mirror.proofs.mirrors.Mirrors.class.Goals as goal

pub returns-clause-numbered : goal.returns-clause-numbered
returns-clause-numbered c = rw (← c.self.view_is) (class_numbered _ c.self.inside.mirrors.items c.args.mirror c.at.result.now c.self.invariant (rw c.deref.ensures.value at c.at.ensures))
