use Rattle.mvm_isolate.proofs.Held.{held}
use Rattle.mvm_isolate.proofs.Keeping.{linked_same}
use Rattle.mvm_isolate.proofs.isolate.Isolate.set_link.Goals as goal

pub returns-clause-same : goal.returns-clause-same
returns-clause-same c = rw (← c.self.view_is) (linked_same (held c.self.inside) c.set.new.self)
