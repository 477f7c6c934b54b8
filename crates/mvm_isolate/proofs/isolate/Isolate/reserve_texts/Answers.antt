use Rattle.mvm_isolate.proofs.Allocating.{named_heap}
use Rattle.mvm_isolate.proofs.Held.{held}
use Rattle.mvm_isolate.proofs.isolate.Isolate.reserve_texts.Goals as goal

pub returns-clause-same : goal.returns-clause-same
returns-clause-same c = rw (← c.self.view_is) (named_heap c.reserve.new.self (held c.self.inside) c.reserve.ensures.same)
