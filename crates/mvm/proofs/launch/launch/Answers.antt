use Rattle.std.proofs.Common.{ap, sym, subst}
use Rattle.mvm.specs.Launch.{IsNoRefusal}
use Rattle.mvm.specs.declared.outcome.Ended.{Ended}
use Rattle.mvm.proofs.Complete.{complete}
use Rattle.mvm.proofs.launch.launch.Goals as goal

pub returns-clause-complete : goal.returns-clause-complete
returns-clause-complete g c = λ can.
    subst IsNoRefusal (sym (ap (λ (ended : Ended). ended.what) c.new.ensures)) (complete _ _ _ c.answer.result c.answer.ensures.answer can)
