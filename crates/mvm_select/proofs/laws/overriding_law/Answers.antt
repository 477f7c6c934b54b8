use Rattle.mvm_select.proofs.Selecting.{overriding_only, overriding_all}
use Rattle.mvm_select.proofs.laws.overriding_law.Goals as goal

pub returns-clause-only : goal.returns-clause-only
returns-clause-only c = overriding_only

pub returns-clause-all : goal.returns-clause-all
returns-clause-all c = overriding_all
