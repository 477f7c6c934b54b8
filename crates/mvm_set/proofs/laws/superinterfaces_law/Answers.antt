use Rattle.mvm_set.proofs.Enumerated.{superinterfaces_only, superinterfaces_all, superinterfaces_behind}
use Rattle.mvm_set.proofs.laws.superinterfaces_law.Goals as goal

pub returns-clause-only : goal.returns-clause-only
returns-clause-only c = superinterfaces_only

pub returns-clause-all : goal.returns-clause-all
returns-clause-all c = superinterfaces_all

pub returns-clause-behind : goal.returns-clause-behind
returns-clause-behind c = superinterfaces_behind
