use Rattle.mvm_set.proofs.Walked.{subclass_only, subclass_itself, subclass_inherited}
use Rattle.mvm_set.proofs.laws.subclass_law.Goals as goal

pub returns-clause-only : goal.returns-clause-only
returns-clause-only c = subclass_only

pub returns-clause-itself : goal.returns-clause-itself
returns-clause-itself c = subclass_itself

pub returns-clause-inherited : goal.returns-clause-inherited
returns-clause-inherited c = subclass_inherited
