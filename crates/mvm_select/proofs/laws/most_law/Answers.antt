use Rattle.mvm_select.proofs.Ruling.{concrete_only, concrete_all, ruled_law}
use Rattle.mvm_select.proofs.laws.most_law.Goals as goal

pub returns-clause-only : goal.returns-clause-only
returns-clause-only c = concrete_only

pub returns-clause-all : goal.returns-clause-all
returns-clause-all c = concrete_all

pub returns-clause-rule : goal.returns-clause-rule
returns-clause-rule c = ruled_law
