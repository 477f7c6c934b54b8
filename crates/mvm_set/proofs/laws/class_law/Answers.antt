use Rattle.mvm_set.proofs.Joined.{class_law}
use Rattle.mvm_set.proofs.laws.class_law.Goals as goal

pub returns : goal.returns
returns c = class_law
