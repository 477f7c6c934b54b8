use Rattle.mvm_set.proofs.Walked.{walk_law}
use Rattle.mvm_set.proofs.laws.walk_law.Goals as goal

pub returns : goal.returns
returns c = walk_law
