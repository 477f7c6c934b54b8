use Rattle.mvm_set.proofs.Walked.{checked_law}
use Rattle.mvm_set.proofs.laws.checked_law.Goals as goal

pub returns : goal.returns
returns c = λ check kept set one k. checked_law check kept set one k
