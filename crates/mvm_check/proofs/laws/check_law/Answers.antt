use Rattle.mvm_check.proofs.StartList.{listed, all_listed, ordered}
use Rattle.mvm_check.proofs.Sound.{sound, complete}
use Rattle.mvm_check.proofs.laws.check_law.Goals as goal

pub returns-clause-starts : goal.returns-clause-starts
returns-clause-starts c = λ code place. (listed code place, λ h. all_listed h)

pub returns-clause-ordered : goal.returns-clause-ordered
returns-clause-ordered c = ordered

pub returns-clause-sound : goal.returns-clause-sound
returns-clause-sound c = λ parts. (sound parts, complete parts)
