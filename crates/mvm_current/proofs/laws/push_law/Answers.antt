use Rattle.mvm_current.proofs.Fitting.{push_fits}
use Rattle.mvm_current.proofs.laws.push_law.Goals as goal

pub returns : goal.returns
returns c word frame = push_fits word frame
