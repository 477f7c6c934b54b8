use Rattle.mvm_select.proofs.Whole.{whole_law}
use Rattle.mvm_select.proofs.laws.whole_law.Goals as goal

pub returns : goal.returns
returns c = whole_law
