use Rattle.mvm_select.proofs.Naming.{named_law}
use Rattle.mvm_select.proofs.laws.named_law.Goals as goal

pub returns : goal.returns
returns c = named_law
