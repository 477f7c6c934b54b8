use Rattle.mvm_listing.proofs.Mnemonics.{same_usual}
use Rattle.mvm_listing.proofs.laws.usual_law.Goals as goal

pub returns : goal.returns
returns c = same_usual
