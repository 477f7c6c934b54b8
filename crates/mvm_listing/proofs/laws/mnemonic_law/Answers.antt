use Rattle.mvm_listing.proofs.Mnemonics.{mnemonics}
use Rattle.mvm_listing.proofs.laws.mnemonic_law.Goals as goal

pub returns : goal.returns
returns c = mnemonics
