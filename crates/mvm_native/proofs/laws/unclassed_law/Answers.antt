use Rattle.mvm_native.proofs.Kept.{called_keeps}
use Rattle.mvm_native.proofs.Same.{called_same}
use Rattle.mvm_native.proofs.laws.unclassed_law.Goals as goal

pub returns : goal.returns
returns c = record { same = called_same; kept = called_keeps }
