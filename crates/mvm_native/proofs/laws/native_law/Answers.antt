use Rattle.mvm_native.proofs.Inverse.{parsed_back, parsed_plus}
use Rattle.mvm_native.proofs.laws.native_law.Goals as goal

pub returns : goal.returns
returns c = record { inverse = parsed_back; plus = parsed_plus }
