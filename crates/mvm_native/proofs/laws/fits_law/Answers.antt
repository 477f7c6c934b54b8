use Rattle.mvm_native.proofs.FitsSame.{fits_same}
use Rattle.mvm_native.proofs.Tested.{fits_tested}
use Rattle.mvm_native.proofs.laws.fits_law.Goals as goal

pub returns : goal.returns
returns c = record { exact = fits_tested; unclassed = fits_same }
