use Rattle.mvm_initialise.proofs.Taking.{arguments_take, arrays_take, fits_made, lacks_made}
use Rattle.mvm_initialise.proofs.words.added.Goals as goal
