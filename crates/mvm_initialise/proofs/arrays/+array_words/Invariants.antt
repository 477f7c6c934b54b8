use Rattle.std.proofs.Common.{length}
use Rattle.mvm_initialise.proofs.arrays.+array_words.Given as goal

abbrev pub decreases-array_words : goal.decreases-array_words
decreases-array_words l = length l.dimensions.now
