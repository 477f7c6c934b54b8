use Rattle.mvm_initialise.proofs.Filling.{Adding}
use Rattle.mvm_initialise.proofs.texts.texts_words.Given as goal

abbrev pub invariant-loop-i : goal.invariant-loop-i
invariant-loop-i l = Adding l.texts l.i l.sum
