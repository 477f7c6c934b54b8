use Rattle.mvm_initialise.specs.Constants.{is_known}
use Rattle.mvm_isolate.specs.Numbered.{named}
use Rattle.mvm_initialise.proofs.Wanted.{Counting}
use Rattle.mvm_initialise.proofs.constants.constant_words.Given as goal

abbrev pub invariant-loop-i : goal.invariant-loop-i
invariant-loop-i l = Counting (named l.isolate).heap (is_known l.met (named l.isolate).heap) l.pool l.fields l.i l.sum
