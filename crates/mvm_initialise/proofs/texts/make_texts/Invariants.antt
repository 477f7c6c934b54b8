use Rattle.mvm_initialise.proofs.Filling.{Filling}
use Rattle.mvm_initialise.proofs.texts.make_texts.Given as goal

abbrev pub invariant-loop-place : goal.invariant-loop-place
invariant-loop-place l = Filling l.fn.isolate l.isolate l.array l.place l.texts
