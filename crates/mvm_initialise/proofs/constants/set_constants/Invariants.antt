use Rattle.mvm_initialise.proofs.Setting.{Setting}
use Rattle.mvm_initialise.proofs.constants.set_constants.Given as goal

abbrev pub invariant-loop-place : goal.invariant-loop-place
invariant-loop-place l = Setting l.fn.isolate l.isolate l.mirror l.class l.fields l.place
