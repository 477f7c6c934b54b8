use Rattle.std.proofs.Common.{arith}
use Rattle.mvm_isolate.specs.Numbered.{named}
use Rattle.mvm_initialise.proofs.Sums.{words_fit, words_lack}
use Rattle.mvm_initialise.proofs.Agreeing.{may_be_set}
use Rattle.mvm_initialise.proofs.Running.{begins_run}
use Rattle.mvm_initialise.proofs.words.has_words.Goals as goal

pub returns-then-sum-from-clause-exact : goal.returns-then-sum-from-clause-exact
returns-then-sum-from-clause-exact c = words_lack (named c.args.isolate.now) c.words_left-left.result c.args.sum c.words_left-left.ensures (omega arith)

pub returns-clause-exact : goal.returns-clause-exact
returns-clause-exact c = words_fit (named c.args.isolate.now) c.words_left-left.result c.args.sum c.words_left-left.ensures (omega arith) (omega arith)
