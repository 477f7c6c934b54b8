use Rattle.std.proofs.Common.{arith}
use Rattle.mvm_isolate.specs.Numbered.{named}
use Rattle.mvm_initialise.specs.Constants.{is_known}
use Rattle.mvm_initialise.proofs.Wanted.{counting_begins, counting_more, counting_short, counting_sum, counting_there}
use Rattle.mvm_initialise.proofs.constants.constant_words.Goals as goal

pub loop-i-init : goal.loop-i-init
loop-i-init c = counting_begins (named c.args.isolate.now).heap c.new-met.result c.args.pool.now c.args.fields.now c.new-met.ensures.empty

pub loop-i-preserved : goal.loop-i-preserved
loop-i-preserved c =
    counting_more (named c.args.isolate.now).heap (is_known c.loop-i.met (named c.args.isolate.now).heap) (is_known c.words_after.new.met (named c.args.isolate.now).heap) c.args.pool.now c.args.fields.now
    c.loop-i.i c.loop-i.sum c.in_ok-sum.sum c.index-fields-i.result (omega arith) c.index-fields-i.is c.in_ok-sum.ensures c.loop-i.invariant

pub returns-clause-words : goal.returns-clause-words
returns-clause-words c = counting_sum (named c.args.isolate.now).heap (is_known c.loop-i.met (named c.args.isolate.now).heap) c.args.pool.now c.args.fields.now c.loop-i.i c.loop-i.sum (omega arith) c.loop-i.invariant

pub returns-clause-short : goal.returns-clause-short
returns-clause-short c = counting_short (named c.args.isolate.now).heap (is_known c.loop-i.met (named c.args.isolate.now).heap) c.args.pool.now c.args.fields.now c.loop-i.i c.loop-i.sum (omega arith) c.loop-i.invariant

pub returns-clause-there : goal.returns-clause-there
returns-clause-there c = counting_there (named c.args.isolate.now).heap (is_known c.loop-i.met (named c.args.isolate.now).heap) c.args.pool.now c.args.fields.now c.loop-i.i c.loop-i.sum (omega arith) c.loop-i.invariant
