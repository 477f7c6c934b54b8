use Rattle.mvm_isolate.specs.Numbered.{named}
use Rattle.mvm_initialise.proofs.Filling.{may_be_made, is_thrown}
use Rattle.mvm_initialise.proofs.Agreeing.{on_ok}
use Rattle.mvm_initialise.proofs.texts.arguments_fit.Goals as goal

pub returns-in-Ok-clause-ok : goal.returns-in-Ok-clause-ok
returns-in-Ok-clause-ok c = may_be_made c.args.texts.now (named c.args.isolate.now) c.has_words.result (c.has_words.ensures.exact _ c.in-Ok.ensures.words) c.has_words.ensures.within

pub returns-in-Ok-clause-fault : goal.returns-in-Ok-clause-fault
returns-in-Ok-clause-fault c = is_thrown c.args.texts.now (named c.args.isolate.now) c.has_words.result (c.has_words.ensures.exact _ c.in-Ok.ensures.words) c.has_words.ensures.within

pub returns-in-Ok-clause-short : goal.returns-in-Ok-clause-short
returns-in-Ok-clause-short c = on_ok c.has_words.result c.in-Ok.ensures.short
