use Rattle.mvm_isolate.specs.Numbered.{named}
use Rattle.mvm_initialise.proofs.Agreeing.{is_thrown, may_be_set, on_ok}
use Rattle.mvm_initialise.proofs.constants.constants_fit.Goals as goal

pub returns-in-Ok-clause-ok : goal.returns-in-Ok-clause-ok
returns-in-Ok-clause-ok c =
    may_be_set c.args.parts.now (named c.args.isolate.now) c.has_words.result (c.has_words.ensures.exact _ (rw c.as_slice.ensures at c.in-Ok.ensures.words)) (rw c.as_slice.ensures at c.in-Ok.ensures.there) c.has_words.ensures.within

pub returns-in-Ok-clause-fault : goal.returns-in-Ok-clause-fault
returns-in-Ok-clause-fault c =
    is_thrown c.args.parts.now (named c.args.isolate.now) c.has_words.result (c.has_words.ensures.exact _ (rw c.as_slice.ensures at c.in-Ok.ensures.words)) (rw c.as_slice.ensures at c.in-Ok.ensures.there) c.has_words.ensures.within

pub returns-in-Ok-clause-short : goal.returns-in-Ok-clause-short
returns-in-Ok-clause-short c = on_ok c.has_words.result (rw c.as_slice.ensures at c.in-Ok.ensures.short)
