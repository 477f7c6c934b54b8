use Rattle.std.proofs.Common.{sym}
use Rattle.mvm_current.specs.Keys.{frames_named}
use Rattle.mvm_isolate.specs.Thrown.{name_of_thrown}
use Rattle.mvm_throwing.proofs.Sufficing.{new_misses}
use Rattle.mvm_throwing.proofs.throwing.can_throw_new.Goals as goal

pub returns-then-left-throwable_words : goal.returns-then-left-throwable_words
returns-then-left-throwable_words c thread =
    sym (new_misses c.args.isolate.now (name_of_thrown c.args.thrown) thread (frames_named c.args.isolate.now c.args.stack.now) c.from-left.result (rw c.from-left.ensures c.words_left.ensures) (rw c.throwable_words.ensures at c.if-left-throwable_words.true))
