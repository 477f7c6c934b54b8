use Rattle.std.proofs.Common.{◌∙◌}
use Rattle.mvm_isolate.proofs.Keeping.{grows_then}
use Rattle.mvm_current.proofs.Growth.{keys_grow}
use Rattle.mvm_throwing.proofs.Going.{left_as}
use Rattle.mvm_throwing.proofs.throwing.leave_frame.Goals as goal

pub through_frame-passed-requires-clause-words : goal.through_frame-passed-requires-clause-words
through_frame-passed-requires-clause-words c = rw c.pc.ensures (rw (left_as c.args.isolate.now c.released.new.isolate c.args.stack.now c.args.key c.args.thread c.args.object c.requires.key c.requires.keys c.released.ensures.grows c.released.ensures.does) at c.requires.words)

pub returns-clause-does : goal.returns-clause-does
returns-clause-does c = left_as c.args.isolate.now c.released.new.isolate c.args.stack.now c.args.key c.args.thread c.args.object c.requires.key c.requires.keys c.released.ensures.grows c.released.ensures.does ∙ (rw c.pc.ensures at c.through_frame-passed.ensures.does)

pub returns-clause-keys : goal.returns-clause-keys
returns-clause-keys c =
    let grows = grows_then c.args.isolate.now c.released.new.isolate c.through_frame-passed.new.isolate c.released.ensures.grows c.through_frame-passed.ensures.grows in
    c.leave.ensures.keys c.through_frame-passed.new.isolate (keys_grow c.args.isolate.now c.through_frame-passed.new.isolate c.args.stack.now grows c.requires.keys)
