use Rattle.mvm_current.proofs.Entering.{full, enters, overflows, entered_keys, entered_limits}
use Rattle.mvm_current.proofs.frames.enter_method.Goals as goal

pub returns-in-Ok-clause-does : goal.returns-in-Ok-clause-does
returns-in-Ok-clause-does c n limits is = enters n limits c.args.key c.args.locals c.max.result c.args.depth c.args.slots c.args.stack.now c.enter_with.new.self c.requires.frame c.requires.slots c.max.ensures is c.in-Ok.ensures.does

pub returns-in-Err-clause-does : goal.returns-in-Err-clause-does
returns-in-Err-clause-does c n limits is = overflows n limits c.args.key c.args.locals c.max.result c.args.depth c.args.slots c.args.stack.now c.in-Err.field-0 c.requires.frame c.requires.slots c.max.ensures is c.in-Err.ensures.does

pub returns-in-Ok-clause-keys : goal.returns-in-Ok-clause-keys
returns-in-Ok-clause-keys c n is keys = entered_keys n c.args.key c.max.result c.args.depth c.args.slots c.args.stack.now c.enter_with.new.self c.in-Ok.ensures.does is keys

pub returns-in-Ok-clause-limits : goal.returns-in-Ok-clause-limits
returns-in-Ok-clause-limits c limits is = entered_limits limits c.args.key c.max.result c.args.depth c.args.slots c.args.stack.now c.enter_with.new.self c.in-Ok.ensures.does is

pub returns-in-Err-clause-room : goal.returns-in-Err-clause-room
returns-in-Err-clause-room c room = absurd (let k = full c.args.key c.max.result c.args.depth c.args.slots c.args.stack.now c.in-Err.field-0 c.in-Err.ensures.does in cc)
