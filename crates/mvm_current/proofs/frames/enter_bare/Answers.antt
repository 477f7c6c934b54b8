use Rattle.std.proofs.Common.{refl}
use Rattle.mvm_current.proofs.Entering.{bare_frames, bare_keys, bare_limits, entered_key, never_full}
use Rattle.mvm_current.proofs.frames.enter_bare.Goals as goal

pub set_pc-requires : goal.set_pc-requires
set_pc-requires c = entered_key _ 0 0 0 c.args.stack.now c.enter.new.self c.in-Ok.ensures.does

pub unreachable-requires : goal.unreachable-requires
unreachable-requires c = never_full _ c.args.stack.now c.in-Err.field-0 c.requires.room c.in-Err.ensures.does

pub returns-clause-does : goal.returns-clause-does
returns-clause-does c n = bare_frames n _ c.args.stage c.args.stack.now c.enter.new.self c.set_pc.new.self refl refl c.in-Ok.ensures.does c.set_pc.ensures.operands c.set_pc.ensures.rest

pub returns-clause-keys : goal.returns-clause-keys
returns-clause-keys c n is keys = bare_keys n _ c.args.stage c.args.stack.now c.enter.new.self c.set_pc.new.self refl c.in-Ok.ensures.does c.set_pc.ensures.rest is keys

pub returns-clause-limits : goal.returns-clause-limits
returns-clause-limits c limits is = bare_limits limits _ c.args.stage c.args.stack.now c.enter.new.self c.set_pc.new.self c.in-Ok.ensures.does c.set_pc.ensures.rest is
