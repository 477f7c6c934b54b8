use Rattle.std.proofs.Common.{sym}
use Rattle.mvm_locking.proofs.Waiting.{desc_is}
use Rattle.mvm_locking.proofs.returns.current_desc.Goals as goal

pub returns : goal.returns
returns c = desc_is c.args.isolate.now c.args.stack.now c.in-Some.key c.class.result.now c.in-Some-desc_at.desc.now (sym c.in-Some.ensures) c.requires.method c.requires.keys c.class.ensures.at (rw (← c.get.ensures) (sym c.in-Some-desc_at.ensures))
