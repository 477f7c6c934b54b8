use Rattle.std.proofs.Common.{◌∙◌, refl, sym}
use Rattle.mvm_local.specs.Body.{body_of}
use Rattle.mvm_local.proofs.Decodings.{beyond_is, pool_is}
use Rattle.mvm_local.proofs.attempt.beyond_at.Goals as goal

pub returns-in-Alone-clause-does : goal.returns-in-Alone-clause-does
returns-in-Alone-clause-does c = rw (beyond_is c.args.code.now c.args.pc c.args.op (body_of c.args.stack.now) c.requires.pc c.requires.op c.requires.action (sym c.operands_of.ensures ∙ c.in-Alone.is), c.further.ensures) refl

pub returns-in-Some-clause-does : goal.returns-in-Some-clause-does
returns-in-Some-clause-does c = rw (pool_is c.args.code.now c.args.pc c.args.op c.in-Some.index (body_of c.args.stack.now) c.requires.pc c.requires.op (sym c.operands_of.ensures ∙ c.in-ShortPool.is) c.in-Some.ensures, c.further-in-Some.ensures) refl
