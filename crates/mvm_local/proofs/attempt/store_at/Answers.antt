use Rattle.mvm_local.specs.Body.{body_of}
use Rattle.mvm_local.proofs.Decodings.{store_is}
use Rattle.mvm_local.proofs.attempt.store_at.Goals as goal

pub returns-in-Some-clause-does : goal.returns-in-Some-clause-does
returns-in-Some-clause-does c = rw (store_is c.args.code.now c.args.pc c.in-Some.local c.args.kind (body_of c.args.stack.now) c.requires.pc c.requires.action c.in-Some.ensures, ← c.from.ensures) c.store.ensures.does
