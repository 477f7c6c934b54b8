use Rattle.mvm_local.specs.Body.{body_of}
use Rattle.mvm_local.proofs.Decodings.{load_is}
use Rattle.mvm_local.proofs.attempt.load_at.Goals as goal

pub returns-in-Some-clause-does : goal.returns-in-Some-clause-does
returns-in-Some-clause-does c = rw (load_is c.args.code.now c.args.pc c.in-Some.local c.args.kind (body_of c.args.stack.now) c.requires.pc c.requires.action c.in-Some.ensures, ← c.from.ensures) c.load.ensures.does
