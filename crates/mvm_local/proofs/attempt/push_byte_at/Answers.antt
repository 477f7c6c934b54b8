use Rattle.std.proofs.Common.{rules}
use Rattle.std.specs.Prelude.{FitsSigned}
use Rattle.std.specs.Int.{w32}
use Rattle.std.proofs.lemmas.Int.{to_z-of_z}
use Rattle.mvm_local.specs.Body.{body_of}
use Rattle.mvm_local.proofs.Decodings.{push_byte_is}
use Rattle.mvm_local.proofs.attempt.push_byte_at.Goals as goal

pub returns-in-Some-clause-does : goal.returns-in-Some-clause-does
returns-in-Some-clause-does c =
    let fits : FitsSigned w32 c.signed_byte.result = search rules in
    rw (push_byte_is c.args.code.now c.args.pc c.in-Some.byte (body_of c.args.stack.now) c.requires.pc c.requires.action c.in-Some.ensures, ← c.signed_byte.ensures)
    (rw (to_z-of_z w32 c.signed_byte.result fits) at c.number.ensures.does)
