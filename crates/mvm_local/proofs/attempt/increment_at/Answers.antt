use Rattle.std.proofs.Common.{rules}
use Rattle.std.specs.Prelude.{FitsSigned}
use Rattle.std.specs.Int.{w32}
use Rattle.std.proofs.lemmas.Int.{to_z-of_z}
use Rattle.mvm_local.specs.Body.{body_of}
use Rattle.mvm_local.proofs.Decodings.{increment_is}
use Rattle.mvm_local.proofs.attempt.increment_at.Goals as goal

pub returns-in-Some-byte_at-clause-does : goal.returns-in-Some-byte_at-clause-does
returns-in-Some-byte_at-clause-does c =
    let fits : FitsSigned w32 c.signed_byte.result = search rules in
    rw (increment_is c.args.code.now c.args.pc c.in-Some.local c.in-Some-byte_at.by (body_of c.args.stack.now) c.requires.pc c.requires.action c.in-Some.ensures c.in-Some-byte_at.ensures, ← c.signed_byte.ensures, ← c.from.ensures)
    (rw (to_z-of_z w32 c.signed_byte.result fits) at c.increment.ensures.does)
