use Rattle.std.proofs.Common.{rules}
use Rattle.std.specs.Prelude.{FitsSigned}
use Rattle.std.specs.Int.{w64}
use Rattle.std.proofs.lemmas.Int.{to_z-of_z}
use Rattle.mvm_local.specs.Body.{body_of}
use Rattle.mvm_local.proofs.Decodings.{branch_is}
use Rattle.mvm_local.proofs.attempt.branch_at.Goals as goal

pub returns-in-Some-clause-does : goal.returns-in-Some-clause-does
returns-in-Some-clause-does c =
    let fits : FitsSigned w64 c.target_from.result = search rules in
    rw (branch_is c.args.code.now c.args.pc c.in-Some.offset c.args.test (body_of c.args.stack.now) c.requires.pc c.requires.action c.in-Some.ensures, ← c.target_from.ensures)
    (rw (to_z-of_z w64 c.target_from.result fits) at c.branch-stack.ensures.does)
