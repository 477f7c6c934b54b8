use Rattle.std.proofs.Common.{arith, ◌∙◌}
use Rattle.mvm_asm.proofs.Codes.{last_coded}
use Rattle.mvm_asm.proofs.growing.give_code.Goals as goal

pub returns : goal.returns
returns c =
    let s = c.in-Some.ensures in
    c.set.ensures ∙ last_coded c.args.methods.now c.in-Some.at c.index-as_slice-at.result c.args.code (omega (arith, s.0, s.1)) (rw c.as_slice.ensures at c.index-as_slice-at.is)
