use Rattle.std.proofs.Common.{length, append_assoc, arith}
use Rattle.mvm_check.proofs.Steps.{starts-step}
use Rattle.mvm_check.proofs.starts.places.Goals as goal

pub loop-i-preserved : goal.loop-i-preserved
loop-i-preserved c =
    let e = starts-step (length c.args.code.now) c.loop-i.i c.loop-i.pc c.args.code.now (omega arith) (omega arith) in
    let h = rw e at c.loop-i.invariant in
    grind (arith, h, append_assoc)
