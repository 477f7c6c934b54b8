use Rattle.std.proofs.Common.{length, arith}
use Rattle.mvm_check.specs.Starts.{starts_of}
use Rattle.mvm.specs.Alone.{has_monitors}
use Rattle.mvm.proofs.Locking.{monitors_next, monitors_end}
use Rattle.mvm.proofs.alone.has_monitors.Goals as goal

pub returns-in-Err : goal.returns-in-Err
unfolding has_monitors starts_of
returns-in-Err c =
    let e = monitors_end (length c.args.code.now) c.loop-i.i c.loop-i.pc c.args.code.now c.in-Err.field-0 (omega arith) (omega arith) (grind arith) in
    let h = c.loop-i.invariant in
    rw (← e, h)

pub loop-i-preserved : goal.loop-i-preserved
loop-i-preserved c =
    let e = monitors_next (length c.args.code.now) c.loop-i.i c.loop-i.pc c.args.code.now c.in-Ok.at (omega arith) (omega arith) (grind arith) (grind arith) in
    let h = c.loop-i.invariant in
    rw (← e, h)
