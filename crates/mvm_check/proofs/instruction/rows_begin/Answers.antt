use Rattle.std.proofs.Common.{arith}
use Rattle.mvm_check.proofs.Steps.{rows-step}
use Rattle.mvm_check.proofs.instruction.rows_begin.Goals as goal

pub returns-then-not-begins : goal.returns-then-not-begins
returns-then-not-begins c =
    let e = rows-step c.args.starts.now c.args.choice.now.rows c.loop-i.i c.row.result c.row.ensures in
    grind (arith, e)

pub loop-i-preserved : goal.loop-i-preserved
loop-i-preserved c =
    let e = rows-step c.args.starts.now c.args.choice.now.rows c.loop-i.i c.row.result c.row.ensures in
    grind (arith, e)
