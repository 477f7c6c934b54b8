use Rattle.std.proofs.Common.{arith}
use Rattle.mvm_check.proofs.Steps.{dimensions-step, dimensions-end}
use Rattle.mvm_check.proofs.operands.has_dimensions.Goals as goal

pub returns-then-i-name : goal.returns-then-i-name
returns-then-i-name c =
    let e = dimensions-end c.args.dims c.loop-i.i c.args.name.now (omega arith) (omega arith) in
    grind (arith, e)

pub returns-then-name-i-ne-LEFT_BRACKET : goal.returns-then-name-i-ne-LEFT_BRACKET
returns-then-name-i-ne-LEFT_BRACKET c =
    let e = dimensions-step c.args.dims c.loop-i.i c.args.name.now (omega arith) (omega arith) in
    grind (arith, e)

pub loop-i-preserved : goal.loop-i-preserved
loop-i-preserved c =
    let e = dimensions-step c.args.dims c.loop-i.i c.args.name.now (omega arith) (omega arith) in
    grind (arith, e)
