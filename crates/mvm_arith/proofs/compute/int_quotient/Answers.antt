use Rattle.std.specs.Int.{w32}
use Rattle.mvm_arith.proofs.Reduced.{divided, no_zero}
use Rattle.mvm_arith.proofs.compute.int_quotient.Goals as goal

pub returns : goal.returns
returns c = no_zero w32 c.args.b _ _ c.if-b-eq0.false (divided w32 c.args.a c.args.b c.wrapping_div.result c.ranges.a c.ranges.b c.wrapping_div.ensures)
