use Rattle.std.specs.Int.{w64}
use Rattle.mvm_arith.proofs.Reduced.{divided, no_zero}
use Rattle.mvm_arith.proofs.compute.long_quotient.Goals as goal

pub returns : goal.returns
returns c = no_zero w64 c.args.b _ _ c.if-b-eq0.false (divided w64 c.args.a c.args.b c.wrapping_div.result c.ranges.a c.ranges.b c.wrapping_div.ensures)
