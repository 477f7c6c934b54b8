use Rattle.std.specs.Int.{w64}
use Rattle.mvm_arith.proofs.Reduced.{left_over, no_zero}
use Rattle.mvm_arith.proofs.compute.long_remainder.Goals as goal

pub returns : goal.returns
returns c = no_zero w64 c.args.b _ _ c.if-b-eq0.false (left_over w64 c.args.a c.args.b c.wrapping_rem.result c.ranges.a c.ranges.b (record { sfits = c.wrapping_rem.type_inv }) c.wrapping_rem.ensures)
