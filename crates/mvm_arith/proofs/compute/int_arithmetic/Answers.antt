use Rattle.std.proofs.Common.{ap, Ok}
use Rattle.std.specs.Int.{w32}
use Rattle.std.proofs.lemmas.Int.{wrapping_add_is, wrapping_sub_is}
use Rattle.mvm_arith.specs.Numbers.{computed}
use Rattle.mvm_arith.proofs.Reduced.{negated}
use Rattle.mvm_arith.proofs.compute.int_arithmetic.Goals as goal

pub returns-in-Add : goal.returns-in-Add
unfolding computed
returns-in-Add c = rw c.in-Add.is (ap Ok (wrapping_add_is w32 c.args.a c.args.b c.ranges.a c.ranges.b))

pub returns-in-Subtract : goal.returns-in-Subtract
unfolding computed
returns-in-Subtract c = rw c.in-Subtract.is (ap Ok (wrapping_sub_is w32 c.args.a c.args.b c.ranges.a c.ranges.b))

pub returns-in-Negate : goal.returns-in-Negate
unfolding computed
returns-in-Negate c = rw c.in-Negate.is (ap Ok (negated w32 c.args.a c.wrapping_neg.result c.ranges.a c.wrapping_neg.ensures))
