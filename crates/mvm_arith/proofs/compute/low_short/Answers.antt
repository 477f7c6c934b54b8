use Rattle.mvm_arith.proofs.Reduced.{shortened}
use Rattle.mvm_arith.proofs.compute.low_short.Goals as goal

pub returns : goal.returns
returns c = shortened c.low_char.result c.args.value c.cast_signed.result c.ranges.value c.low_char.ensures c.cast_signed.ensures
