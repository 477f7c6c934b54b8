use Rattle.std.proofs.Common.{refl}
use Rattle.std.specs.Int.{w8, w32}
use Rattle.mvm_arith.proofs.Reduced.{narrowed}
use Rattle.mvm_arith.proofs.compute.low_byte.Goals as goal

pub returns : goal.returns
returns c = narrowed w32 w8 16777216 c.cast_unsigned.result c.args.value c.cast_signed.result c.ranges.value refl c.cast_unsigned.ensures c.cast_signed.ensures
