use Rattle.std.proofs.Common.{refl}
use Rattle.std.specs.Int.{w32, w64}
use Rattle.mvm_arith.proofs.Reduced.{narrowed}
use Rattle.mvm_arith.proofs.compute.low_int.Goals as goal

pub returns : goal.returns
returns c = narrowed w64 w32 4294967296 c.cast_unsigned.result c.args.value c.cast_signed.result c.ranges.value refl c.cast_unsigned.ensures c.cast_signed.ensures
