use Rattle.mvm_native.proofs.Capped.{passed}
use Rattle.mvm_native.proofs.integer.numeral.Goals as goal

pub returns-then-value-gt2147483648 : goal.returns-then-value-gt2147483648
returns-then-value-gt2147483648 c = passed c.args.units.now c.loop-unit.unit-index c.loop-unit.value c.from.result c.loop-unit-test.true c.if-unit-lt48.false c.if-unit-ge58.false c.from.ensures c.if-value-gt2147483648.true c.loop-unit.invariant.rest
