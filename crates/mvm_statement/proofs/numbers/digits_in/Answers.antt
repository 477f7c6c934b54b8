use Rattle.std.proofs.Common.{ℕ, ◌+◌, ◌*◌, ◌<◌, min, get_or, ap, ◌∙◌, arith}
use Rattle.std.specs.Char.{digit_value}
use Rattle.mvm_statement.specs.Numbers.{too_large}
use Rattle.mvm_statement.proofs.DigitsIn.{value_more, digit_here}
use Rattle.mvm_statement.proofs.numbers.digits_in.Goals as goal

pub loop-unit-preserved : goal.loop-unit-preserved
loop-unit-preserved c =
    let radix = c.args.radix in
    let digits = c.args.digits.now in
    let at = c.loop-unit.unit-index in
    let value = c.loop-unit.value in
    let more = ap (λ (d : ℕ). min (value * radix + d) too_large) c.digit_value-digit.ensures in
    let digit : digit_value (get_or digits at 0) < radix = omega arith in
    record {
      value_is = c.with_digit-value.ensures ∙ more ∙ value_more radix digits at value c.requires c.loop-unit-test.true c.loop-unit.invariant.value_is;
      left_decides = c.loop-unit.invariant.left_decides ∙ digit_here radix digits at c.loop-unit-test.true digit;
    }
