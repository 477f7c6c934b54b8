use Rattle.std.proofs.Common.{◌≡◌, min, take, drop}
use Rattle.std.specs.Str.Parse.{digits_value}
use Rattle.mvm_statement.specs.Numbers.{too_large}
use Rattle.mvm_statement.proofs.DigitsIn.{all_digits}
use Rattle.mvm_statement.proofs.numbers.digits_in.Given as goal

-- the value of the digits so far; whether there are other units hangs on what is left
abbrev pub invariant-loop-unit : goal.invariant-loop-unit
invariant-loop-unit l = record {
  value_is : l.value ≡ min (digits_value l.radix (take l.unit-index l.digits)) too_large;
  left_decides : all_digits l.radix l.digits ≡ all_digits l.radix (drop l.unit-index l.digits);
}
