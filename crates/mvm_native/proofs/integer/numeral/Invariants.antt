use Rattle.std.proofs.Common.{◌≡◌, ◌≤◌, ◌^◌, drop}
use Rattle.mvm_native.specs.Integers.{capped, digits}
use Rattle.mvm_native.proofs.integer.numeral.Given as goal

abbrev pub invariant-loop-unit : goal.invariant-loop-unit
invariant-loop-unit l = record {
  rest : capped (digits l.value (drop l.unit-index l.units)) ≡ capped (digits 0 l.units);
  within : l.value ≤ 2 ^ 31;
}
