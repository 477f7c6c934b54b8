use Rattle.std.proofs.Common.{◌≡◌, ◌≤◌, length, drop}
use Rattle.std.specs.Cmp.Lexicographic.{slice_cmp}
use Rattle.std.specs.Ordering.{nat_cmp}
use Rattle.mvm_builtin.proofs.index.compare_text.Given as goal

abbrev pub invariant-loop-i : goal.invariant-loop-i
invariant-loop-i l = record {
  within : l.i ≤ length l.units;
  same : slice_cmp nat_cmp (drop l.i l.text) (drop l.i l.units) ≡ slice_cmp nat_cmp l.text l.units;
}
