use Rattle.std.proofs.Common.{◌≡◌, ℕ, length}
use Rattle.std.specs.Prelude.{slice_get}
use Rattle.mvm_table.proofs.Distinct.{emptied_to}
use Rattle.mvm_table.proofs.sources.empty_repeats.Given as goal

abbrev pub invariant-loop-i : goal.invariant-loop-i
invariant-loop-i l = record {
  emptied : (place : ℕ) → slice_get l.rows place ≡ emptied_to l.i l.initial.rows place;
  count : length l.rows ≡ length l.firsts;
}
