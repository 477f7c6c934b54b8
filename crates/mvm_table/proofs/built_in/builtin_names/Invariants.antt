use Rattle.std.proofs.Common.{◌≡◌, ◌<◌, ℕ, List, true, Some}
use Rattle.mvm_table.specs.BuiltIn.{name_at}
use Rattle.mvm_table.specs.Load.{is_in}
use Rattle.mvm_table.proofs.built_in.builtin_names.Given as goal

abbrev pub invariant-loop-place : goal.invariant-loop-place
invariant-loop-place l = (place : ℕ) (name : List ℕ) → place < l.place → name_at place ≡ Some name → is_in l.names.items name ≡ true
